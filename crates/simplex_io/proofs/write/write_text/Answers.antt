-- One more write keeps the written part and the rest in step.
use Rattle.std.proofs.Common.{◌∙◌}
use Rattle.simplex_io.proofs.Taken.{part_more}
use Rattle.simplex_io.proofs.write.write_text.Goals as goal

pub loop-rest-preserved : goal.loop-rest-preserved
loop-rest-preserved g c = record {
  part = part_more _ _ _ _ _ _ _ c.loop-rest.invariant.part c.in_ok-n.ensures.bytes c.after-rest.ensures;
  quiet = c.in_ok-n.ensures.quiet (λ failed. cc) ∙ c.loop-rest.invariant.quiet;
}
