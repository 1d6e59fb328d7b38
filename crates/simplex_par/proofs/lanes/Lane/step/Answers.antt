use Rattle.std.proofs.Common.{refl, arith}
use Rattle.simplex_par.proofs.Stepping.{part-none, part-more, part-all}
use Rattle.simplex_par.proofs.lanes.Lane.step.Goals as goal

pub loop-k-init : goal.loop-k-init
loop-k-init g c = part-none _

pub loop-k-preserved : goal.loop-k-preserved
loop-k-preserved g c = part-more _ _ _ _ _ _ (omega arith) c.index_mut.ensures.value refl c.step.ensures c.loop-k.invariant

pub returns : goal.returns
returns g c = part-all _ _ _ (omega arith) c.loop-k.invariant
