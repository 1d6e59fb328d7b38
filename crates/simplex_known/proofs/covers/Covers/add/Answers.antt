use Rattle.std.proofs.Common.{arith}
use Rattle.std.proofs.lemmas.Grind.{common_steps}
use Rattle.std.proofs.lemmas.Result.{on_ok_weaker}
use Rattle.simplex_known.proofs.covers.Covers.add.Goals as goal

pub returns-clause-stands : goal.returns-clause-stands
returns-clause-stands c = on_ok_weaker c.complete.result (λ did covered stands.
    record {
      some_length = stands.some_length;
      least = λ view. grind (arith, common_steps, c.in_ok-cover.ensures view, stands.least view);
      whole = λ view held. grind (arith, common_steps, did view held, stands.whole view);
    }) c.complete.ensures
