use Rattle.std.proofs.Common.{arith}
use Rattle.std.proofs.lemmas.Grind.{common_steps}
use Rattle.std.proofs.lemmas.Result.{on_ok_weaker}
use Rattle.simplex_state.proofs.Expiring.{keeps_failed}
use Rattle.simplex_state.proofs.state.State.fail.Goals as goal

pub returns : goal.returns
returns g c = on_ok_weaker c.put_round.result (λ did. λ made known k.
    keeps_failed _ made known _ _ _ k
    (λ q. grind (arith, common_steps, did q))) c.put_round.ensures
