use Rattle.std.proofs.Common.{arith}
use Rattle.std.proofs.lemmas.Grind.{common_steps}
use Rattle.std.proofs.lemmas.Result.{on_ok_weaker}
use Rattle.simplex_state.proofs.Moves.{keeps_notarization}
use Rattle.simplex_state.specs.Rounds.{learn_round}
use Rattle.simplex_state.proofs.state.State.know_notarization.Goals as goal

pub returns : goal.returns
unfolding learn_round
returns g c = on_ok_weaker c.hold.result (λ did. λ made known k active.
    keeps_notarization _ made known _ _ _ _ _ k (omega arith) active
    (λ q low. grind (arith, common_steps, c.in_ok-put_round.ensures q))
    (λ q. grind (arith, common_steps, c.in_ok-add.ensures.ok q))
    (λ q. grind (arith, common_steps, did q))) c.hold.ensures
