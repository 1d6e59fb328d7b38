use Rattle.std.proofs.Common.{arith}
use Rattle.std.proofs.lemmas.Grind.{common_steps}
use Rattle.simplex_state.proofs.Moves.{keeps_bad}
use Rattle.simplex_state.specs.Rounds.{learn_round}
use Rattle.simplex_state.proofs.state.State.reject.Goals as goal

pub returns : goal.returns
unfolding learn_round
returns g c = λ made known k none.
    keeps_bad _ made known _ _ _ _ k (omega arith) none
    (λ q low. grind (arith, common_steps, c.in_ok-put_round.ensures q))
    (λ q. grind (arith, common_steps, c.in_ok-insert.ensures q))
