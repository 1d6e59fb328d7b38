use Rattle.std.proofs.Common.{arith}
use Rattle.std.proofs.lemmas.Grind.{common_steps}
use Rattle.simplex_state.proofs.Moves.{keeps_good}
use Rattle.simplex_state.specs.Rounds.{learn_round}
use Rattle.simplex_state.proofs.state.State.approve.Goals as goal

pub returns : goal.returns
unfolding learn_round
returns g c = λ made known k none. (
    let put = c.in_ok-put_away.ensures.kept made known k in
    keeps_good _ made known _ _ _ _ _ _ put c.in_ok-put_away.ensures.away (omega arith) none
    (grind (arith, common_steps, put.settings.term_length, c.next-next.ensures))
    (grind (arith, common_steps, c.published_in-self.ensures, c.next-next.ensures))
    (λ q low. grind (arith, common_steps, c.in_ok-put_round.ensures q))
    (λ q. grind (arith, common_steps, c.in_ok-add.ensures.ok q)))
