use Rattle.std.proofs.Common.{arith}
use Rattle.std.proofs.lemmas.Grind.{common_steps}
use Rattle.std.proofs.lemmas.Result.{on_ok_weaker}
use Rattle.simplex_state.proofs.Moves.{keeps_finalization}
use Rattle.simplex_state.specs.Rounds.{learn_round}
use Rattle.simplex_state.proofs.state.State.know_finalization.Goals as goal

pub returns : goal.returns
unfolding learn_round
returns g c = on_ok_weaker c.hold.result (λ did. λ made known k active. (
    let put = c.in_ok-put_away.ensures.kept made known k in
    keeps_finalization _ made known _ _ _ _ _ _ put c.in_ok-put_away.ensures.away (omega arith) active
    (grind (arith, common_steps, put.settings.term_length))
    (grind (arith, common_steps, c.published_in-self.ensures))
    (λ q low. grind (arith, common_steps, c.in_ok-put_round.ensures q))
    (λ q. grind (arith, common_steps, did q)))) c.hold.ensures
