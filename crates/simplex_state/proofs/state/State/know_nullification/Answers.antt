use Rattle.std.proofs.Common.{arith}
use Rattle.std.proofs.lemmas.Grind.{common_steps}
use Rattle.std.proofs.lemmas.Result.{on_ok_weaker}
use Rattle.simplex_state.proofs.Moves.{keeps_nullification}
use Rattle.simplex_state.proofs.state.State.know_nullification.Goals as goal

pub returns : goal.returns
returns g c = on_ok_weaker c.hold.result (λ did. λ made known k active. (
    let put = c.in_ok-put_away.ensures.kept made known k in
    keeps_nullification _ made known _ _ _ _ _ _ _ put c.in_ok-put_away.ensures.away (omega arith) active
    (grind (arith, common_steps, k.settings.term_length, c.term_length-length.ensures))
    (grind (arith, common_steps, k.settings.term_length, c.term_length-length.ensures, c.published_in-self.ensures))
    (λ q. grind (arith, common_steps, c.in_ok-cover.ensures q, k.settings.term_length, c.term_length-length.ensures))
    (λ q lies. grind (arith, common_steps, c.in_ok-complete.ensures q, k.settings.term_length, c.term_length-length.ensures, lies))
    (λ q. grind (arith, common_steps, did q)))) c.hold.ensures
