use Rattle.std.proofs.Common.{arith}
use Rattle.std.proofs.lemmas.Grind.{common_steps}
use Rattle.simplex_state.proofs.Forgotten.{keeps_kept_nullification}
use Rattle.simplex_state.proofs.state.State.keep_nullification.Goals as goal

pub returns : goal.returns
returns g c = λ made known k. (
    let put = c.in_ok-put_away.ensures.kept made known k in
    keeps_kept_nullification _ made known _ _ _ _ _ _ _ put c.in_ok-put_away.ensures.away (omega arith)
    (grind (arith, common_steps, k.settings.term_length, c.term_length-length.ensures))
    (grind (arith, common_steps, k.settings.term_length, c.term_length-length.ensures, c.published_in-self.ensures))
    (λ q. grind (arith, common_steps, c.in_ok-cover.ensures q, k.settings.term_length, c.term_length-length.ensures))
    (λ q lies. grind (arith, common_steps, c.in_ok-complete.ensures q, k.settings.term_length, c.term_length-length.ensures, lies))
    (λ q. grind (arith, common_steps, c.in_ok-hold.ensures q, c.mark_sent.ensures q, c.view-view.ensures)))
