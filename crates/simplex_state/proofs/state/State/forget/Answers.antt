use Rattle.std.proofs.Common.{arith}
use Rattle.std.proofs.lemmas.Grind.{common_steps}
use Rattle.simplex_state.proofs.Forgetting.{keeps_pruned, covers_stay}
use Rattle.simplex_state.proofs.state.State.forget.Goals as goal

pub returns : goal.returns
returns g c = λ made known k active ahead rises.
    keeps_pruned _ made known c.args.least _ _ _ _ _ _ _ _ _ k active ahead rises
    (grind (arith, common_steps))
    (λ q le. grind (arith, c.drop_rounds.ensures q, le))
    (λ q le. grind (arith, c.remove_below.ensures.kept q, le))
    (λ q le. covers_stay made.term_length _ _ c.args.least q k.settings.some_length (λ t l. grind (arith, c.drop_below.ensures.kept t, l, c.term_index.ensures, k.settings.term_length)) le)
    (λ q le. grind (arith, c.remove_below-2.ensures.kept q, le))
    (λ p u kind le. grind (arith, c.forget.ensures p u kind, le))
    (λ q le. grind (arith, c.forget_sent.ensures.kept q, le))
    (λ q. grind (arith, c.forget_sent.ensures.unsent q))
    (λ q le. grind (arith, c.forget_opened.ensures.kept q, le))
    (λ q le. grind (arith, c.forget_opened.ensures.opening q, le, k.progress, k.settings.term_length))
    (λ q. grind (arith, c.forget_opened.ensures.unsent q))
    (λ q le. grind (arith, c.forget_sent-2.ensures.kept q, le))
    (λ q. grind (arith, c.forget_sent-2.ensures.unsent q))
