use Rattle.std.proofs.Common.{arith, rules, ◌∷◌, ◌<◌, ◌^◌, []}
use Rattle.std.proofs.lemmas.Grind.{common_steps}
use Rattle.simplex_state.specs.Progress.{progress_of}
use Rattle.model_rules.specs.Known.{Pruned}
use Rattle.model_rules.specs.Views.{least_active}
use Rattle.model_rules.specs.Calls.{facts_of, known_of, prune_answer}
use Rattle.simplex_state.specs.Stands.{StandsFor}
use Rattle.simplex_state.proofs.Proposing.{takes_facts}
use Rattle.simplex_state.proofs.Ahead.{last_below}
use Rattle.simplex_state.proofs.state.State.prune.Goals as goal

pub returns-clause-stands : goal.returns-clause-stands
unfolding StandsFor facts_of prune_answer progress_of least_active
returns-clause-stands g c = λ made calls s. (
    let low : c.last_finalized-last.result < 2 ^ 64 = search rules in
    takes_facts _ made calls _ (Pruned c.saturating_sub-least.result ∷ [])
    (grind (arith, common_steps, c.last_finalized-last.ensures made calls s, c.saturating_sub-least.ensures, s.settings.retention, c.le.ensures, c.if-le.false, s.progress))
    (c.forget.ensures made (known_of made calls) s
    (grind (arith, c.last_finalized-last.ensures made calls s, c.saturating_sub-least.ensures, s.settings.retention))
    (grind (arith, c.last_finalized-last.ensures made calls s, c.saturating_sub-least.ensures, last_below made (known_of made calls) (grind (arith, c.last_finalized-last.ensures made calls s, low))))
    (grind (arith, common_steps, c.le.ensures, c.if-le.false, s.progress))))

pub returns-clause-answer : goal.returns-clause-answer
unfolding StandsFor prune_answer progress_of least_active
returns-clause-answer g c = λ made calls s. grind (arith, common_steps, c.last_finalized-last.ensures made calls s, c.saturating_sub-least.ensures, s.settings.retention, c.le.ensures, c.if-le.false, s.progress)

pub returns-then-le-clause-answer : goal.returns-then-le-clause-answer
unfolding StandsFor prune_answer progress_of least_active
returns-then-le-clause-answer g c = λ made calls s. grind (arith, common_steps, c.last_finalized-last.ensures made calls s, c.saturating_sub-least.ensures, s.settings.retention, c.le.ensures, c.if-le.true, s.progress)

pub returns-then-le-clause-stands : goal.returns-then-le-clause-stands
unfolding StandsFor facts_of prune_answer progress_of least_active
returns-then-le-clause-stands g c = λ made calls s.
    takes_facts _ made calls _ [] (grind (arith, common_steps, c.last_finalized-last.ensures made calls s, c.saturating_sub-least.ensures, s.settings.retention, c.le.ensures, c.if-le.true, s.progress)) s
