use Rattle.std.proofs.Common.{arith, ◌-◌, sym}
use Rattle.std.proofs.lemmas.Grind.{common_steps}
use Rattle.model_rules.specs.Calls.{known_of}
use Rattle.model_rules.specs.Views.{least_active}
use Rattle.simplex_state.specs.Stands.{StandsFor}
use Rattle.simplex_state.specs.Progress.{progress_of}
use Rattle.simplex_state.proofs.Walking.{parent_past, parent_met, parent_is}
use Rattle.simplex_state.proofs.state.State.greatest_parent.Goals as goal

pub returns-then-le : goal.returns-then-le
unfolding StandsFor progress_of
returns-then-le g c = λ made calls s.
    sym (parent_past made (known_of made calls) c.args.view (grind (arith, common_steps, c.le.ensures, c.if-le.true, s.progress)))

pub returns-then-is_met : goal.returns-then-is_met
unfolding StandsFor progress_of least_active
returns-then-is_met g c = λ made calls s.
    sym (parent_met made (known_of made calls) (c.view.inside.0 - 1) c.args.view
    (grind (arith, common_steps, c.le.ensures, c.if-le.false, s.progress, c.view.view_is))
    (grind (arith, common_steps, c.le.ensures, c.if-le.false, s.progress, c.view.view_is))
    (grind (arith, common_steps, c.is_met.ensures made (known_of made calls) s (grind (arith, common_steps, c.le.ensures, c.if-le.false, s.progress, s.active, c.view.view_is)), c.if-is_met.true)))

pub returns-then-is_some : goal.returns-then-is_some
unfolding StandsFor progress_of least_active
returns-then-is_some g c = λ made calls s. (
    let w = parent_is made (known_of made calls) c.last_certified-parent.result (c.view.inside.0 - 1) c.args.view c.gap_between.result
    (grind (arith, common_steps, c.le.ensures, c.if-le.false, s.progress, c.view.view_is))
    (c.last_certified-parent.ensures.above made (known_of made calls) s)
    (c.last_certified-parent.ensures.bound made (known_of made calls) s (grind (arith, common_steps, c.le.ensures, c.if-le.false, s.progress, c.view.view_is)))
    (c.last_certified-parent.ensures.certified made (known_of made calls) s)
    (c.last_certified-parent.ensures.greatest made (known_of made calls) s)
    (grind (arith, common_steps, c.is_met.ensures made (known_of made calls) s (grind (arith, common_steps, c.le.ensures, c.if-le.false, s.progress, s.active, c.view.view_is)), c.if-is_met.false))
    (c.gap_between.ensures made (known_of made calls) s (grind (arith, s.active, c.last_certified-parent.ensures.above made (known_of made calls) s))) in
    grind (arith, common_steps, w, c.is_some.ensures, c.if-is_some.true))

pub returns : goal.returns
unfolding StandsFor progress_of least_active
returns g c = λ made calls s. (
    let w = parent_is made (known_of made calls) c.last_certified-parent.result (c.view.inside.0 - 1) c.args.view c.gap_between.result
    (grind (arith, common_steps, c.le.ensures, c.if-le.false, s.progress, c.view.view_is))
    (c.last_certified-parent.ensures.above made (known_of made calls) s)
    (c.last_certified-parent.ensures.bound made (known_of made calls) s (grind (arith, common_steps, c.le.ensures, c.if-le.false, s.progress, c.view.view_is)))
    (c.last_certified-parent.ensures.certified made (known_of made calls) s)
    (c.last_certified-parent.ensures.greatest made (known_of made calls) s)
    (grind (arith, common_steps, c.is_met.ensures made (known_of made calls) s (grind (arith, common_steps, c.le.ensures, c.if-le.false, s.progress, s.active, c.view.view_is)), c.if-is_met.false))
    (c.gap_between.ensures made (known_of made calls) s (grind (arith, s.active, c.last_certified-parent.ensures.above made (known_of made calls) s))) in
    grind (arith, common_steps, w, c.is_some.ensures, c.if-is_some.false))
