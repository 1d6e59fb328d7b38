use Rattle.std.proofs.Common.{arith, rules, ◌≡◌, Option, Some, None, refl}
use Rattle.std.proofs.lemmas.Grind.{common_steps}
use Rattle.std.specs.Option.{IsSome}
use Rattle.simplex_values.specs.Maps.{found}
use Rattle.simplex_conflicts.proofs.stairs.Stairs.first_from.Goals as goal

bare : {V : Type 0} (value : Option V) → (IsSome value → ⊥) → value ≡ None
bare None never = refl
bare (Some x) never = absurd (never (search rules))

pub returns-clause-least : goal.returns-clause-least
unfolding found
returns-clause-least c = λ q le lt. bare _ (λ some. (
    let w = (c.range.ensures.in_range (search rules)).2 q (search rules) some in
    grind (arith, common_steps, w, c.next.ensures.steps, lt)))
