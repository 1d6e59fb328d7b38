use Rattle.std.proofs.Common.{arith, rules, ◌≡◌, ℕ, Option, Some, None, refl}
use Rattle.std.proofs.lemmas.Grind.{common_steps}
use Rattle.std.specs.Option.{IsSome}
use Rattle.simplex_values.specs.Maps.{found}
use Rattle.simplex_repair.proofs.taken.range_up_to.Goals as goal

bare : (value : Option ℕ) → (IsSome value → ⊥) → value ≡ None
bare None never = refl
bare (Some x) never = absurd (never (search rules))

pub returns-in-Some-clause-greatest : goal.returns-in-Some-clause-greatest
unfolding found
returns-in-Some-clause-greatest c = λ q lt le. bare _ (λ some. (
    let w = (c.range.ensures.in_range (search rules)).4 _ _ c.in-Some.ensures.steps q (search rules) some in
    grind (arith, common_steps, w, lt)))
