-- Decisions on a proposal for the next term.
use Rattle.std.specs.Prelude.{Bool, true, false, ◌≡◌}
use Rattle.simplex_values.specs.declared.answer.Handoff.{Handoff}
use Rattle.simplex_values.specs.declared.answer.Handoff.TheVariants as handoffs

abbrev pub is_wait : {T : Type 0} → Handoff T → Bool
is_wait handoffs.Wait = true
is_wait (handoffs.Stage value) = false
is_wait (handoffs.Vote value) = false

-- the fact of the value, where there is one
abbrev pub ForStaged : {T : Type 0} → Handoff T → (T → Type 0) → Type 0
ForStaged handoffs.Wait P = Unit {0}
ForStaged (handoffs.Stage value) P = P value
ForStaged (handoffs.Vote value) P = P value

-- the same decision, on a value to which the value is related
abbrev pub IsMapped : {T U : Type 0} → Handoff T → (T → U → Type 0) → Handoff U → Type 0
IsMapped {T} {U} handoffs.Wait R to = to ≡ handoffs.Wait
IsMapped {T} {U} (handoffs.Stage value) R to = (made : U) × (to ≡ handoffs.Stage made) × R value made
IsMapped {T} {U} (handoffs.Vote value) R to = (made : U) × (to ≡ handoffs.Vote made) × R value made
