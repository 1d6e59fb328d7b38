-- The gaps, in the words of the rule.
use Rattle.std.specs.Prelude.{◌≡◌, ℕ, ◌<◌, ◌⊎◌, true, false, List}
use Rattle.simplex_values.specs.Terms.{term_index}
use Rattle.model_rules.specs.Repair.{RepairCall, is_nullified, is_failed, repair_floor, top_of}

-- each view of the view's term that lies between the floor and the view is covered
abbrev pub IsLeast : ℕ → List RepairCall → ℕ → Type 0
IsLeast length calls view = (w : ℕ) → repair_floor calls < w
    → w < view → term_index length w ≡ term_index length view → is_nullified length calls w ≡ true

-- the view is above the floor and not covered, and it is the least such view of its term below the top, or it failed
abbrev pub IsLacking : ℕ → List RepairCall → ℕ → Type 0
IsLacking length calls view =
    (repair_floor calls < view) × (is_nullified length calls view ≡ false)
    × (((view < top_of length calls) × IsLeast length calls view) ⊎ (is_failed calls view ≡ true))
