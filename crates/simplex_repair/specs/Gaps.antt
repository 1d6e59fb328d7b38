-- Which views become gaps.
use Rattle.std.specs.Prelude.{ℕ, ◌+◌, ◌-◌, List, filter, if◌then◌else◌}
use Rattle.std.specs.List.{range_with_len}
use Rattle.model_rules.specs.Repair.{RepairCall, is_gap}

-- the gaps behind one view and up to another, in rising order
unfoldable pub gaps_between : ℕ → List RepairCall → ℕ → ℕ → List ℕ
gaps_between length calls behind last = filter (is_gap length calls) (range_with_len (behind + 1) (last - behind))

-- up to where gaps were asked for, where none stands behind the view: to the view, if it is a gap, else to the one before
unfoldable pub asked_to : ℕ → List RepairCall → ℕ → ℕ
asked_to length calls first = if is_gap length calls first then first else first - 1
