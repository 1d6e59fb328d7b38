use Rattle.std.proofs.Common.{◌≡◌, ℕ, ◌-◌, ◌≤◌, true, not, find}
use Rattle.std.specs.List.{range_with_len}
use Rattle.simplex_values.specs.Terms.{term_index}
use Rattle.simplex_state.specs.Ranges.{holds}
use Rattle.simplex_state.specs.Stands.{covered_in}
use Rattle.simplex_state.proofs.ancestry.gap_from.Given as goal

abbrev pub invariant-loop-length : goal.invariant-loop-length
invariant-loop-length l =
    (l.fn.first ≤ l.view)
    × (((q : ℕ) → l.fn.first ≤ q → holds l.whole (term_index l.length q) ≡ true → covered_in l.length l.covered q ≡ true)
    → find (λ v. not (covered_in l.length l.covered v)) (range_with_len l.view (l.end - l.view))
    ≡ find (λ v. not (covered_in l.length l.covered v)) (range_with_len l.fn.first (l.end - l.fn.first)))

abbrev pub decreases-loop-length : goal.decreases-loop-length
decreases-loop-length l = l.end - l.view
