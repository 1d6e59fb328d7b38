-- Which views a view covers, as a fact.
use Rattle.std.specs.Prelude.{ℕ, ◌≡◌, ◌≤◌}
use Rattle.simplex_values.specs.Terms.{term_index}

-- both views are of one term, and the second is not before the first
abbrev pub Covers : ℕ → ℕ → ℕ → Type 0
Covers length u w = (term_index length u ≡ term_index length w) × (u ≤ w)
