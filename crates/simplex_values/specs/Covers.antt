-- Which views a nullification gives up beside its own.
use Rattle.std.specs.Prelude.{ℕ, ◌==◌, ◌&&◌, nat_le, Bool}
use Rattle.simplex_values.specs.Terms.{term_index}

-- whether both lie in one term and the second is not before the first
unfoldable pub covers : ℕ → ℕ → ℕ → Bool
covers length view other = term_index length view == term_index length other && nat_le view other
