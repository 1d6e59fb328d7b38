-- Views of one term.
use Rattle.std.proofs.Common.{◌≡◌, ℕ, ◌+◌, ◌-◌, ◌*◌, ◌/◌, ◌<◌, ◌≤◌, arith}
use Rattle.std.proofs.lemmas.Grind.{common_steps}
use Rattle.std.proofs.Math.Nat.{div-lt_iff_lt-mul}
use Rattle.simplex_values.specs.Terms.{greatest_view, next_of, term_index, term_start, term_end, next_term_start}

-- a later view is of no earlier term
pub term_rises : (length a b : ℕ) → 0 < length → a ≤ b → term_index length a ≤ term_index length b
unfolding term_index
term_rises length a b some le = grind (arith, le, some)

-- up to a term's end, each view is of the term or an earlier one
in_term : (length a q : ℕ) → 0 < length → q ≤ term_index length a * length → term_index length q < term_index length a + 1
unfolding term_index
in_term length a q some le = (div-lt_iff_lt-mul {k = length} {x = q + (length - 1)} {y = (a + (length - 1)) / length + 1} some).1 (grind (arith, le, some))

-- up to the next term, each later view is of this term
pub same_term : (length a q : ℕ) → 0 < length → a ≤ q → q < next_term_start length a → term_index length q ≡ term_index length a
unfolding next_term_start term_end next_of
same_term length a q some le lt = grind (arith, lt, le, some, in_term length a q some, term_rises length a q some le)

-- views of one term have one first view, but for genesis, which is a term by itself
pub same_start : (length a q : ℕ) → 0 < length → 0 < a → a ≤ q → q < next_term_start length a → term_start length q ≡ term_start length a
unfolding term_start
same_start length a q some above le lt = grind (arith, common_steps, same_term length a q some le lt, above, le)

-- the next term begins behind the view, or there is none
pub next_later : (length a : ℕ) → 0 < length → a ≤ greatest_view → a ≤ next_term_start length a
unfolding next_term_start term_end next_of term_index
next_later length a some low = grind (arith, some, low)

-- a term begins at or before each of its views
pub start_low : (length a : ℕ) → 0 < length → term_start length a ≤ a
unfolding term_start term_index
start_low length a some = grind (arith, common_steps, some)
