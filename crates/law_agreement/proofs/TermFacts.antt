-- What a view covers.
use Rattle.std.proofs.Common.{ℕ, ◌<◌, ◌≤◌, arith}
use Rattle.simplex_values.specs.Terms.{term_index, term_end, next_term_start, next_of}
use Rattle.law_agreement.specs.Terms.{Covers}

pub Covers-from_end : (length u w : ℕ) → 0 < length → u ≤ w → w ≤ term_end length u → Covers length u w
unfolding term_index term_end
Covers-from_end length u w pos le end' = grind arith

pub Covers-front : (length u w x : ℕ) → 0 < length → Covers length u w → u ≤ x → x ≤ w → Covers length u x
unfolding term_index
Covers-front length u w x pos c a b = grind arith

-- view 0 is a term by itself
pub Covers-zero : (length w : ℕ) → 0 < length → Covers length 0 w → w ≤ 0
unfolding term_index
Covers-zero length w pos c = grind arith

-- views of one term meet nothing of the next
pub Covers-apart : Covers 2 2 3 → ⊥
unfolding term_index
Covers-apart c = omega (arith, c.0)

-- what is before the next term is not behind the end of this one
pub before_next : (length u w : ℕ) → w < next_term_start length u → w ≤ term_end length u
unfolding next_term_start next_of
before_next length u w lt = omega (arith, lt)
