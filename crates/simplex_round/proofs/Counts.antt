-- How many votes a test can leave.
use Rattle.std.proofs.Common.{arith, ℕ, zero, suc, ◌≡◌, ◌≤◌, ◌+◌, List, [], ◌∷◌, ◌++◌, Bool, length, filter, if◌then◌else◌}
use Rattle.std.specs.List.{range_with_len}
use Rattle.std.proofs.lemmas.Grind.{common_steps}
use Rattle.std.specs.Map.{values_of}
use Rattle.simplex_round.specs.declared.ballot.Ballot.{Ballot}

-- no more votes pass a test than there are
pub passing_fit : (test : Ballot → Bool) (es : List (ℕ × Ballot)) → length (filter test (values_of es)) ≤ length es
passing_fit test [] = omega arith
passing_fit test (e ∷ es) = grind (arith, common_steps, passing_fit test es)

-- one more number of a range
pub filter_range_more : (test : ℕ → Bool) (a n : ℕ)
    → filter test (range_with_len a (n + 1)) ≡ filter test (range_with_len a n) ++ (if test (a + n) then (a + n) ∷ [] else [])
filter_range_more test a zero = grind (arith, common_steps)
filter_range_more test a (suc n) = grind (arith, common_steps, filter_range_more test (a + 1) n)
