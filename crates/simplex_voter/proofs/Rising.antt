-- Where a number stands in a rising list.
use Rattle.std.proofs.Common.{◌≡◌, ℕ, ◌+◌, ◌≤◌, List, [], ◌∷◌, ◌++◌, length, refl, arith, nat_le, Some, None}
use Rattle.std.specs.List.{position_or_len, position, insert}
use Rattle.std.proofs.lemmas.Grind.{common_steps}
use Rattle.std.proofs.lemmas.List.Edits.{insert_end}
use Rattle.std.proofs.lemmas.Bool.Decides.{nat_tests}
use Rattle.model_rules.specs.Pending.{put_number}

insert-cons : (x n : ℕ) (xs : List ℕ) (k : ℕ) → insert (x ∷ xs) (1 + k) n ≡ x ∷ insert xs k n
insert-cons x n xs k = grind (arith, common_steps)

put_number-inserted : (n : ℕ) (xs : List ℕ) → put_number n xs ≡ insert xs (position_or_len (nat_le n) xs) n
unfolding put_number
put_number-inserted n [] = refl
put_number-inserted n (x ∷ xs) = grind (arith, nat_tests, put_number-inserted n xs, insert-cons x n xs (position_or_len (nat_le n) xs))

place-within : (n : ℕ) (xs : List ℕ) → position_or_len (nat_le n) xs ≤ length xs
place-within n [] = omega arith
place-within n (x ∷ xs) = grind (arith, common_steps, place-within n xs)

-- before the number that was found
pub put_number-found : (n : ℕ) (xs : List ℕ) (place : ℕ) → position (nat_le n) xs ≡ Some place → put_number n xs ≡ insert xs place n
put_number-found n xs place found = grind (arith, nat_tests, put_number-inserted n xs)

-- at the end, where none was found
pub put_number-last : (n : ℕ) (xs : List ℕ) → position (nat_le n) xs ≡ None → put_number n xs ≡ xs ++ n ∷ []
put_number-last n xs none = grind (arith, nat_tests, put_number-inserted n xs, place-within n xs, insert_end xs n)

pub ruleset put_number_rules = (put_number-found, put_number-last)
