-- Counting the members that were seen.
use Rattle.std.proofs.Common.{arith, zero-add, refl, ap, nat_le, ℕ, zero, suc, ◌≡◌, ◌+◌, ◌≤◌, List, [], ◌∷◌, ◌++◌, Bool, length, filter, if◌then◌else◌}
use Rattle.std.specs.List.{range_with_len}
use Rattle.std.proofs.lemmas.Grind.{common_steps}
use Rattle.model_steps.specs.Batcher.{Standing, was_seen, some_passes}
use Rattle.simplex_batcher.specs.declared.seen.Seen.{Seen}
use Rattle.simplex_batcher.specs.Activity.{last_seen, seen_in}

-- one more number of a range
pub filter_range_more : (test : ℕ → Bool) (a n : ℕ)
    → filter test (range_with_len a (n + 1)) ≡ filter test (range_with_len a n) ++ (if test (a + n) then (a + n) ∷ [] else [])
filter_range_more test a zero = grind (arith, common_steps)
filter_range_more test a (suc n) = grind (arith, common_steps, filter_range_more test (a + 1) n)

-- and how many pass
pub count_more : (test : ℕ → Bool) (n : ℕ)
    → length (filter test (range_with_len 0 (n + 1))) ≡ length (filter test (range_with_len 0 n)) + (if test n then 1 else 0)
count_more test n = rw (filter_range_more test 0 n, zero-add n) (grind (arith, common_steps))

-- tests that agree leave the same
pub filter_same : {A : Type 0} (p q : A → Bool) → ((x : A) → p x ≡ q x) → (xs : List A) → filter p xs ≡ filter q xs
filter_same p q same [] = grind (arith, common_steps)
filter_same p q same (x ∷ xs) = let rest = filter_same p q same xs in let is = same x in grind (arith, common_steps, rest, is)

-- and tests that agree from a number on leave the same of a range from there
pub filter_same_from : (p q : ℕ → Bool) (n a : ℕ) → ((x : ℕ) → a ≤ x → p x ≡ q x) → filter p (range_with_len a n) ≡ filter q (range_with_len a n)
filter_same_from p q zero a same = refl
filter_same_from p q (suc n) a same =
    let from : a ≤ a = omega arith in
    let is = same a from in
    let rest = filter_same_from p q n (a + 1) (λ x after. let before : a ≤ x = omega arith in same x before) in
    grind (arith, common_steps, rest, is)

-- as many were seen by what is held as by the batcher's standing
pub seen-same : (seen : Seen) (standing : Standing) (since : ℕ) → ((q : ℕ) → last_seen seen q ≡ standing.seen q) → (n m : ℕ) → n ≡ m
    → length (filter (seen_in seen since) (range_with_len 0 n)) ≡ length (filter (was_seen standing since) (range_with_len 0 m))
unfolding seen_in was_seen
seen-same seen standing since is n m same =
    rw (same, filter_same (seen_in seen since) (was_seen standing since) (λ q. ap (some_passes (nat_le since)) (is q)) (range_with_len 0 m)) refl
