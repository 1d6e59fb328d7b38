-- Lists of which one item is set, or to which one is added.
use Rattle.std.proofs.Common.{◌≡◌, ◌≢◌, ◌<◌, ◌≤◌, ℕ, List, [], ◌∷◌, ◌++◌, arith, refl, set, length, ◌-◌, suc, zero, ap, if◌then◌else◌, filter, drop, get_or, ◌+◌, Bool, sym, ◌∙◌}
use Rattle.std.specs.Prelude.{◌==◌, Some}
use Rattle.std.specs.List.{slice_get, range_with_len}
use Rattle.std.proofs.lemmas.Grind.{common_steps}
use Rattle.std.proofs.lemmas.List.{drop_more}

-- the item that was set
pub slice_get-set : {A : Type 0} (xs : List A) (at k : ℕ) (x y : A) → slice_get (set xs at x) k ≡ Some y → at ≡ k → y ≡ x
slice_get-set [] at k x y is e = cc
slice_get-set (z ∷ xs) zero zero x y is e = cc
slice_get-set (z ∷ xs) zero (suc k) x y is e = absurd (omega arith)
slice_get-set (z ∷ xs) (suc at) zero x y is e = absurd (omega arith)
slice_get-set (z ∷ xs) (suc at) (suc k) x y is e = slice_get-set xs at k x y is (omega arith)

-- and every other one
pub slice_get-set_other : {A : Type 0} (xs : List A) (at k : ℕ) (x : A) → at ≢ k → slice_get (set xs at x) k ≡ slice_get xs k
slice_get-set_other [] at k x e = refl
slice_get-set_other (z ∷ xs) zero zero x e = absurd (e refl)
slice_get-set_other (z ∷ xs) zero (suc k) x e = refl
slice_get-set_other (z ∷ xs) (suc at) zero x e = refl
slice_get-set_other (z ∷ xs) (suc at) (suc k) x e = slice_get-set_other xs at k x (λ same. e (ap suc same))

-- an item more
pub slice_get-push : {A : Type 0} (xs : List A) (x : A) (k : ℕ) → slice_get (xs ++ x ∷ []) k ≡ (if length xs == k then Some x else slice_get xs k)
slice_get-push [] x zero = refl
slice_get-push [] x (suc k) = grind (arith, common_steps)
slice_get-push (y ∷ xs) x zero = grind (arith, common_steps)
slice_get-push (y ∷ xs) x (suc k) = grind (arith, common_steps, slice_get-push xs x k)

-- the first of two lists
pub slice_get-front : {A : Type 0} (xs ys : List A) (k : ℕ) → k < length xs → slice_get (xs ++ ys) k ≡ slice_get xs k
slice_get-front [] ys k lt = absurd (omega (arith, lt))
slice_get-front (x ∷ xs) ys zero lt = refl
slice_get-front (x ∷ xs) ys (suc k) lt = slice_get-front xs ys k (omega (arith, lt))

minus_none : (k : ℕ) → k - 0 ≡ k
minus_none k = omega arith

-- and the second
pub slice_get-past_front : {A : Type 0} (xs ys : List A) (k : ℕ) → length xs ≤ k → slice_get (xs ++ ys) k ≡ slice_get ys (k - length xs)
slice_get-past_front [] ys k le = rw (minus_none k) refl
slice_get-past_front (x ∷ xs) ys zero le = absurd (omega (arith, le))
slice_get-past_front (x ∷ xs) ys (suc k) le = grind (arith, common_steps, slice_get-past_front xs ys k (omega (arith, le)))

range_more : (test : ℕ → Bool) (a n : ℕ)
    → filter test (range_with_len a (n + 1)) ≡ filter test (range_with_len a n) ++ (if test (a + n) then (a + n) ∷ [] else [])
range_more test a zero = grind (arith, common_steps)
range_more test a (suc n) = grind (arith, common_steps, range_more test (a + 1) n)

none_plus : (n : ℕ) → 0 + n ≡ n
none_plus n = omega arith

-- one more number of a range
pub filter-range_more : (test : ℕ → Bool) (n : ℕ)
    → filter test (range_with_len 0 (n + 1)) ≡ filter test (range_with_len 0 n) ++ (if test n then n ∷ [] else [])
filter-range_more test n = range_more test 0 n ∙ ap (λ k. filter test (range_with_len 0 n) ++ (if test k then k ∷ [] else [])) (none_plus n)

-- the next item of what is left
pub next-left : {A : Type 0} (xs : List A) (i : ℕ) (x : A) → i < length xs → x ≡ get_or xs i x → drop i xs ≡ x ∷ drop (i + 1) xs
next-left xs i x lt is = drop_more xs i x lt ∙ ap (λ y. y ∷ drop (i + 1) xs) (sym is)
