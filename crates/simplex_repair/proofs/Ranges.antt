-- What passes a test in a range of numbers.
use Rattle.std.proofs.Common.{◌≡◌, ℕ, zero, suc, ◌+◌, ◌-◌, ◌<◌, ◌≤◌, ◌&&◌, ◌∷◌, [], Bool, true, false, List, filter, max, refl, sym, ◌∙◌, arith}
use Rattle.std.proofs.lemmas.Grind.{common_steps}
use Rattle.std.specs.List.{range_with_len}

-- where nothing passes, nothing is left
pub none_left : (test : ℕ → Bool) (a m : ℕ) → ((q : ℕ) → a ≤ q → q < a + m → test q ≡ false) → filter test (range_with_len a m) ≡ []
none_left test a zero none = refl
none_left test a (suc m) none =
    (let here = none a (omega arith) (omega arith) in
    let rest = none_left test (a + 1) m (λ q l h. none q (omega (arith, l)) (omega (arith, h))) in
    grind (arith, common_steps, here, rest))

-- what fails at the front may be left out
pub skip_front : (test : ℕ → Bool) (a d m : ℕ) → ((q : ℕ) → a ≤ q → q < a + d → q < a + m → test q ≡ false)
    → filter test (range_with_len (a + d) (m - d)) ≡ filter test (range_with_len a m)
skip_front test a zero m none = grind arith
skip_front test a (suc d) zero none = grind arith
skip_front test a (suc d) (suc m) none =
    (let here = none a (omega arith) (omega arith) (omega arith) in
    let rest = skip_front test (a + 1) d m (λ q l h k. none q (omega (arith, l)) (omega (arith, h)) (omega (arith, k))) in
    grind (arith, common_steps, here, rest))

-- what fails at the end may be left out
pub skip_end : (test : ℕ → Bool) (a m k : ℕ) → ((q : ℕ) → a + m ≤ q → q < a + m + k → test q ≡ false)
    → filter test (range_with_len a (m + k)) ≡ filter test (range_with_len a m)
skip_end test a zero k none =
    (let rest = none_left test a k (λ q l h. none q (omega (arith, l)) (omega (arith, h))) in
    grind (arith, common_steps, rest))
skip_end test a (suc m) k none =
    (let rest = skip_end test (a + 1) m k (λ q l h. none q (omega (arith, l)) (omega (arith, h))) in
    let e : suc m + k ≡ suc (m + k) = omega arith in
    rw e (grind (arith, common_steps, rest)))

true_is_false : true ≡ false → (b : Bool) → b ≡ false
true_is_false e b = cc

pub never : (b : Bool) → (b ≡ true → true ≡ false) → b ≡ false
never false h = refl
never true h = h refl

-- the whole range from 0 gives what the part gives in which all that passes stands
whole_range : (test : ℕ → Bool) (a m n : ℕ) → ((q : ℕ) → test q ≡ true → a ≤ q) → ((q : ℕ) → test q ≡ true → q < a + m) → a + m ≤ n
    → filter test (range_with_len a m) ≡ filter test (range_with_len 0 n)
whole_range test a m n low high fits =
    (let end' = skip_end test a m (n - (a + m)) (λ q l h. never (test q) (λ t. absurd (omega (arith, high q t, l)))) in
    let front = skip_front test 0 a n (λ q l h k. never (test q) (λ t. absurd (omega (arith, low q t, h)))) in
    grind (arith, end', front, fits))

-- two ranges in both of which all that passes stands give the same
pub same_range : (test : ℕ → Bool) (a m b n : ℕ) → ((q : ℕ) → test q ≡ true → a ≤ q) → ((q : ℕ) → test q ≡ true → q < a + m)
    → ((q : ℕ) → test q ≡ true → b ≤ q) → ((q : ℕ) → test q ≡ true → q < b + n)
    → filter test (range_with_len a m) ≡ filter test (range_with_len b n)
same_range test a m b n low high low' high' =
    whole_range test a m (max (a + m) (b + n)) low high (omega arith)
    ∙ sym (whole_range test b n (max (a + m) (b + n)) low' high' (omega arith))

-- tests that agree in a range leave the same of it
pub filter_alike : (p q : ℕ → Bool) (a m : ℕ) → ((v : ℕ) → a ≤ v → v < a + m → p v ≡ q v) → filter p (range_with_len a m) ≡ filter q (range_with_len a m)
filter_alike p q a zero e = refl
filter_alike p q a (suc m) e =
    (let here = e a (omega arith) (omega arith) in
    let rest = filter_alike p q (a + 1) m (λ v l h. e v (omega (arith, l)) (omega (arith, h))) in
    grind (arith, common_steps, here, rest))

-- what passes one test and then another
pub filter_twice : (p q : ℕ → Bool) (xs : List ℕ) → filter p (filter q xs) ≡ filter (λ x. q x && p x) xs
filter_twice p q [] = refl
filter_twice p q (x ∷ xs) = grind (arith, common_steps, filter_twice p q xs)
