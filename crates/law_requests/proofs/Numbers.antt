-- Numbers that were dropped, and what stands at a number.
use Rattle.std.proofs.Common.{◌≡◌, ℕ, zero, suc, ◌+◌, ◌<◌, ◌==◌, ◌||◌, nat_lt, Bool, true, false, List, [], ◌∷◌, ◌++◌, fold, length, Some, refl, sym, ap, ◌∙◌, arith, eqb-true, if◌then◌else◌}
use Rattle.std.specs.List.{slice_get}
use Rattle.model_rules.specs.declared.request.Asked.{Asked}
use Rattle.model_rules.specs.Pending.{Opened, put_number}
use Rattle.law_run.specs.Sayings.{Each}
use Rattle.law_run.proofs.Speaking.{Each-weaker}
use Rattle.law_requests.specs.Open.{is_dropped}

-- two places of a list differ where what stands there differs
pub differ : (asked : List Asked) (n k : ℕ) (a b : Asked) → slice_get asked n ≡ Some a → slice_get asked k ≡ Some b → (a ≡ b → ⊥) → n ≡ k → ⊥
differ asked n k a b p q apart e = (let same : Some a ≡ Some b = sym p ∙ ap (slice_get asked) e ∙ q in apart (some_same a b same))
  where
    some_same : (a b : Asked) → Some a ≡ Some b → a ≡ b
    some_same a b e = cc

pub stands_below : (asked : List Asked) (n : ℕ) (a : Asked) → slice_get asked n ≡ Some a → n < length asked
stands_below [] n a e = cc
stands_below (x ∷ rest) zero a e = omega arith
stands_below (x ∷ rest) (suc n) a e = omega (arith, stands_below rest n a e)

or_false : (a b : Bool) → a ≡ false → b ≡ false → (a || b) ≡ false
or_false a b p q = ap (λ x. x || b) p ∙ q

first_false : (a b : Bool) → (a || b) ≡ false → a ≡ false
first_false true b e = cc
first_false false b e = refl

second_false : (a b : Bool) → (a || b) ≡ false → b ≡ false
second_false true b e = cc
second_false false b e = e

pub unlike : (n k : ℕ) → (n ≡ k → ⊥) → (n == k) ≡ false
unlike n k apart = at (n == k) refl
  where
    at : (b : Bool) → (n == k) ≡ b → b ≡ false
    at true e = absurd (apart (eqb-true n k e))
    at false e = refl

-- what was not dropped was dropped neither first nor then
pub second_part : (xs ys : List ℕ) (k : ℕ) → is_dropped (xs ++ ys) k ≡ false → is_dropped ys k ≡ false
second_part [] ys k e = e
second_part (x ∷ xs) ys k e = second_part xs ys k (second_false (x == k) (is_dropped (xs ++ ys) k) e)

pub first_part : (xs ys : List ℕ) (k : ℕ) → is_dropped (xs ++ ys) k ≡ false → is_dropped xs k ≡ false
first_part [] ys k e = refl
first_part (x ∷ xs) ys k e =
    or_false (x == k) (is_dropped xs k) (first_false (x == k) (is_dropped (xs ++ ys) k) e) (first_part xs ys k (second_false (x == k) (is_dropped (xs ++ ys) k) e))

-- what is dropped besides is another number
put_kept : (n k : ℕ) (xs : List ℕ) → (n ≡ k → ⊥) → is_dropped xs k ≡ false → is_dropped (put_number n xs) k ≡ false
unfolding put_number
put_kept n k [] apart e = or_false (n == k) false (unlike n k apart) refl
put_kept n k (m ∷ xs) apart e = at (nat_lt m n) (put_kept n k xs apart (second_false (m == k) (is_dropped xs k) e))
  where
    at : (b : Bool) → is_dropped (put_number n xs) k ≡ false → is_dropped (if b then m ∷ put_number n xs else n ∷ m ∷ xs) k ≡ false
    at true h = or_false (m == k) (is_dropped (put_number n xs) k) (first_false (m == k) (is_dropped xs k) e) h
    at false h = or_false (n == k) (is_dropped (m ∷ xs) k) (unlike n k apart) e

pub drop_kept : (gone : List ℕ) (n k : ℕ) (xs : List ℕ) → (n ≡ k → ⊥) → is_dropped (gone ++ xs) k ≡ false → is_dropped (gone ++ put_number n xs) k ≡ false
drop_kept [] n k xs apart e = put_kept n k xs apart e
drop_kept (g ∷ gone) n k xs apart e =
    or_false (g == k) (is_dropped (gone ++ put_number n xs) k) (first_false (g == k) (is_dropped (gone ++ xs) k) e) (drop_kept gone n k xs apart (second_false (g == k) (is_dropped (gone ++ xs) k) e))

put_each : (P : ℕ → Type 0) (n : ℕ) (xs : List ℕ) → P n → Each P xs → Each P (put_number n xs)
unfolding put_number
put_each P n [] p e = (p, tt)
put_each P n (m ∷ xs) p e = at (nat_lt m n) (put_each P n xs p e.1)
  where
    at : (b : Bool) → Each P (put_number n xs) → Each P (if b then m ∷ put_number n xs else n ∷ m ∷ xs)
    at true h = (e.0, h)
    at false h = (p, e)

pub drop_each : (P : ℕ → Type 0) (gone : List ℕ) (n : ℕ) (xs : List ℕ) → P n → Each P (gone ++ xs) → Each P (gone ++ put_number n xs)
drop_each P [] n xs p e = put_each P n xs p e
drop_each P (g ∷ gone) n xs p e = (e.0, drop_each P gone n xs p e.1)

-- a number that was not reached was not dropped
pub fresh : (k : ℕ) (xs : List ℕ) → Each (λ (n : ℕ). n < k) xs → is_dropped xs k ≡ false
fresh k [] e = refl
fresh k (n ∷ xs) e = or_false (n == k) (is_dropped xs k) (unlike n k (λ same. omega (arith, e.0, same))) (fresh k xs e.1)

pub below_more : (k : ℕ) (xs : List ℕ) → Each (λ (n : ℕ). n < k) xs → Each (λ (n : ℕ). n < k + 1) xs
below_more k xs e = Each-weaker (λ (n : ℕ). n < k) (λ (n : ℕ). n < k + 1) (λ n h. omega (arith, h)) xs e

-- of these requests those are dropped that fail a test
abbrev pub drop_failing : (Opened → Bool) → List ℕ → List Opened → List ℕ
drop_failing test dropped cs = fold (λ numbers c. if test c then numbers else put_number c.number numbers) dropped cs

pub failing_kept : (test : Opened → Bool) (gone : List ℕ) (k : ℕ) (cs : List Opened) (xs : List ℕ) → Each (λ (c : Opened). test c ≡ false → c.number ≡ k → ⊥) cs
    → is_dropped (gone ++ xs) k ≡ false → is_dropped (gone ++ drop_failing test xs cs) k ≡ false
failing_kept test gone k [] xs apart e = e
failing_kept test gone k (c ∷ cs) xs apart e = failing_kept test gone k cs (if test c then xs else put_number c.number xs) apart.1 (at (test c) refl)
  where
    at : (b : Bool) → test c ≡ b → is_dropped (gone ++ (if b then xs else put_number c.number xs)) k ≡ false
    at true t = e
    at false t = drop_kept gone c.number k xs (apart.0 t) e

pub failing_each : (P : ℕ → Type 0) (test : Opened → Bool) (gone : List ℕ) (cs : List Opened) (xs : List ℕ) → Each (λ (c : Opened). P c.number) cs → Each P (gone ++ xs) → Each P (gone ++ drop_failing test xs cs)
failing_each P test gone [] xs p e = e
failing_each P test gone (c ∷ cs) xs p e = failing_each P test gone cs (if test c then xs else put_number c.number xs) p.1 (at (test c))
  where
    at : (b : Bool) → Each P (gone ++ (if b then xs else put_number c.number xs))
    at true = e
    at false = drop_each P gone c.number xs p.0 e
