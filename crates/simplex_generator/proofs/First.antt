-- The first items of a list that pass, found one after another.
use Rattle.std.proofs.Common.{◌≡◌, ◌<◌, ◌≤◌, ◌+◌, ◌-◌, ℕ, zero, suc, Bool, true, false, List, [], ◌∷◌, ◌++◌, length, take, drop, get_or, refl, sym, ap, ◌∙◌, arith, append_assoc, append-nil, length-append}
use Rattle.std.specs.Prelude.{filter}
use Rattle.std.proofs.lemmas.List.{drop_more, drop_all}

-- so many are found, and what passes of the list that is left, up to the most, is behind them
abbrev pub found : {A : Type 0} → (A → Bool) → ℕ → List A → List A → List A
found test most first left = first ++ take (most - length first) (filter test left)

-- one that passes
pub found_one : {A : Type 0} (test : A → Bool) (most : ℕ) (first left : List A) (item : A) → length first < most → test item ≡ true
    → found test most (first ++ item ∷ []) left ≡ found test most first (item ∷ left)
found_one {A} test most first left item room passes =
    let e : most - length (first ++ item ∷ []) ≡ most - length first - 1 = omega (arith, length-append first (item ∷ [])) in
    rw (passes, e) (append_assoc first (item ∷ []) (take (most - length first - 1) (filter test left)) ∙ ap (λ rest. first ++ rest) (sym (took (most - length first) (filter test left) (omega (arith, room)))))
  where
    took : (n : ℕ) (rest : List A) → 0 < n → take n (item ∷ rest) ≡ item ∷ take (n - 1) rest
    took zero rest some = absurd (omega (arith, some))
    took (suc n) rest some = let same : suc n - 1 ≡ n = omega arith in rw same refl

-- one that does not
pub found_other : {A : Type 0} (test : A → Bool) (most : ℕ) (first left : List A) (item : A) → test item ≡ false
    → found test most first left ≡ found test most first (item ∷ left)
found_other test most first left item fails = rw fails refl

-- all that there may be
pub found_most : {A : Type 0} (test : A → Bool) (most : ℕ) (first left : List A) → most ≤ length first → found test most first left ≡ first
found_most test most first left full =
    let none : most - length first ≡ 0 = omega (arith, full) in
    rw none (append-nil first)

-- all of the list
pub found_all : {A : Type 0} (test : A → Bool) (most at : ℕ) (first items : List A) → length items ≤ at → found test most first (drop at items) ≡ first
found_all {A} test most at first items ends = rw (drop_all at items ends) (ap (λ rest. first ++ rest) (none (most - length first)) ∙ append-nil first)
  where
    none : (n : ℕ) → take n (filter test []) ≡ []
    none zero = refl
    none (suc n) = refl

-- the next of those that are left
pub left_more : {A : Type 0} (items : List A) (at : ℕ) (item : A) → at < length items → item ≡ get_or items at item → drop at items ≡ item ∷ drop (at + 1) items
left_more items at item within is = drop_more items at item within ∙ ap (λ i. i ∷ drop (at + 1) items) (sym is)
