-- Lists of which one item is set, and tests.
use Rattle.std.proofs.Common.{◌≡◌, ◌≢◌, ℕ, ◌+◌, ◌<◌, ◌==◌, Bool, true, false, List, [], ◌∷◌, ◌++◌, length, drop, take, get_or, arith, refl, sym, set, suc, zero, ap, ◌∙◌, if◌then◌else◌}
use Rattle.std.specs.Prelude.{Some}
use Rattle.std.specs.List.{slice_get}
use Rattle.std.proofs.lemmas.List.{drop_more, take-append-drop, take-append-le, take_all}
use Rattle.std.proofs.lemmas.Grind.{common_steps}

pub skip : {A : Type 0} (b : Bool) (x y : A) → b ≡ false → (if b then x else y) ≡ y
skip true x y e = cc
skip false x y e = refl

pub pick : {A : Type 0} (b : Bool) (x y : A) → b ≡ true → (if b then x else y) ≡ x
pick true x y e = refl
pick false x y e = cc

pub not_same : (a b : ℕ) → (a == b) ≡ false → a ≢ b
not_same a b e = grind (arith, common_steps)

pub get-set : {A : Type 0} (xs : List A) (at k : ℕ) (x y : A) → slice_get (set xs at x) k ≡ Some y → at ≡ k → y ≡ x
get-set [] at k x y is e = cc
get-set (z ∷ xs) zero zero x y is e = cc
get-set (z ∷ xs) zero (suc k) x y is e = absurd (omega arith)
get-set (z ∷ xs) (suc at) zero x y is e = absurd (omega arith)
get-set (z ∷ xs) (suc at) (suc k) x y is e = get-set xs at k x y is (omega arith)

pub get-set_other : {A : Type 0} (xs : List A) (at k : ℕ) (x : A) → at ≢ k → slice_get (set xs at x) k ≡ slice_get xs k
get-set_other [] at k x e = refl
get-set_other (z ∷ xs) zero zero x e = absurd (e refl)
get-set_other (z ∷ xs) zero (suc k) x e = refl
get-set_other (z ∷ xs) (suc at) zero x e = refl
get-set_other (z ∷ xs) (suc at) (suc k) x e = get-set_other xs at k x (λ same. e (ap suc same))

-- an item that there is
pub some_at : {A : Type 0} (xs : List A) (k : ℕ) → k < length xs → (x : A) × (slice_get xs k ≡ Some x)
some_at [] k lt = absurd (omega (arith, lt))
some_at (x ∷ xs) zero lt = (x, refl)
some_at (x ∷ xs) (suc k) lt = some_at xs k (omega (arith, lt))

-- the next item, and those behind it
pub next_is : {A : Type 0} (xs : List A) (i : ℕ) (x : A) → i < length xs → x ≡ get_or xs i x → drop i xs ≡ x ∷ drop (i + 1) xs
next_is xs i x lt is = drop_more xs i x lt ∙ ap (λ e. e ∷ drop (i + 1) xs) (sym is)

pub parts_are : {A : Type 0} (xs : List A) (i : ℕ) (x : A) → i < length xs → x ≡ get_or xs i x → xs ≡ take i xs ++ x ∷ drop (i + 1) xs
parts_are xs i x lt is = sym (take-append-drop i xs) ∙ ap (λ rest. take i xs ++ rest) (next_is xs i x lt is)

-- an item that is read, whatever is read past the end
pub same_read : {A : Type 0} (xs : List A) (i : ℕ) (d e : A) → i < length xs → get_or xs i d ≡ get_or xs i e
same_read [] i d e lt = absurd (omega (arith, lt))
same_read (x ∷ xs) zero d e lt = refl
same_read (x ∷ xs) (suc i) d e lt = same_read xs i d e (omega (arith, lt))

pub read_is : {A : Type 0} (xs : List A) (i : ℕ) (d : A) → i < length xs → get_or xs i d ≡ get_or xs i (get_or xs i d)
read_is xs i d lt = same_read xs i d (get_or xs i d) lt

-- a list that is written over as a whole
pub refilled : {A : Type 0} (n : ℕ) (news olds : List A) → length news ≡ length olds → n ≡ length olds → take n (news ++ drop (length news) olds) ≡ news
refilled n news olds same len =
    take-append-le n news (drop (length news) olds) (omega (arith, same, len)) ∙ take_all n news (omega (arith, same, len))
