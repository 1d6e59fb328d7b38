-- One item behind another.
use Rattle.std.proofs.Common.{◌≡◌, ℕ, ◌+◌, ◌<◌, List, [], ◌∷◌, ◌++◌, length, get_or, take, refl, sym, ap, ◌∙◌, arith, append_assoc, append-nil, length-take-le}
use Rattle.std.specs.List.{flat_map, enumerate_from}
use Rattle.std.proofs.lemmas.List.{take_more}

flat_more : {A B : Type 0} (f : A → List B) (xs ys : List A) → flat_map f (xs ++ ys) ≡ flat_map f xs ++ flat_map f ys
flat_more f [] ys = refl
flat_more f (x ∷ xs) ys = ap (λ (zs : List _). f x ++ zs) (flat_more f xs ys) ∙ sym (append_assoc (f x) (flat_map f xs) (flat_map f ys))

next_item : {X : Type 0} (xs : List X) (i : ℕ) (x : X) → i < length xs → x ≡ get_or xs i x → take (i + 1) xs ≡ take i xs ++ x ∷ []
next_item xs i x low is = take_more xs i x low ∙ ap (λ (y : _). take i xs ++ y ∷ []) (sym is)

enumerate_more : {X : Type 0} (n : ℕ) (xs : List X) (x : X) → enumerate_from n (xs ++ x ∷ []) ≡ enumerate_from n xs ++ (n + length xs, x) ∷ []
enumerate_more n [] x = ap (λ (m : ℕ). (m, x) ∷ []) (omega arith)
enumerate_more n (y ∷ xs) x =
    ap (λ (ys : List _). (n, y) ∷ ys) (enumerate_more (n + 1) xs x ∙ ap (λ (m : ℕ). enumerate_from (n + 1) xs ++ (m, x) ∷ []) (omega arith))

flat_one : {A B : Type 0} (f : A → List B) (xs : List A) (x : A) → flat_map f (xs ++ x ∷ []) ≡ flat_map f xs ++ f x
flat_one f xs x = flat_more f xs (x ∷ []) ∙ ap (λ (ys : List _). flat_map f xs ++ ys) (append-nil (f x))

-- one more, with its place
pub placed_more : {X : Type 0} (f : ℕ × X → List ℕ) (base : List ℕ) (xs : List X) (i : ℕ) (x : X) → i < length xs → x ≡ get_or xs i x
    → (base ++ flat_map f (enumerate_from 0 (take i xs))) ++ f (i, x) ≡ base ++ flat_map f (enumerate_from 0 (take (i + 1) xs))
placed_more f base xs i x low is =
    let many : 0 + length (take i xs) ≡ i = omega (arith, length-take-le i xs (omega arith)) in
    append_assoc base (flat_map f (enumerate_from 0 (take i xs))) (f (i, x))
    ∙ ap (λ (ys : List ℕ). base ++ ys) (
    ap (λ (n : ℕ). flat_map f (enumerate_from 0 (take i xs)) ++ f (n, x)) (sym many)
    ∙ sym (flat_one f (enumerate_from 0 (take i xs)) (0 + length (take i xs), x))
    ∙ ap (flat_map f) (sym (enumerate_more 0 (take i xs) x) ∙ ap (enumerate_from 0) (sym (next_item xs i x low is))))

-- one more
pub item_more : {X : Type 0} (f : X → List ℕ) (base : List ℕ) (xs : List X) (i : ℕ) (x : X) → i < length xs → x ≡ get_or xs i x
    → (base ++ flat_map f (take i xs)) ++ f x ≡ base ++ flat_map f (take (i + 1) xs)
item_more f base xs i x low is =
    append_assoc base (flat_map f (take i xs)) (f x)
    ∙ ap (λ (ys : List ℕ). base ++ ys) (sym (flat_one f (take i xs) x) ∙ ap (flat_map f) (sym (next_item xs i x low is)))
