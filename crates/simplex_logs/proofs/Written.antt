-- One line behind another.
use Rattle.std.proofs.Common.{◌≡◌, ℕ, ◌+◌, ◌<◌, List, [], ◌∷◌, ◌++◌, length, get_or, take, sym, ap, ◌∙◌, arith, append_assoc, append-nil, length-take-le}
use Rattle.std.specs.List.{flat_map, enumerate_from}
use Rattle.simplex_logs.proofs.Told.{flat_more, next_item}

enumerate_more : {X : Type 0} (n : ℕ) (xs : List X) (x : X) → enumerate_from n (xs ++ x ∷ []) ≡ enumerate_from n xs ++ (n + length xs, x) ∷ []
enumerate_more n [] x = ap (λ (m : ℕ). (m, x) ∷ []) (omega arith)
enumerate_more n (y ∷ xs) x =
    ap (λ (ys : List _). (n, y) ∷ ys) (enumerate_more (n + 1) xs x ∙ ap (λ (m : ℕ). enumerate_from (n + 1) xs ++ (m, x) ∷ []) (omega arith))

flat_one : {A B : Type 0} (f : A → List B) (xs : List A) (x : A) → flat_map f (xs ++ x ∷ []) ≡ flat_map f xs ++ f x
flat_one f xs x = flat_more f xs (x ∷ []) ∙ ap (λ (ys : List _). flat_map f xs ++ ys) (append-nil (f x))

-- one more entry
pub lines_more : {X : Type 0} (f : ℕ × X → List ℕ) (base : List ℕ) (xs : List X) (i : ℕ) (x : X) → i < length xs → x ≡ get_or xs i x
    → (base ++ flat_map f (enumerate_from 1 (take i xs))) ++ f (i + 1, x) ≡ base ++ flat_map f (enumerate_from 1 (take (i + 1) xs))
lines_more f base xs i x low is =
    let many : 1 + length (take i xs) ≡ i + 1 = omega (arith, length-take-le i xs (omega arith)) in
    append_assoc base (flat_map f (enumerate_from 1 (take i xs))) (f (i + 1, x))
    ∙ ap (λ (ys : List ℕ). base ++ ys) (
    ap (λ (n : ℕ). flat_map f (enumerate_from 1 (take i xs)) ++ f (n, x)) (sym many)
    ∙ sym (flat_one f (enumerate_from 1 (take i xs)) (1 + length (take i xs), x))
    ∙ ap (flat_map f) (sym (enumerate_more 1 (take i xs) x) ∙ ap (enumerate_from 1) (sym (next_item xs i x low is))))

-- one more log
pub flat_item : {X : Type 0} (f : X → List ℕ) (xs : List X) (i : ℕ) (x : X) → i < length xs → x ≡ get_or xs i x
    → flat_map f (take i xs) ++ f x ≡ flat_map f (take (i + 1) xs)
flat_item f xs i x low is = sym (flat_one f (take i xs) x) ∙ ap (flat_map f) (sym (next_item xs i x low is))
