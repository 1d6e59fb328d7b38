-- One line behind another.
use Rattle.std.proofs.Common.{◌≡◌, ℕ, ◌+◌, ◌<◌, List, [], ◌∷◌, ◌++◌, length, get_or, take, sym, ap, ◌∙◌, arith, append_assoc, append-nil, length-take-le}
use Rattle.std.specs.List.{flat_map, enumerate_from}
use Rattle.std.proofs.lemmas.List.{take_more}
use Rattle.simplex_logs.proofs.Told.{flat_more}

enumerate_more : {X : Type 0} (n : ℕ) (xs : List X) (x : X) → enumerate_from n (xs ++ x ∷ []) ≡ enumerate_from n xs ++ (n + length xs, x) ∷ []
enumerate_more n [] x = ap (λ (m : ℕ). (m, x) ∷ []) (omega arith)
enumerate_more n (y ∷ xs) x =
    ap (λ (ys : List _). (n, y) ∷ ys) (enumerate_more (n + 1) xs x ∙ ap (λ (m : ℕ). enumerate_from (n + 1) xs ++ (m, x) ∷ []) (omega arith))

flat_one : {A B : Type 0} (f : A → List B) (xs : List A) (x : A) → flat_map f (xs ++ x ∷ []) ≡ flat_map f xs ++ f x
flat_one f xs x = flat_more f xs (x ∷ []) ∙ ap (λ (ys : List _). flat_map f xs ++ ys) (append-nil (f x))

-- one more item of a list that is counted from 0
pub lines_more : {X : Type 0} (f : ℕ × X → List ℕ) (base : List ℕ) (xs : List X) (i : ℕ) (none : X) → i < length xs
    → (base ++ flat_map f (enumerate_from 0 (take i xs))) ++ f (i, get_or xs i none) ≡ base ++ flat_map f (enumerate_from 0 (take (i + 1) xs))
lines_more f base xs i none low =
    let x = get_or xs i none in
    let many : 0 + length (take i xs) ≡ i = omega (arith, length-take-le i xs (omega arith)) in
    append_assoc base (flat_map f (enumerate_from 0 (take i xs))) (f (i, x))
    ∙ ap (λ (ys : List ℕ). base ++ ys) (
    ap (λ (n : ℕ). flat_map f (enumerate_from 0 (take i xs)) ++ f (n, x)) (sym many)
    ∙ sym (flat_one f (enumerate_from 0 (take i xs)) (0 + length (take i xs), x))
    ∙ ap (flat_map f) (sym (enumerate_more 0 (take i xs) x) ∙ ap (enumerate_from 0) (sym (take_more xs i none low))))
