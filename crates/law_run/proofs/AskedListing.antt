-- What stands at a place of a list, and what is looked up first.
use Rattle.std.proofs.Common.{◌≡◌, ℕ, zero, suc, ◌+◌, ◌≤◌, Bool, true, false, List, [], ◌∷◌, ◌++◌, length, Option, Some, refl, ap, subst, ◌∙◌, arith, if◌then◌else◌}
use Rattle.std.specs.List.{slice_get}
use Rattle.std.specs.Prelude.{find}
use Rattle.std.specs.Option.{option_or}
use Rattle.model_rules.specs.Lists.{first_of, greatest_of, greatest_below}

module _ {X : Type 0} where
  pub place_front : (xs ys : List X) (i : ℕ) (x : X) → slice_get xs i ≡ Some x → slice_get (xs ++ ys) i ≡ Some x
  place_front [] ys i x e = cc
  place_front (y ∷ xs) ys zero x e = e
  place_front (y ∷ xs) ys (suc i) x e = place_front xs ys i x e

  pub place_behind : (xs ys : List X) (i : ℕ) → slice_get (xs ++ ys) (length xs + i) ≡ slice_get ys i
  place_behind [] ys i = ap (slice_get ys) (omega arith)
  place_behind (x ∷ xs) ys i =
      let e : length (x ∷ xs) + i ≡ suc (length xs + i) = omega arith in
      ap (slice_get (x ∷ xs ++ ys)) e ∙ place_behind xs ys i

  pub place_last : (xs : List X) (x : X) (n : ℕ) → n ≡ length xs → slice_get (xs ++ x ∷ []) n ≡ Some x
  place_last [] x n e = rw e refl
  place_last (y ∷ xs) x n e = ap (λ (i : ℕ). slice_get (y ∷ xs ++ x ∷ []) i) e ∙ place_last xs x (length xs) refl

  pub first_more : {A : Type 0} (pick : X → Option A) (new known : List X) (a : A) → first_of pick known ≡ Some a → first_of pick (new ++ known) ≡ Some a
  unfolding first_of
  first_more pick [] known a e = e
  first_more pick (x ∷ new) known a e = ap (λ o. option_or o (pick x)) (first_more pick new known a e)

  pub greatest_more : (number : X → ℕ) (new known : List X) → greatest_of number known ≤ greatest_of number (new ++ known)
  unfolding greatest_of
  greatest_more number [] known = omega arith
  greatest_more number (x ∷ new) known = omega (arith, greatest_more number new known)

  -- what is found passes the test
  pub found_passes : (test : X → Bool) (xs : List X) (x : X) → find test xs ≡ Some x → test x ≡ true
  found_passes test [] x e = cc
  found_passes test (y ∷ ys) x e = at (test y) refl (found_passes test ys x) e
    where
      at : (b : Bool) → test y ≡ b → (find test ys ≡ Some x → test x ≡ true) → (if b then Some y else find test ys) ≡ Some x → test x ≡ true
      at true h rest k = (let same : y ≡ x = cc in subst (λ (z : X). test z ≡ true) same h)
      at false h rest k = rest k

-- the greatest below passes the test
pub greatest_passes : (test : ℕ → Bool) (n m : ℕ) → greatest_below test n ≡ Some m → test m ≡ true
unfolding greatest_below
greatest_passes test zero m e = cc
greatest_passes test (suc n) m e = at (test n) refl (greatest_passes test n m) e
  where
    at : (b : Bool) → test n ≡ b → (greatest_below test n ≡ Some m → test m ≡ true) → (if b then Some n else greatest_below test n) ≡ Some m → test m ≡ true
    at true h rest k = (let same : n ≡ m = cc in subst (λ (z : ℕ). test z ≡ true) same h)
    at false h rest k = rest k
