-- Lists of which one item is set.
use Rattle.std.proofs.Common.{◌≡◌, ◌≢◌, ℕ, List, [], ◌∷◌, arith, refl, set, suc, zero, ap}
use Rattle.std.specs.Prelude.{Some}
use Rattle.std.specs.List.{slice_get}

pub slice_get-set : {A : Type 0} (xs : List A) (at k : ℕ) (x y : A) → slice_get (set xs at x) k ≡ Some y → at ≡ k → y ≡ x
slice_get-set [] at k x y is e = cc
slice_get-set (z ∷ xs) zero zero x y is e = cc
slice_get-set (z ∷ xs) zero (suc k) x y is e = absurd (omega arith)
slice_get-set (z ∷ xs) (suc at) zero x y is e = absurd (omega arith)
slice_get-set (z ∷ xs) (suc at) (suc k) x y is e = slice_get-set xs at k x y is (omega arith)

pub slice_get-set_other : {A : Type 0} (xs : List A) (at k : ℕ) (x : A) → at ≢ k → slice_get (set xs at x) k ≡ slice_get xs k
slice_get-set_other [] at k x e = refl
slice_get-set_other (z ∷ xs) zero zero x e = absurd (e refl)
slice_get-set_other (z ∷ xs) zero (suc k) x e = refl
slice_get-set_other (z ∷ xs) (suc at) zero x e = refl
slice_get-set_other (z ∷ xs) (suc at) (suc k) x e = slice_get-set_other xs at k x (λ same. e (ap suc same))
