-- A history one call longer.
use Rattle.std.proofs.Common.{◌≡◌, ◌≢◌, ℕ, List, [], ◌∷◌, ◌++◌, Bool, true, false, ◌==◌, ap, eq-eqb, ne_eqb}
use Rattle.std.specs.Prelude.{if◌then◌else◌}
use Rattle.simplex_shared.specs.Calls.{calls_by}

module _ {E : Type 0} where
  with_own : (b : Bool) (x : E) (l m : List E) (end : List E) → l ≡ m ++ end → (if b then x ∷ l else l) ≡ (if b then x ∷ m else m) ++ end
  with_own true x l m end e = ap (λ k. x ∷ k) e
  with_own false x l m end e = e

  with_other : (b : Bool) (x : E) (l m : List E) → l ≡ m → (if b then x ∷ l else l) ≡ (if b then x ∷ m else m)
  with_other true x l m e = ap (λ k. x ∷ k) e
  with_other false x l m e = e

  pub calls_by-own : (caller : E → ℕ) (n : ℕ) (os : List E) (o : E) → caller o ≡ n → calls_by caller n (os ++ o ∷ []) ≡ calls_by caller n os ++ o ∷ []
  calls_by-own caller n [] o e = ap (λ (b : Bool). if b then o ∷ [] else []) (eq-eqb _ _ e)
  calls_by-own caller n (x ∷ os) o e = with_own (caller x == n) x _ _ _ (calls_by-own caller n os o e)

  pub calls_by-other : (caller : E → ℕ) (n : ℕ) (os : List E) (o : E) → caller o ≢ n → calls_by caller n (os ++ o ∷ []) ≡ calls_by caller n os
  calls_by-other caller n [] o e = ap (λ (b : Bool). if b then o ∷ [] else []) (ne_eqb _ _ e)
  calls_by-other caller n (x ∷ os) o e = with_other (caller x == n) x _ _ (calls_by-other caller n os o e)
