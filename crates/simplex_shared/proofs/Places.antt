-- The calls of a pass, and their places.
use Rattle.std.proofs.Common.{◌≡◌, ℕ, suc, ◌+◌, ◌-◌, ◌==◌, List, [], ◌∷◌, ◌++◌, Bool, true, false, length, refl, ap, ◌∙◌, arith, length-append, append-nil, eq-eqb}
use Rattle.std.specs.Prelude.{if◌then◌else◌}
use Rattle.simplex_shared.specs.declared.op.Op.{Op}
use Rattle.simplex_shared.specs.Calls.{calls_by, places_by}
use Rattle.simplex_shared.specs.History.{caller_of}
use Rattle.simplex_shared.specs.Passes.{Viewer, GoesOn, EndsWith, calls_of, places_of}
use Rattle.simplex_shared.proofs.Called.{calls_by-append}
use Rattle.simplex_shared.proofs.Pushing.{calls_by-own}

module _ {E : Type 0} (caller : E → ℕ) (number : ℕ) where
  with_more : (b : Bool) (at : ℕ) (xs ys zs : List ℕ) → xs ≡ ys ++ zs → (if b then at ∷ xs else xs) ≡ (if b then at ∷ ys else ys) ++ zs
  with_more true at xs ys zs e = ap (λ l. at ∷ l) e
  with_more false at xs ys zs e = e

  pub places_by-append : (at : ℕ) (xs ys : List E) → places_by caller number at (xs ++ ys) ≡ places_by caller number at xs ++ places_by caller number (at + length xs) ys
  places_by-append at [] ys = let same : at ≡ at + 0 = omega arith in ap (λ k. places_by caller number k ys) same
  places_by-append at (x ∷ xs) ys =
      let same : suc at + length xs ≡ at + suc (length xs) = omega arith in
      with_more (caller x == number) at _ _ _ (places_by-append (suc at) xs ys ∙ ap (λ k. places_by caller number (suc at) xs ++ places_by caller number k ys) same)

  none_there : (b : Bool) (x : E) (calls : List E) (at : ℕ) (places : List ℕ) → (if b then x ∷ calls else calls) ≡ [] → (calls ≡ [] → places ≡ []) → (if b then at ∷ places else places) ≡ []
  none_there true x calls at places e others = absurd (cc)
  none_there false x calls at places e others = others e

  -- no calls have no places
  pub no_places : (at : ℕ) (calls : List E) → calls_by caller number calls ≡ [] → places_by caller number at calls ≡ []
  no_places at [] e = refl
  no_places at (x ∷ xs) e = none_there (caller x == number) x (calls_by caller number xs) at (places_by caller number (suc at) xs) e (no_places (suc at) xs)

  one_there : (b : Bool) (at : ℕ) → b ≡ true → (if b then at ∷ [] else []) ≡ at ∷ []
  one_there true at e = refl
  one_there false at e = absurd (cc)

  pub one_place : (at : ℕ) (call : E) → caller call ≡ number → places_by caller number at (call ∷ []) ≡ at ∷ []
  one_place at call own = one_there (caller call == number) at (eq-eqb _ _ own)

module _ {M : Type 0} where
  -- where the history goes on without a call of the pass, its calls and their places stay
  pub stays : (pass : Viewer M) (history : List (Op M)) → GoesOn pass history → (calls_by caller_of pass.number history ≡ calls_of pass) × (places_by caller_of pass.number 0 history ≡ places_of pass)
  stays pass history goes =
      let others = goes.0 in (
        ap (calls_by caller_of pass.number) goes.1 ∙ calls_by-append caller_of pass.number pass.seen others ∙ ap (λ l. calls_of pass ++ l) goes.2 ∙ append-nil (calls_of pass),
        ap (places_by caller_of pass.number 0) goes.1 ∙ places_by-append caller_of pass.number 0 pass.seen others ∙ ap (λ l. places_of pass ++ l) (no_places caller_of pass.number (0 + length pass.seen) others goes.2) ∙ append-nil (places_of pass),
      )

  -- where it ends with a call of the pass, that one is the last
  pub grows : (pass : Viewer M) (call : Op M) (history : List (Op M)) → caller_of call ≡ pass.number → EndsWith pass call history → (calls_by caller_of pass.number history ≡ calls_of pass ++ call ∷ []) × (places_by caller_of pass.number 0 history ≡ places_of pass ++ (length history - 1) ∷ [])
  grows pass call history own ends =
      let front = ends.0 in
      let so_far = stays pass front ends.1 in
      let size = ap length ends.2 in
      let place : 0 + length front ≡ length history - 1 = omega (arith, length-append front (call ∷ [])) in (
        ap (calls_by caller_of pass.number) ends.2 ∙ calls_by-own caller_of pass.number front call own ∙ ap (λ l. l ++ call ∷ []) so_far.0,
        ap (places_by caller_of pass.number 0) ends.2 ∙ places_by-append caller_of pass.number 0 front (call ∷ []) ∙ ap (λ l. places_by caller_of pass.number 0 front ++ l) (one_place caller_of pass.number (0 + length front) call own ∙ ap (λ k. k ∷ []) place)
            ∙ ap (λ l. l ++ (length history - 1) ∷ []) so_far.1,
      )
