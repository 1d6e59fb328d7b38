-- What a pass knows once its call is made.
use Rattle.std.proofs.Common.{◌≡◌, ℕ, List, [], ◌∷◌, ◌++◌, Bool, true, false, ◌==◌, length, refl, sym, ap, ◌∙◌, subst, arith, length-append}
use Rattle.std.specs.Prelude.{Option, None, if◌then◌else◌}
use Rattle.atomic_table.specs.Seated.{TableId}
use Rattle.simplex_shared.specs.declared.view.Stage.TheVariants.{Idle}
use Rattle.simplex_shared.specs.declared.view.View.{View}
use Rattle.simplex_shared.specs.declared.op.Op.{Op}
use Rattle.simplex_shared.specs.Calls.{calls_by, StartsWith}
use Rattle.simplex_shared.specs.Desk.{Recorded}
use Rattle.simplex_shared.specs.History.{caller_of}
use Rattle.simplex_shared.specs.Lock.{at_stage, holding, added, Sat}
use Rattle.simplex_shared.specs.Passes.{Viewer, GoesOn, EndsWith, IsSamePass}

module _ {E : Type 0} (caller : E → ℕ) (number : ℕ) where
  with_more : (b : Bool) (x : E) (xs ys zs : List E) → xs ≡ ys ++ zs → (if b then x ∷ xs else xs) ≡ (if b then x ∷ ys else ys) ++ zs
  with_more true x xs ys zs e = ap (λ l. x ∷ l) e
  with_more false x xs ys zs e = e

  pub calls_by-append : (xs ys : List E) → calls_by caller number (xs ++ ys) ≡ calls_by caller number xs ++ calls_by caller number ys
  calls_by-append [] ys = refl
  calls_by-append (x ∷ xs) ys = with_more (caller x == number) x _ _ _ (calls_by-append xs ys)

  nothing_more : (xs ys : List E) → xs ++ ys ≡ xs → ys ≡ []
  nothing_more xs [] e = refl
  nothing_more xs (y ∷ ys) e = let l = ap length e in absurd (omega (arith, length-append xs (y ∷ ys)))

  -- where the longer history has no more calls of the pass, the rest has none
  pub rest_has_none : (xs ys : List E) → calls_by caller number (xs ++ ys) ≡ calls_by caller number xs → calls_by caller number ys ≡ []
  rest_has_none xs ys same = nothing_more (calls_by caller number xs) (calls_by caller number ys) (sym (calls_by-append xs ys) ∙ same)

module _ {M : Type 0} where
  abbrev pub viewer : TableId → View (Op M) → ℕ → Viewer M
  viewer table v number = record { mailbox = record { table = table; terms = v.terms }; number = number; seen = v.seen }

  -- a history that begins with what the seat has seen, and has of its own calls just those
  pub goes_on : (table : TableId) (v : View (Op M)) (number : ℕ) (log : List (Op M)) → v.number ≡ number → StartsWith log v.seen → calls_by caller_of v.number log ≡ calls_by caller_of v.number v.seen → GoesOn (viewer table v number) log
  goes_on table v number log by starts own =
      let own' : calls_by caller_of number log ≡ calls_by caller_of number v.seen = subst (λ n. calls_by caller_of n log ≡ calls_by caller_of n v.seen) by own in (
        starts.0,
        starts.1,
        rest_has_none caller_of number v.seen starts.0 (ap (calls_by caller_of number) (sym starts.1) ∙ own'),
      )

  -- what the value has more than the seat has seen is a call of the seat
  pub grown_by : (v : View (Op M)) (log now : List (Op M)) (call : Op M) (m : Sat (Recorded M) (Op M)) → v.number ≡ caller_of call → m ≡ (holding v log, (0, None) ∷ []) → now ≡ log ++ call ∷ [] → (o : Op M) × (now ≡ m.0.seen ++ o ∷ []) × (caller_of o ≡ m.0.number)
  grown_by v log now call m by held grown = (call, grown ∙ ap (λ (x : Sat (Recorded M) (Op M)). x.0.seen ++ call ∷ []) (sym held), sym by ∙ ap (λ (x : Sat (Recorded M) (Op M)). x.0.number) (sym held))

  -- the seat as `record_last` leaves it
  abbrev with_added : List (Op M) → View (Op M) × List (ℕ × Option (Recorded M)) → View (Op M) × List (ℕ × Option (Recorded M))
  with_added now m = (at_stage Idle (added m.0 now), [])

  -- the seat as `pass_turn` leaves it
  abbrev with_none : View (Op M) × List (ℕ × Option (Recorded M)) → View (Op M) × List (ℕ × Option (Recorded M))
  with_none m = (at_stage Idle m.0, [])

  -- the call was added
  pub ends_with : (before : Viewer M) (table : TableId) (v : View (Op M)) (number : ℕ) (log now : List (Op M)) (call_by : ℕ → Op M) (m m' : Sat (Recorded M) (Op M)) → viewer table v number ≡ before → GoesOn (viewer table v number) log → m ≡ (holding v log, (0, None) ∷ [])
      → m' ≡ with_added now m → now ≡ log ++ call_by number ∷ [] → EndsWith before (call_by before.number) m'.0.seen
  ends_with before table v number log now call_by m m' view goes held is grown =
      let all : m' ≡ (at_stage Idle (added (holding v log) now), []) = is ∙ ap (with_added now) held in
      subst (λ (b : Viewer M). EndsWith b (call_by b.number) m'.0.seen) view (log, goes, ap (λ (x : Sat (Recorded M) (Op M)). x.0.seen) all ∙ grown)

  -- no call was added
  pub sees_log : (v : View (Op M)) (log : List (Op M)) (m m' : Sat (Recorded M) (Op M)) → m ≡ (holding v log, (0, None) ∷ []) → m' ≡ with_none m → m'.0.seen ≡ log
  sees_log v log m m' held is = ap (λ (x : Sat (Recorded M) (Op M)). x.0.seen) (is ∙ ap with_none held)

  -- the pass saw the history
  pub has_seen : (before : Viewer M) (table : TableId) (v : View (Op M)) (number : ℕ) (log seen : List (Op M)) → viewer table v number ≡ before → GoesOn (viewer table v number) log → seen ≡ log → GoesOn before seen
  has_seen before table v number log seen view goes is = subst (λ (b : Viewer M). GoesOn b seen) view (subst (GoesOn (viewer table v number)) (sym is) goes)

  -- it is the same pass where the seat is of the same table and has the same terms
  pub same_pass : (before : Viewer M) (table table' : TableId) (v w : View (Op M)) (number : ℕ) → viewer table v number ≡ before → table' ≡ table → w.terms ≡ v.terms → IsSamePass before (viewer table' w number)
  same_pass before table table' v w number view same terms =
      subst (λ (b : Viewer M). IsSamePass b (viewer table' w number)) view ((λ i. record { table = same i; terms = terms i }), refl)
