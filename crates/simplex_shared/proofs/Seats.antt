-- What a seat is after each step of a turn.
use Rattle.std.proofs.Common.{◌≡◌, ◌≢◌, ℕ, List, [], ◌∷◌, sym, ap, ◌∙◌, subst}
use Rattle.std.specs.Prelude.{Option, Some, None}
use mathlib.Core.Option.{none}
use Rattle.atomic_table.specs.Table.{Step, step, rest}
use Rattle.simplex_shared.specs.declared.view.Stage.TheVariants.{Idle}
use Rattle.simplex_shared.specs.declared.view.View.{View}
use Rattle.simplex_shared.specs.Lock.{at_stage, holding, added, carried_log, Sat as SatOf, ticket_of, MayDraw, Waits, Belongs, GoesOn, Draws, Looks, Adds, Leaves}

module _ {D E : Type 0} (log_of : D → List E) (capacity_of : D → ℕ) (caller : E → ℕ) (Legal : ℕ → List E → Type 0) where
  abbrev V : Type 0
  V = View E

  abbrev Sat : Type 0
  Sat = SatOf D E

  -- what a step tells does not hang on the step
  abbrev pub no_step : Step (Option D)
  no_step = step 0 0 0 0 none

  pub drawn : (n : ℕ) (m m' : Sat) → MayDraw m → Draws no_step m n m' → Waits m.0 n m'
  drawn n m m' may d = (d.1.0, d.1.1, λ i. (d.1.2 i, (d.0 ∙ may.2) i))

  pub opened : (v : V) (ticket n : ℕ) (m m' : Sat) → Waits v ticket m → n ≡ ticket → Looks log_of capacity_of caller Legal no_step m n m' → (d : D) × (m' ≡ (holding v (log_of d), (0, Some d) ∷ [])) × GoesOn log_of capacity_of caller Legal v (log_of d) × (Belongs v → capacity_of d ≡ v.terms.capacity)
  opened v ticket n m m' w same looks =
      let hit : n ≡ ticket_of m.0.stage = same ∙ sym w.1 ∙ ap (λ (x : Sat). ticket_of x.0.stage) (sym w.2) in
      let o = looks.0 hit in
      let d = o.0 in (
        d,
        (λ i. ((o.2 ∙ ap (λ (x : Sat). holding x.0 (log_of d)) w.2) i, (o.1 ∙ ap (λ (x : Sat). (0, Some d) ∷ x.1) w.2) i)),
        subst (λ (x : Sat). GoesOn log_of capacity_of caller Legal x.0 (log_of d)) w.2 o.3,
        (λ belongs. subst (λ (x : Sat). Belongs x.0 → capacity_of d ≡ x.0.terms.capacity) w.2 o.4 belongs),
      )

  pub missed : (v : V) (ticket n : ℕ) (m m' : Sat) → Waits v ticket m → n ≢ ticket → Looks log_of capacity_of caller Legal no_step m n m' → Waits v ticket m'
  missed v ticket n m m' w other looks =
      let miss : n ≢ ticket_of m.0.stage = λ e. other (e ∙ ap (λ (x : Sat). ticket_of x.0.stage) w.2 ∙ w.1) in
      (w.0, w.1, looks.1 miss ∙ w.2)

  pub has_slot : (m : Sat) (v : V) (d : D) → m ≡ (v, (0, Some d) ∷ []) → (old : Option D) × (m.1 ≡ (0, old) ∷ rest m.1)
  has_slot m v d e = (Some d, (ap (λ (x : Sat). x.1) e ∙ ap (λ (x : Sat). (0, Some d) ∷ rest x.1) (sym e)))

  abbrev slot_of : List (ℕ × Option D) → Option D
  slot_of [] = None
  slot_of (x ∷ xs) = x.1

  pub found_there : (m : Sat) (v : V) (d : D) (r : Option D) → m ≡ (v, (0, Some d) ∷ []) → m.1 ≡ (0, r) ∷ rest m.1 → r ≡ Some d
  found_there m v d r e is = ap slot_of (sym is) ∙ ap (λ (x : Sat). slot_of x.1) e

  pub taken_out : (m m' : Sat) (v : V) (d desk : D) → m ≡ (holding v (log_of d), (0, Some d) ∷ []) → m' ≡ (m.0, (0, None) ∷ rest m.1) → Some desk ≡ Some d → m' ≡ (holding v (log_of desk), (0, None) ∷ [])
  taken_out m m' v d desk e is same = let s : d ≡ desk = cc in is ∙ ap (λ (x : Sat). (x.0, (0, None) ∷ rest x.1)) e ∙ ap (λ (x : D). (holding v (log_of x), (0, None) ∷ [])) s

  pub put_in : (m m' : Sat) (x y : Option D) → m' ≡ (m.0, (0, x) ∷ rest m.1) → m.1 ≡ (0, y) ∷ [] → m' ≡ (m.0, (0, x) ∷ [])
  put_in m m' x y is held = is ∙ ap (λ (l : List (ℕ × Option D)). (m.0, (0, x) ∷ rest l)) held

  pub after_add : (n : ℕ) (m m' : Sat) (v : V) (d : D) → m ≡ (v, (0, Some d) ∷ []) → Adds log_of capacity_of caller Legal no_step m n m' → m' ≡ (added v (log_of d), (0, Some d) ∷ [])
  after_add n m m' v d e a = λ i. ((a.1 ∙ ap (λ (x : Sat). added x.0 (carried_log log_of capacity_of caller Legal x.1)) e) i, (a.0 ∙ ap (λ (x : Sat). x.1) e) i)

  pub after_leave : (n : ℕ) (m m' : Sat) (v : V) (d : D) → m ≡ (v, (0, Some d) ∷ []) → Leaves no_step m n m' → m' ≡ (at_stage Idle v, [])
  after_leave n m m' v d e a = λ i. ((a.1 ∙ ap (λ (x : Sat). at_stage Idle x.0) e) i, (a.0 ∙ ap (λ (x : Sat). rest x.1) e) i)
