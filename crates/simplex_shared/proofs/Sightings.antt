-- What a seat knows once it saw the history.
use Rattle.std.proofs.Common.{◌≡◌, ℕ, List, [], ◌∷◌, ◌++◌, length, true, sym, ap, ◌∙◌, subst, append-nil, arith, length-append}
use Rattle.std.specs.Prelude.{Option}
use mathlib.Core.Option.{none}
use Rattle.atomic_table.specs.Table.{Step, step}
use Rattle.simplex_shared.specs.declared.view.Stage.TheVariants.{Holding}
use Rattle.simplex_shared.specs.declared.view.View.{View}
use Rattle.simplex_shared.specs.Calls.{calls_by, StartsWith}
use Rattle.simplex_shared.specs.Lock.{Sat as SatOf, GoesOn as GoesOnOf, Sees, Hears as HearsOf, seeing, informed, bearer}

module _ {D E : Type 0} (log_of : D → List E) (capacity_of : D → ℕ) (caller : E → ℕ) (Legal : ℕ → List E → Type 0) where
  abbrev Sat : Type 0
  Sat = SatOf D E

  abbrev GoesOn : View E → List E → Type 0
  GoesOn = GoesOnOf log_of capacity_of caller Legal

  abbrev Hears : Sat → View E → ℕ → Sat → Type 0
  Hears = HearsOf log_of capacity_of caller Legal

  abbrev no_step : Step (Option D)
  no_step = step 0 0 0 0 none

  -- the seat heard what another has seen, and saw the history so far
  pub heard : (m told m' : Sat) (u bearing : View E) (n : ℕ) → bearing ≡ bearer u.seen → told ≡ (informed m.0 bearing, m.1) → Sees log_of capacity_of caller Legal no_step told n m' → Hears m u n m'
  heard m told m' u bearing n is join s =
      let log = s.1.0 in
      let joined : told ≡ (informed m.0 u, m.1) = join ∙ ap (λ (x : View E). (informed m.0 x, m.1)) is in (
        log,
        (λ i. ((s.1.1 ∙ ap (λ (x : Sat). seeing x.0 log) joined) i, (s.0 ∙ ap (λ (x : Sat). x.1) joined) i)),
        subst (λ (x : Sat). GoesOn x.0 log) joined s.1.2,
        s.1.3,
        (λ e. s.1.4 (ap (λ (x : Sat). x.0.stage) joined ∙ e) ∙ ap (λ (x : Sat). x.0.seen) joined),
      )

  -- the holder sees just what it has seen
  pub fronted : (m m' : Sat) (n : ℕ) → m.0.stage ≡ Holding → m.0.told ≡ [] → Sees log_of capacity_of caller Legal no_step m n m' → (m' ≡ m) × (n ≡ length m.0.seen)
  fronted m m' n holds none_told s =
      let same : s.1.0 ≡ m.0.seen = s.1.4 holds in
      let view : m'.0 ≡ m.0 = s.1.1 ∙ ap (λ l. seeing m.0 l) same ∙ (λ i. record (m.0) { told = sym none_told i }) in
      ((λ i. (view i, s.0 i)), sym s.1.3 ∙ ap length same)

  longer_is_same : (a b xs ys : List E) → a ≡ b ++ xs → b ≡ a ++ ys → a ≡ b
  longer_is_same a b xs [] p q = sym (q ∙ append-nil a)
  longer_is_same a b xs (y ∷ ys) p q = let l = ap length p in let m = ap length q in absurd (omega (arith, length-append b xs, length-append a (y ∷ ys)))

  -- a pass saw what the holder has seen, and the holder what the pass saw: so they saw one history
  pub checked : (holder mine mine' holder' : Sat) (n k : ℕ) → mine.0.member ≡ true → holder.0.stage ≡ Holding → Hears mine holder.0 n mine' → Hears holder mine'.0 k holder'
      → (holder'.0.stage ≡ Holding) × (holder'.0.seen ≡ holder.0.seen) × StartsWith holder.0.seen mine.0.seen × (calls_by caller mine.0.number holder.0.seen ≡ calls_by caller mine.0.number mine.0.seen)
  checked holder mine mine' holder' n k member holds first second =
      let log = first.0 in
      let back : second.0 ≡ holder.0.seen = second.4 holds in
      let goes : StartsWith second.0 mine'.0.seen = second.2.1 in
      let there : StartsWith holder.0.seen log = subst (λ (x : List E × List E). StartsWith x.0 x.1) (λ i. (back i, ap (λ (x : Sat). x.0.seen) first.1 i)) goes in
      let here : StartsWith log holder.0.seen = first.2.1 in
      let same : log ≡ holder.0.seen = longer_is_same log holder.0.seen here.0 there.0 here.1 there.1 in (
        ap (λ (x : Sat). x.0.stage) second.1 ∙ holds,
        ap (λ (x : Sat). x.0.seen) second.1 ∙ back,
        subst (λ l. StartsWith l mine.0.seen) same first.2.0,
        subst (λ l. calls_by caller mine.0.number l ≡ calls_by caller mine.0.number mine.0.seen) same (first.2.2 member),
      )
