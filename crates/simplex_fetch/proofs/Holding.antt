-- The views that hold asks, as entries come and go.
use Rattle.std.proofs.Common.{◌≡◌, ◌==◌, ◌&&◌, ◌||◌, ℕ, Bool, not, List, Some, None, inl, inr, arith}
use Rattle.std.specs.Prelude.{if◌then◌else◌}
use Rattle.std.proofs.lemmas.Grind.{common_steps}
use Rattle.std.proofs.lemmas.Bool.{cases_eq}
use Rattle.std.proofs.lemmas.Bool.Decides.{nat_tests}
use Rattle.simplex_values.specs.declared.ask.Kind.{Kind}
use Rattle.simplex_values.specs.declared.ask.Kind.TheVariants as kind
use Rattle.simplex_values.specs.declared.ask.Until.TheVariants as until
use Rattle.simplex_values.specs.declared.ask.Ask.{Ask}
use Rattle.model_resolver.specs.declared.entry.Entry.{Entry}
use Rattle.simplex_fetch.specs.declared.holders.Holders.{Holders}
use Rattle.model_resolver.specs.Asks.{asks_any, held_of, same_kind, same_until}
use Rattle.model_resolver.specs.Views.{entry_at}
use Rattle.simplex_fetch.specs.Index.{is_there, AreHolders, IsHeld}
use Rattle.simplex_fetch.specs.Holders.{of_kind, IsNoted, IsForgotten}

-- an entry is put at the view
abbrev pub IsPut : ℕ → Entry → List (ℕ × Entry) → List (ℕ × Entry) → Type 0
IsPut view e views views' = (q : ℕ) → entry_at views' q ≡ (if view == q then Some e else entry_at views q)

-- the view's entry is taken away
abbrev pub IsTaken : ℕ → List (ℕ × Entry) → List (ℕ × Entry) → Type 0
IsTaken view views views' = (q : ℕ) → entry_at views' q ≡ (if view == q then None else entry_at views q)

module _ (test : Ask → Bool) (view : ℕ) (e : Entry) (views views' : List (ℕ × Entry)) (ks ks' : List ℕ) (was : AreHolders test ks views) where
  pub holders_put : entry_at views view ≡ None → IsPut view e views views'
      → ((q : ℕ) → is_there q ks' ≡ ((asks_any test e.arrivals && q == view) || is_there q ks)) → AreHolders test ks' views'
  unfolding AreHolders
  holders_put at put comes q =
      let here = was q in let is = put q in let new = comes q in
      elim (cases_eq q view) [
        | inl same ↦ let none : entry_at views q ≡ None = rw same at in grind (arith, common_steps, nat_tests)
        | inr apart ↦ grind (arith, common_steps, nat_tests)
      ]

  pub holders_take : entry_at views view ≡ Some e → IsTaken view views views'
      → ((q : ℕ) → is_there q ks' ≡ (not (asks_any test e.arrivals && q == view) && is_there q ks)) → AreHolders test ks' views'
  unfolding AreHolders
  holders_take at left goes q =
      let here = was q in let is = left q in let new = goes q in
      elim (cases_eq q view) [
        | inl same ↦ let some : entry_at views q ≡ Some e = rw same at in grind (arith, common_steps, nat_tests)
        | inr apart ↦ grind (arith, common_steps, nat_tests)
      ]

  pub holders_back : entry_at views view ≡ None
      → ((q : ℕ) → is_there q ks' ≡ (not (asks_any test e.arrivals && q == view) && is_there q ks)) → AreHolders test ks' views
  unfolding AreHolders
  holders_back at goes q =
      let here = was q in let new = goes q in
      elim (cases_eq q view) [
        | inl same ↦ let none : entry_at views q ≡ None = rw same at in grind (arith, common_steps, nat_tests)
        | inr apart ↦ grind (arith, common_steps, nat_tests)
      ]

-- the holders are the views that have such asks
abbrev pub Holding : List (ℕ × Entry) → Holders → Type 0
Holding views holders = IsHeld views holders.nullifications.keys holders.notarizations.keys holders.floors.keys

-- those of a kind are the views that have an ask of this kind
pub held_kind : (k : Kind) (views : List (ℕ × Entry)) (holders : Holders) → Holding views holders → AreHolders (λ ask. same_kind ask.kind k) (of_kind k holders) views
held_kind kind.Nullification views holders held = held.nullifications
held_kind kind.Notarization views holders held = held.notarizations

module _ (view : ℕ) (e : Entry) (views views' : List (ℕ × Entry)) (old new : Holders) (was : Holding views old) where
  -- one more view is noted
  pub held_put : entry_at views view ≡ None → IsPut view e views views' → IsNoted view (held_of e.arrivals) old new → Holding views' new
  held_put at put noted = record {
    nullifications = holders_put (λ ask. same_kind ask.kind kind.Nullification) view e views views' old.nullifications.keys new.nullifications.keys was.nullifications at put noted.nullifications;
    notarizations = holders_put (λ ask. same_kind ask.kind kind.Notarization) view e views views' old.notarizations.keys new.notarizations.keys was.notarizations at put noted.notarizations;
    floors = holders_put (λ ask. same_until ask.until until.Floor) view e views views' old.floors.keys new.floors.keys was.floors at put noted.floors;
  }

  -- a view is forgotten
  pub held_take : entry_at views view ≡ Some e → IsTaken view views views' → IsForgotten view (held_of e.arrivals) old new → Holding views' new
  held_take at left gone = record {
    nullifications = holders_take (λ ask. same_kind ask.kind kind.Nullification) view e views views' old.nullifications.keys new.nullifications.keys was.nullifications at left gone.nullifications;
    notarizations = holders_take (λ ask. same_kind ask.kind kind.Notarization) view e views views' old.notarizations.keys new.notarizations.keys was.notarizations at left gone.notarizations;
    floors = holders_take (λ ask. same_until ask.until until.Floor) view e views views' old.floors.keys new.floors.keys was.floors at left gone.floors;
  }

  -- a view that is not there is forgotten
  pub held_back : entry_at views view ≡ None → IsForgotten view (held_of e.arrivals) old new → Holding views new
  held_back at gone = record {
    nullifications = holders_back (λ ask. same_kind ask.kind kind.Nullification) view e views views' old.nullifications.keys new.nullifications.keys was.nullifications at gone.nullifications;
    notarizations = holders_back (λ ask. same_kind ask.kind kind.Notarization) view e views views' old.notarizations.keys new.notarizations.keys was.notarizations at gone.notarizations;
    floors = holders_back (λ ask. same_until ask.until until.Floor) view e views views' old.floors.keys new.floors.keys was.floors at gone.floors;
  }

-- what is forgotten after it was noted is forgotten
pub forgotten_noted : (view : ℕ) (e : Entry) (old noted new : Holders) → IsNoted view (held_of e.arrivals) old noted → IsForgotten view (held_of e.arrivals) noted new → IsForgotten view (held_of e.arrivals) old new
forgotten_noted view e old noted new comes goes = record {
  nullifications = λ q. let a = comes.nullifications q in let b = goes.nullifications q in grind (arith, common_steps);
  notarizations = λ q. let a = comes.notarizations q in let b = goes.notarizations q in grind (arith, common_steps);
  floors = λ q. let a = comes.floors q in let b = goes.floors q in grind (arith, common_steps);
}
