-- The asks of a view, as they came.
use Rattle.std.specs.Prelude.{ℕ, ◌==◌, Bool, true, false, not, ◌&&◌, if◌then◌else◌, List, [], ◌∷◌, ◌++◌, filter, nat_eq, Option, Some, None}
use Rattle.std.specs.List.{list_any, list_all}
use Rattle.std.specs.Option.{is_some, option_eq}
use Rattle.simplex_values.specs.declared.ask.Kind.{Kind}
use Rattle.simplex_values.specs.declared.ask.Kind.TheVariants as kind
use Rattle.simplex_values.specs.declared.ask.Until.{Until}
use Rattle.simplex_values.specs.declared.ask.Until.TheVariants as until
use Rattle.simplex_values.specs.declared.ask.Ask.{Ask}
use Rattle.model_resolver.specs.declared.arrivals.Arrival.{Arrival}
use Rattle.model_resolver.specs.declared.held.Held.{Held}

-- whether two kinds are one
abbrev pub same_kind : Kind → Kind → Bool
same_kind kind.Nullification kind.Nullification = true
same_kind kind.Notarization kind.Notarization = true
same_kind _ _ = false

-- whether both stand equally long
abbrev pub same_until : Until → Until → Bool
same_until until.Floor until.Floor = true
same_until until.Finalized until.Finalized = true
same_until _ _ = false

-- whether two asks are one
abbrev pub same_ask : Ask → Ask → Bool
same_ask a b = same_kind a.kind b.kind && same_until a.until b.until

-- whether both are one ask with one target, or with none
abbrev pub same_arrival : Arrival → Arrival → Bool
same_arrival a b = same_ask a.ask b.ask && option_eq nat_eq a.target b.target

-- whether the ask is among these
abbrev pub holds_ask : List Ask → Ask → Bool
holds_ask asks ask = list_any (same_ask ask) asks

-- whether the member is among these
abbrev pub holds_member : List ℕ → ℕ → Bool
holds_member members member = list_any (λ m. m == member) members

-- one more ask is behind the others. One that came before with the same target changes nothing
abbrev pub with_arrival : Arrival → List Arrival → List Arrival
with_arrival arrival arrivals =
    if list_any (same_arrival arrival) arrivals then arrivals else arrivals ++ arrival ∷ []

-- what is left without the asks that pass the test
abbrev pub without_asks : (Ask → Bool) → List Arrival → List Arrival
without_asks test arrivals = filter (λ arrival. not (test arrival.ask)) arrivals

-- one more ask, where it is not among them
abbrev pub with_ask : List Ask → Ask → List Ask
with_ask asks ask = if holds_ask asks ask then asks else asks ++ ask ∷ []

-- these asks and, behind them, those of the arrivals, each once, in the order in which they came
unfoldable pub asks_behind : List Ask → List Arrival → List Ask
asks_behind asks [] = asks
asks_behind asks (arrival ∷ arrivals) = asks_behind (with_ask asks arrival.ask) arrivals

-- the asks that are held, each once, in the order in which they came
abbrev pub asks_of : List Arrival → List Ask
asks_of arrivals = asks_behind [] arrivals

-- one more member, where one is named that is not among them
abbrev pub with_target : List ℕ → Option ℕ → List ℕ
with_target members None = members
with_target members (Some member) = if holds_member members member then members else members ++ member ∷ []

-- these members and, behind them, those that the arrivals name, each once, in the order in which they came
unfoldable pub targets_behind : List ℕ → List Arrival → List ℕ
targets_behind members [] = members
targets_behind members (arrival ∷ arrivals) = targets_behind (with_target members arrival.target) arrivals

-- the members that the held asks name, each once, in the order in which they came
abbrev pub targets_of : List Arrival → List ℕ
targets_of arrivals = targets_behind [] arrivals

-- whether every ask that is held is targeted: none of them ever came without a target
abbrev pub is_targeted : List Arrival → Bool
is_targeted arrivals = list_all (λ arrival. is_some arrival.target) arrivals

-- whether one of the asks passes the test
abbrev pub asks_any : (Ask → Bool) → List Arrival → Bool
asks_any test arrivals = list_any (λ arrival. test arrival.ask) arrivals

-- which asks a view has, of those that are done with at one time
abbrev pub held_of : List Arrival → Held
held_of arrivals = record {
  nullification = asks_any (λ ask. same_kind ask.kind kind.Nullification) arrivals;
  notarization = asks_any (λ ask. same_kind ask.kind kind.Notarization) arrivals;
  floor = asks_any (λ ask. same_until ask.until until.Floor) arrivals;
}
