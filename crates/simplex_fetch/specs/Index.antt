-- Where the deadlines and the numbers of the views are kept beside them.
use Rattle.std.specs.Prelude.{◌≡◌, ℕ, ◌==◌, Bool, false, List, Option, Some, None}
use Rattle.std.specs.Ordering.{nat_cmp, ordering_then}
use Rattle.std.specs.declared.cmp.Ordering.{Ordering}
use Rattle.std.specs.List.{list_any}
use Rattle.std.specs.Map.{lookup, keys_of}
use Rattle.std.specs.BTreeMap.{is_at}
use Rattle.std.specs.List.Sorted.{IsStrictlySortedBy}
use Rattle.model_resolver.specs.declared.entry.Entry.{Entry}
use Rattle.simplex_values.specs.declared.ask.Kind.TheVariants as kind
use Rattle.simplex_values.specs.declared.ask.Until.TheVariants as until
use Rattle.simplex_values.specs.declared.ask.Ask.{Ask}
use Rattle.model_resolver.specs.Asks.{same_kind, same_until, asks_any}
use Rattle.model_resolver.specs.Views.{entry_at, deadline_of, id_of}
pub use Rattle.model_resolver.specs.Views.{is_reached, is_due}

-- whether this is the number that is there
abbrev pub is_value : ℕ → Option ℕ → Bool
is_value n None = false
is_value n (Some m) = n == m

-- whether a view has this deadline
abbrev pub has_deadline : ℕ → Option Entry → Bool
has_deadline deadline None = false
has_deadline deadline (Some entry) = is_value deadline (deadline_of entry.state)

-- whether a view has this number
abbrev pub has_id : ℕ → Option Entry → Bool
has_id id None = false
has_id id (Some entry) = is_value id (id_of entry.state)

-- deadlines, and at one deadline views, in rising order
abbrev pub pair_cmp : ℕ × ℕ → ℕ × ℕ → Ordering
pair_cmp x y = ordering_then (nat_cmp x.0 y.0) (nat_cmp x.1 y.1)

-- the pairs are the deadlines of the views, and each number leads to its view
pub record IsIndexed (views : List (ℕ × Entry)) (timers : List (ℕ × ℕ)) (opened : List (ℕ × ℕ)) : Type 0 where
  pub rising : IsStrictlySortedBy nat_cmp (keys_of views)
  pub timed : (deadline view : ℕ) → list_any (is_at (pair_cmp (deadline, view))) timers
      ≡ has_deadline deadline (entry_at views view)
  pub numbered : (id view : ℕ) → is_value view (lookup (is_at (nat_cmp id)) opened) ≡ has_id id (entry_at views view)

-- no view has the number
abbrev pub IsFree : Option ℕ → List (ℕ × Entry) → Type 0
IsFree None views = Unit {0}
IsFree (Some id) views = (view : ℕ) → has_id id (entry_at views view) ≡ false

-- whether the view is among these
abbrev pub is_there : ℕ → List ℕ → Bool
is_there view views = list_any (is_at (nat_cmp view)) views

-- whether a view has an ask that passes the test
abbrev pub has_ask : (Ask → Bool) → Option Entry → Bool
has_ask test None = false
has_ask test (Some entry) = asks_any test entry.arrivals

-- the holders are the views that have an ask that passes the test
unfoldable pub AreHolders : (Ask → Bool) → List ℕ → List (ℕ × Entry) → Type 0
AreHolders test holders views = (view : ℕ) → is_there view holders ≡ has_ask test (entry_at views view)

-- the three lists are the views that have such asks
pub record IsHeld (views : List (ℕ × Entry)) (of_nullifications of_notarizations of_floors : List ℕ) : Type 0 where
  pub nullifications : AreHolders (λ ask. same_kind ask.kind kind.Nullification) of_nullifications views
  pub notarizations : AreHolders (λ ask. same_kind ask.kind kind.Notarization) of_notarizations views
  pub floors : AreHolders (λ ask. same_until ask.until until.Floor) of_floors views
