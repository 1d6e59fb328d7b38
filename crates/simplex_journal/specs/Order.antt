-- The standing order that a journal call fails, and what calls make of it.
use Rattle.std.specs.Prelude.{◌≡◌, ◌-◌, ◌==◌, ℕ, Bool, true, false, List, Option, None, Some, Result, Ok, Err}
use Rattle.simplex_journal.specs.Journal.{Section, pruned_first}
use Rattle.simplex_journal.specs.declared.error.JournalError.{JournalError}
use Rattle.simplex_journal.specs.declared.error.JournalError.TheVariants.{Failed, Memory}

-- Which call from now on is to fail, counted from 1, and how many sections a prune that fails so drops.
-- Where the call is 0, none is to fail.
pub record Order : Type 0 where
  pub call : ℕ
  pub sections : ℕ

-- No call is to fail.
abbrev pub no_order : Order
no_order = record { call = 0; sections = 0 }

-- The next call is the one that is to fail.
abbrev pub names_next : Order → Bool
names_next order = order.call == 1

-- The order after one more call. It is gone where that call was the one to fail.
abbrev pub counted : Order → Order
counted order = record { call = order.call - 1; sections = order.sections }

-- What is told of the order still stands. Where nothing was told, nothing is said.
abbrev pub Stands : Option Order → Option Order → Type 0
Stands None now = Unit {0}
Stands (Some order) now = now ≡ Some order

-- Where the order is told, a call failed exactly if the order named it, and is counted. A call that ended
-- for want of memory is not counted.
abbrev pub Obeys : {R : Type 0} → Option Order → Result R JournalError → Option Order → Type 0
Obeys None answer now = Unit {0}
Obeys (Some order) (Ok _) now = (names_next order ≡ false) × (now ≡ Some (counted order))
Obeys (Some order) (Err Failed) now = (names_next order ≡ true) × (now ≡ Some (counted order))
Obeys (Some order) (Err Memory) now = now ≡ Some order

-- A prune that failed dropped the first sections below the least number: as many as the order says, where
-- it is told, else some number of them.
abbrev pub PrunesInPart : Option Order → ℕ → List Section → List Section → Type 0
PrunesInPart None least before now = (count : ℕ) × (now ≡ pruned_first count least before)
PrunesInPart (Some order) least before now = now ≡ pruned_first order.sections least before
