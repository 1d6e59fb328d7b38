-- What a journal on a disk is to its callers.
use Rattle.std.specs.Prelude.{◌≡◌, ℕ, List, Option, None}
use Rattle.simplex_journal.specs.Journal.{Section}
use Rattle.simplex_journal.specs.Order.{Order}
use Rattle.simplex_disk.specs.declared.segment.Segment.{Segment}
use Rattle.simplex_disk.specs.Calls.{Call}
use Rattle.simplex_disk.specs.Index.{sections_in, IsIndexed, IsLeaving, section_numbered}
use Rattle.simplex_disk.specs.Orders.{order_told}

-- Its disk, what is kept of the files that are sections, a file of no section that may be there, since its removal or a
-- first append failed, and the order that a call fails.
pub record OnDisk (D : Type 0) : Type 0 where
  pub disk : D
  pub entries : List (ℕ × Segment)
  pub leaving : Option ℕ
  pub order : Order

-- Its sections, as the files read.
abbrev pub sections_kept : {D : Type 0} → (D → ℕ → Option (List ℕ)) → OnDisk D → List Section
sections_kept contents journal = sections_in (contents journal.disk) journal.entries

-- The order that it tells.
abbrev pub order_kept : {D : Type 0} → (D → Option ℕ) → OnDisk D → Option Order
order_kept order journal = order_told (order journal.disk) journal.order

-- These calls, the newest first, may be all that were made of its disk, and what is kept of the files is so.
abbrev pub IsOf : {D : Type 0} → (D → List Call → Type 0) → OnDisk D → List Call → Type 0
IsOf StandsFor journal calls = StandsFor journal.disk calls × IsIndexed journal.entries journal.leaving calls

-- No file is there that is of no section, but for one that is leaving: a failed call was making or dropping it.
abbrev pub HasNoOther : {D : Type 0} → (D → ℕ → Option (List ℕ)) → OnDisk D → Type 0
HasNoOther contents journal =
    (n : ℕ) → ¬ IsLeaving journal.leaving n → section_numbered n (sections_kept contents journal) ≡ None
    → contents journal.disk n ≡ None

-- nothing more
abbrev pub Any : List Call → Type 0
Any calls = Unit {0}
