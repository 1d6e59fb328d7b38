-- What a journal in memory is to its callers.
use Rattle.std.specs.Prelude.{ℕ, if◌then◌else◌, List, [], ◌∷◌, Result, Ok, Err}
use Rattle.simplex_wire.specs.declared.artifact.Artifact.{Artifact}
use Rattle.simplex_journal.specs.declared.error.JournalError.{JournalError}
use Rattle.simplex_journal.specs.declared.error.JournalError.TheVariants.{Failed}
use Rattle.simplex_journal.specs.Faults.{raised}
use Rattle.simplex_journal.specs.Journal.{Section}
use Rattle.simplex_journal.specs.Order.{Order, names_next, counted}

-- The records of one section.
pub record Lists : Type 0 where
  pub synced : List Artifact
  pub pending : List Artifact

-- The whole: its sections, how many calls were made to fail, and the standing order.
pub record Contents : Type 0 where
  pub sections : List Section
  pub faults : ℕ
  pub order : Order

-- The records under this number, as a section.
abbrev pub section_of : ℕ × Lists → Section
section_of (number, lists) = record { number = number; synced = lists.synced; pending = lists.pending }

-- The entries of a map, as sections.
unfoldable pub sections_of : List (ℕ × Lists) → List Section
sections_of [] = []
sections_of (entry ∷ rest) = section_of entry ∷ sections_of rest

-- The answer of a call that takes no memory: it fails exactly where the order names it.
abbrev pub answer_of : Order → Result (Unit {0}) JournalError
answer_of order = if names_next order then Err Failed else Ok tt

-- The journal after a call, which leaves the first sections where it fails, and the second where it does not.
abbrev pub after_call : Contents → List Section → List Section → Contents
after_call old failed done =
    if names_next old.order then record { sections = failed; faults = raised old.faults; order = counted old.order }
    else record { sections = done; faults = old.faults; order = counted old.order }
