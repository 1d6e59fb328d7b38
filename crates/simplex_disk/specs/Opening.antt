-- What the opening of a journal reads, and what a crash leaves inside it.
use Rattle.std.specs.Prelude.{◌≡◌, ℕ, List, [], ◌∷◌, ◌++◌, Option, None, Some, Result, Err}
use Rattle.std.specs.List.{AllByRecursion}
use Rattle.simplex_wire.specs.declared.artifact.Artifact.{Artifact}
use Rattle.simplex_journal.specs.Journal.{Section}
use Rattle.simplex_journal.specs.declared.error.JournalError.{JournalError}
use Rattle.simplex_disk.specs.Calls.{Call, MayLeave, content}
use Rattle.simplex_disk.specs.Chain.{Reads, record_bytes, chain, open_blocks, opened, opened_by}
use Rattle.simplex_disk.specs.Index.{section_numbered}

-- The file begins with these whole records behind open gates, and no record is read behind them.
pub record BeginsWith (records : List Artifact) (bytes : List ℕ) : Type 0 where
  pub reads : AllByRecursion Reads records
  pub end : List ℕ
  pub whole : bytes ≡ chain (open_blocks records) end
  pub no_more : (n : ℕ) → opened_by n end ≡ []

-- One more record behind an open gate, or none.
abbrev pub GoesOn : List ℕ → Option (List ℕ) → Type 0
GoesOn bytes None = (n : ℕ) → opened_by n bytes ≡ []
GoesOn bytes (Some behind) = (a : Artifact) × Reads a × (bytes ≡ 1 ∷ (record_bytes a ++ behind))

-- A crash now would leave the file as it reads.
abbrev pub IsSettledAt : ℕ → List Call → Type 0
IsSettledAt n calls = (x : Option (List ℕ)) → MayLeave n calls x → x ≡ content n calls

-- A crash now would leave each file as it reads.
pub record IsSettled (calls : List Call) : Type 0 where
  pub only : (n : ℕ) → IsSettledAt n calls

-- Whatever a crash leaves of the file, the same records are read in it as in these bytes.
abbrev pub LeavesRead : ℕ → List ℕ → List Call → Type 0
LeavesRead n bytes calls =
    (x : Option (List ℕ)) → MayLeave n calls x → (same : List ℕ) × (x ≡ Some same) × (opened same ≡ opened bytes)

-- the same file, or one in which the same records are read
abbrev pub ReadsSame : Option (List ℕ) → Option (List ℕ) → Type 0
ReadsSame None now = now ≡ None
ReadsSame (Some bytes) now = (same : List ℕ) × (now ≡ Some same) × (opened same ≡ opened bytes)

-- Whatever a crash leaves reads as the disk read at first.
pub record LeavesSame (first now : List Call) : Type 0 where
  pub each : (n : ℕ) (x : Option (List ℕ)) → MayLeave n now x → ReadsSame (content n first) x

-- the section that is read off a file
abbrev pub section_read : ℕ → Option (List ℕ) → Option Section
section_read n None = None
section_read n (Some bytes) = Some (record { number = n; synced = opened bytes; pending = [] })

-- the answer where no journal was opened
abbrev pub not_opened : JournalError → Result (Unit {0}) JournalError
not_opened error = Err error

-- These sections are those of the files.
pub record AreRead (files : ℕ → Option (List ℕ)) (sections : List Section) : Type 0 where
  pub each : (n : ℕ) → section_numbered n sections ≡ section_read n (files n)
