-- The sections of a journal, as the files have them.
use Rattle.std.specs.Prelude.{◌≡◌, ◌⊎◌, ℕ, ◌==◌, if◌then◌else◌, List, [], ◌∷◌, ◌++◌, take, Option, None, Some}
use Rattle.std.specs.Ordering.{nat_cmp}
use Rattle.std.specs.Map.{lookup}
use Rattle.std.specs.BTreeMap.{is_at}
use Rattle.simplex_wire.specs.declared.artifact.Artifact.{Artifact}
use Rattle.simplex_journal.specs.Journal.{Section}
use Rattle.simplex_journal.specs.Memory.{Lists, sections_of}
use Rattle.simplex_disk.specs.declared.segment.Segment.{Segment}
use Rattle.simplex_disk.specs.Calls.{Call, MayLeave, bytes_of, content}
use Rattle.simplex_disk.specs.Chain.{opened}
use Rattle.simplex_disk.specs.Left.{IsAbsent}
use Rattle.simplex_disk.specs.Segments.{IsSegment, lists_in}

-- The entries, each with the records of its file, as these files read.
unfoldable pub read_entries : (ℕ → Option (List ℕ)) → List (ℕ × Segment) → List (ℕ × Lists)
read_entries files [] = []
read_entries files (e ∷ es) = (e.0, lists_in (files e.0) e.1) ∷ read_entries files es

-- The sections of a journal that keeps these entries.
abbrev pub sections_in : (ℕ → Option (List ℕ)) → List (ℕ × Segment) → List Section
sections_in files es = sections_of (read_entries files es)

-- the same, after these calls of the disk
abbrev pub sections_at : List Call → List (ℕ × Segment) → List Section
sections_at calls es = sections_in (λ n. content n calls) es

-- What is kept of a file is so, and where nothing is kept of it, it is not there.
abbrev pub StandsAt : ℕ → List Call → Option Segment → Type 0
StandsAt n calls None = IsAbsent n calls
StandsAt n calls (Some segment) = (synced pending : List Artifact) × IsSegment n segment synced pending calls

-- The file of this number is of no section and may be there: its section was dropped and the removal failed, or the
-- first append to it did.
abbrev pub IsLeaving : Option ℕ → ℕ → Type 0
IsLeaving None n = ⊥
IsLeaving (Some m) n = m ≡ n

-- What is left of a section: its synced records, and a first part of the pending ones. Of a section that is not there
-- no record is.
abbrev pub IsLeft : Option Section → Option (List ℕ) → Type 0
IsLeft None x = opened (bytes_of x) ≡ []
IsLeft (Some s) x = (bytes : List ℕ) × (x ≡ Some bytes) × (k : ℕ) × (opened bytes ≡ s.synced ++ take k s.pending)

-- Whatever a crash leaves of the file of this section, which was dropped, no record is read there, or it is back: all
-- its synced records and a first part of the pending ones.
abbrev pub MayBeBack : Section → List Call → Type 0
MayBeBack s calls = (x : Option (List ℕ)) → MayLeave s.number calls x → IsLeft None x ⊎ IsLeft (Some s) x

-- It is so of all files but one that is leaving, of which nothing is kept. There a section that was dropped may be
-- back; the first append of one that was never there left no record.
pub record IsIndexed (es : List (ℕ × Segment)) (leaving : Option ℕ) (calls : List Call) : Type 0 where
  pub at : (n : ℕ) → ¬ IsLeaving leaving n → StandsAt n calls (lookup (is_at (nat_cmp n)) es)
  pub gone : (n : ℕ) → IsLeaving leaving n → lookup (is_at (nat_cmp n)) es ≡ None
  pub back : (n : ℕ) → IsLeaving leaving n → (s : Section) × (s.number ≡ n) × MayBeBack s calls

-- There are calls that may be all that were made of the disk, after which it is so of all files but this.
abbrev pub IsIndexedBut : (List Call → Type 0) → List (ℕ × Segment) → Option ℕ → Type 0
IsIndexedBut StandsFor es leaving = (calls : List Call) × StandsFor calls × IsIndexed es leaving calls

-- The same of all files but one, or of all.
abbrev pub IsIndexedBy : (List Call → Type 0) → List (ℕ × Segment) → Type 0
IsIndexedBy StandsFor es = (calls : List Call) × StandsFor calls × ((leaving : Option ℕ) × IsIndexed es leaving calls)

-- the section of this number
unfoldable pub section_numbered : ℕ → List Section → Option Section
section_numbered n [] = None
section_numbered n (s ∷ sections) = if n == s.number then Some s else section_numbered n sections

-- Whatever a crash leaves of the file, no record is read there, or a crash before might have left it so.
abbrev pub LeavesOld : ℕ → List Call → List Call → Type 0
LeavesOld n before calls = (x : Option (List ℕ)) → MayLeave n calls x → IsLeft None x ⊎ MayLeave n before x

-- So it is of a file that is leaving.
abbrev pub IsBackAsBefore : Option ℕ → List Call → List Call → Type 0
IsBackAsBefore leaving before calls = (n : ℕ) → IsLeaving leaving n → LeavesOld n before calls

-- Whatever a crash leaves of the disk is, read by the chain of gates, a journal with all synced records and a first
-- part of the pending ones of each section. A section that was dropped and whose removal failed is back at most where
-- it might have been before the call, and as it might have been.
pub record LeavesJournal (sections : List Section) (leaving : Option ℕ) (before calls : List Call) : Type 0 where
  pub each : (n : ℕ) (x : Option (List ℕ)) → ¬ IsLeaving leaving n → MayLeave n calls x
      → IsLeft (section_numbered n sections) x
  pub back : IsBackAsBefore leaving before calls
