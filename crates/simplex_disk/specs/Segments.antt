-- What the journal keeps of a file, and what it says of the file's records.
use Rattle.std.specs.Prelude.{◌≡◌, ℕ, ◌+◌, List, length, take, drop, Option}
use Rattle.std.specs.List.{AllByRecursion}
use Rattle.simplex_wire.specs.declared.artifact.Artifact.{Artifact}
use Rattle.simplex_journal.specs.Memory.{Lists}
use Rattle.simplex_disk.specs.declared.segment.Segment.{Segment}
use Rattle.simplex_disk.specs.Calls.{Call, bytes_of}
use Rattle.simplex_disk.specs.Chain.{Reads, total, places, walked}
use Rattle.simplex_disk.specs.Left.{Stands}

-- What is kept of the file says where these records are.
pub record IsKept (segment : Segment) (synced pending : List Artifact) : Type 0 where
  pub synced_reads : AllByRecursion Reads synced
  pub pending_reads : AllByRecursion Reads pending
  pub count : length synced ≡ segment.synced
  pub gates : segment.gates.items ≡ places (total synced) pending
  pub end : segment.end ≡ total synced + total pending + 1

-- The file stands for these records, and what is kept of it says where they are.
pub record IsSegment (n : ℕ) (segment : Segment) (synced pending : List Artifact) (calls : List Call) : Type 0 where
  pub stands : Stands n synced pending calls
  pub kept : IsKept segment synced pending

-- There are calls that may be all that were made of the disk, after which it is so of some records.
abbrev pub IsSegmentBy : (List Call → Type 0) → ℕ → Segment → Type 0
IsSegmentBy StandsFor n segment =
    (calls : List Call) × StandsFor calls
    × ((synced pending : List Artifact) × IsSegment n segment synced pending calls)

-- The records of the file, as a read gives it, by what is kept of it.
unfoldable pub lists_in : Option (List ℕ) → Segment → Lists
lists_in file segment = record {
  synced = take segment.synced (walked (segment.synced + length segment.gates.items) (bytes_of file));
  pending = drop segment.synced (walked (segment.synced + length segment.gates.items) (bytes_of file));
}
