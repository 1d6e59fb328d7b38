-- All sections are synced: their gates first, and what is kept of the files at the end.
use Rattle.std.specs.Prelude.{◌≡◌, ℕ, List, [], ◌++◌, None, Some}
use Rattle.std.specs.Ordering.{nat_cmp}
use Rattle.std.specs.Map.{lookup, keys_of}
use Rattle.std.specs.BTreeMap.{is_at}
use Rattle.simplex_wire.specs.declared.artifact.Artifact.{Artifact}
use Rattle.simplex_disk.specs.declared.segment.Segment.{Segment}
use Rattle.simplex_disk.specs.Calls.{Call}
use Rattle.simplex_disk.specs.Left.{Stands}
use Rattle.simplex_disk.specs.Segments.{IsKept, IsSegment}

-- The gates of the pending records of the file are open, on the disk. They still count as pending.
abbrev pub IsOpened : ℕ → Segment → List Call → Type 0
IsOpened n segment calls =
    (synced pending : List Artifact) × IsSegment n segment synced pending calls × Stands n (synced ++ pending) [] calls

-- It is so of each file that is kept.
pub record AreOpened (es : List (ℕ × Segment)) (calls : List Call) : Type 0 where
  pub each : (n : ℕ) (segment : Segment) → lookup (is_at (nat_cmp n)) es ≡ Some segment → IsOpened n segment calls

-- Of a file the pending records count as synced.
abbrev pub CountsSynced : Segment → Segment → Type 0
CountsSynced old new = (synced pending : List Artifact) → IsKept old synced pending → IsKept new (synced ++ pending) []

-- It is so of each file that is kept.
pub record AreCounted (old new : List (ℕ × Segment)) : Type 0 where
  pub keys : keys_of new ≡ keys_of old
  pub none : (n : ℕ) → lookup (is_at (nat_cmp n)) old ≡ None → lookup (is_at (nat_cmp n)) new ≡ None
  pub some : (n : ℕ) (segment : Segment) → lookup (is_at (nat_cmp n)) old ≡ Some segment
      → (counted : Segment) × (lookup (is_at (nat_cmp n)) new ≡ Some counted) × CountsSynced segment counted
