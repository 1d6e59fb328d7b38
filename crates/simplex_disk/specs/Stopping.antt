-- What a stop makes of a file.
use Rattle.std.specs.Prelude.{◌≡◌, ◌<◌, ◌≤◌, ℕ, List, [], ◌++◌, length, take, drop, Option, None, Some, IsSome}
use Rattle.std.specs.Ordering.{nat_cmp}
use Rattle.std.specs.Map.{lookup, set_value}
use Rattle.std.specs.BTreeMap.{is_at}
use Rattle.simplex_journal.specs.Memory.{Lists}
use Rattle.simplex_disk.specs.declared.segment.Segment.{Segment}
use Rattle.simplex_wire.specs.declared.artifact.Artifact.{Artifact}
use Rattle.simplex_disk.specs.Calls.{Call, content}
use Rattle.simplex_disk.specs.Chain.{total, places}
use Rattle.simplex_disk.specs.Left.{HasChain}
use Rattle.simplex_disk.specs.Segments.{lists_in}
use Rattle.simplex_disk.specs.Opening.{IsSettledAt}

-- The pending records stand in the file, and these are the places of the gates of the first of them.
pub record WaitsFirst (n : ℕ) (synced pending : List Artifact) (gates : List ℕ) (calls : List Call) : Type 0 where
  pub content : HasChain n synced pending calls
  pub settled : IsSettledAt n calls
  pub places : gates ≡ take (length gates) (places (total synced) pending)
  pub few : length gates ≤ length pending

-- The first k of them are open.
pub record OpensFirst (n : ℕ) (synced pending : List Artifact) (k : ℕ) (calls : List Call) : Type 0 where
  pub content : HasChain n (synced ++ take k pending) (drop k pending) calls
  pub settled : IsSettledAt n calls

-- No record is pending.
pub record IsStopped (n : ℕ) (synced : List Artifact) (calls : List Call) : Type 0 where
  pub content : HasChain n synced [] calls
  pub settled : IsSettledAt n calls

-- the records that a stop leaves of these
abbrev pub crashed_lists : ℕ → Lists → Lists
crashed_lists keep lists = record { synced = lists.synced ++ take keep lists.pending; pending = [] }

-- What is kept of this file was changed, and its records are what a stop leaves of them.
abbrev pub StopsAt : ℕ → ℕ → List Call → List Call → List (ℕ × Segment) → List (ℕ × Segment) → Type 0
StopsAt keep n old new es now = (v : Segment) → lookup (is_at (nat_cmp n)) es ≡ Some v
    → (w : Segment) × (now ≡ set_value (is_at (nat_cmp n)) es w)
    × (lists_in (content n new) w ≡ crashed_lists keep (lists_in (content n old) v))

-- This is the least number of a section from a number on, if there is one.
abbrev pub IsNext : List (ℕ × Segment) → ℕ → Option ℕ → Type 0
IsNext es from None = (q : ℕ) → from ≤ q → lookup (is_at (nat_cmp q)) es ≡ None
IsNext es from (Some n) =
    (from ≤ n) × IsSome (lookup (is_at (nat_cmp n)) es)
    × ((q : ℕ) → from ≤ q → q < n → lookup (is_at (nat_cmp q)) es ≡ None)
