-- What a crash may leave of a file, as the journal reads it.
use Rattle.std.specs.Prelude.{◌≡◌, ◌⊎◌, ℕ, ◌≤◌, List, [], ◌∷◌, length, Option, None, Some}
use Rattle.simplex_wire.specs.declared.artifact.Artifact.{Artifact}
use Rattle.simplex_disk.specs.Calls.{Call, content, MayLeave, bytes_of}
use Rattle.simplex_disk.specs.Chain.{IsChain, IsFront, opened_by, chain, open_blocks, total}

-- A file that is not made yet: it is not there, or it is at most one byte.
abbrev pub LeavesNone : ℕ → List Call → Type 0
LeavesNone n calls = (x : Option (List ℕ)) → MayLeave n calls x → length (bytes_of x) ≤ 1

-- Whatever a crash leaves of the file has the synced records, a first part of the pending ones, and a closed gate.
abbrev pub LeavesFront : ℕ → List Artifact → List Artifact → List Call → Type 0
LeavesFront n synced pending calls =
    (x : Option (List ℕ)) → MayLeave n calls x → (bytes : List ℕ) × (x ≡ Some bytes) × IsFront synced pending bytes

-- It has all pending ones, though their gates may be closed.
abbrev pub LeavesChain : ℕ → List Artifact → List Artifact → List Call → Type 0
LeavesChain n synced pending calls =
    (x : Option (List ℕ)) → MayLeave n calls x → (bytes : List ℕ) × (x ≡ Some bytes) × IsChain synced pending bytes

-- a read gives these records
abbrev pub HasChain : ℕ → List Artifact → List Artifact → List Call → Type 0
HasChain n synced pending calls = (bytes : List ℕ) × (content n calls ≡ Some bytes) × IsChain synced pending bytes

-- The file stands for these records: a read gives them, and what a crash leaves has at most lost a last part of the
-- pending ones.
pub record Stands (n : ℕ) (synced pending : List Artifact) (calls : List Call) : Type 0 where
  pub content : HasChain n synced pending calls
  pub left : LeavesFront n synced pending calls

-- The file is not made yet, as a read and as a crash gives it.
pub record IsUnmade (n : ℕ) (calls : List Call) : Type 0 where
  pub content : length (bytes_of (content n calls)) ≤ 1
  pub left : LeavesNone n calls

-- No record is read there: it has at most one byte, or begins with a closed gate.
abbrev pub IsClosed : List ℕ → Type 0
IsClosed bytes = (length bytes ≤ 1) ⊎ ((rest : List ℕ) × (bytes ≡ 0 ∷ rest))

-- Whatever a crash leaves of the file, no record is read there.
abbrev pub LeavesClosed : ℕ → List Call → Type 0
LeavesClosed n calls = (x : Option (List ℕ)) → MayLeave n calls x → IsClosed (bytes_of x)

-- Nor is one as a read gives it.
pub record IsShut (n : ℕ) (calls : List Call) : Type 0 where
  pub content : IsClosed (bytes_of (content n calls))
  pub left : LeavesClosed n calls

-- The file is not there, as a read gives it and whatever a crash leaves.
pub record IsAbsent (n : ℕ) (calls : List Call) : Type 0 where
  pub content : content n calls ≡ None
  pub left : (x : Option (List ℕ)) → MayLeave n calls x → x ≡ None

-- The file is open blocks of these records, and an end in which no record is read.
abbrev pub IsSolid : List Artifact → List ℕ → Type 0
IsSolid records bytes = (end : List ℕ) × (bytes ≡ chain (open_blocks records) end) × ((n : ℕ) → opened_by n end ≡ [])

-- Whatever a crash leaves of the file, these records are read there.
abbrev pub LeavesSolid : ℕ → List Artifact → List Call → Type 0
LeavesSolid n records calls =
    (x : Option (List ℕ)) → MayLeave n calls x → (bytes : List ℕ) × (x ≡ Some bytes) × IsSolid records bytes

-- A crash now would leave the file as it reads. Its records take so many bytes.
pub record IsMendable (n : ℕ) (records : List Artifact) (len : ℕ) (calls : List Call) : Type 0 where
  pub bytes : List ℕ
  pub reads : content n calls ≡ Some bytes
  pub solid : IsSolid records bytes
  pub only : (x : Option (List ℕ)) → MayLeave n calls x → x ≡ content n calls
  pub size : len ≡ total records
