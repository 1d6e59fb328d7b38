-- Records in a file: a chain of gates.
use Rattle.std.specs.Prelude.{◌≡◌, ℕ, zero, suc, ◌+◌, ◌-◌, ◌^◌, ◌≤◌, ◌==◌, nat_lt, if◌then◌else◌, List, [], ◌∷◌, ◌++◌, length, take, drop, Option, None, Result, Ok, Err}
use Rattle.std.specs.Result.{result_ok}
use Rattle.simplex_wire.specs.declared.artifact.Artifact.{Artifact}
use Rattle.simplex_wire.specs.declared.error.DecodeError.{DecodeError}
use Rattle.simplex_wire.specs.declared.error.DecodeError.TheVariants.{Fault}
use Rattle.simplex_wire.specs.declared.error.DecodeCause.TheVariants.{Short}
use Rattle.simplex_wire.specs.Format.{◌>>=◌, whole}
use Rattle.simplex_wire.specs.Number.{varint, number_from}
use Rattle.simplex_wire.specs.Artifact.{artifact}

-- What stands behind the gate of a record: its length, and its one spelling.
abbrev pub record_bytes : Artifact → List ℕ
record_bytes a = varint (length (artifact.spelling a)) ++ artifact.spelling a

-- Its spelling is read again, and its length has a place in a u64. So it is of each record that was made.
pub record Reads (a : Artifact) : Type 0 where
  pub again : whole artifact (artifact.spelling a) ≡ Ok a
  pub short : length (artifact.spelling a) ≤ 2 ^ 64 - 1

-- Whatever record it is that these bytes are, with a closed gate behind it, this holds of it.
abbrev pub OfRecord : List ℕ → (Artifact → Type 0) → Type 0
OfRecord bytes Holds = (a : Artifact) → Reads a → bytes ≡ record_bytes a ++ 0 ∷ [] → Holds a

-- A gate, and the record behind it.
pub record Block : Type 0 where
  pub gate : ℕ
  pub artifact : Artifact

-- Blocks, and then a tail.
unfoldable pub chain : List Block → List ℕ → List ℕ
chain [] tail = tail
chain (b ∷ blocks) tail = b.gate ∷ record_bytes b.artifact ++ chain blocks tail

unfoldable pub records_of : List Block → List Artifact
records_of [] = []
records_of (b ∷ blocks) = b.artifact ∷ records_of blocks

-- These records, each behind an open gate.
unfoldable pub open_blocks : List Artifact → List Block
open_blocks [] = []
open_blocks (a ∷ records) = record { gate = 1; artifact = a } ∷ open_blocks records

-- How many bytes the blocks of these records take.
unfoldable pub total : List Artifact → ℕ
total [] = 0
total (a ∷ records) = suc (length (record_bytes a) + total records)

-- ---- reading

-- the record whose spelling has n bytes, from the front
abbrev pub framed : ℕ × List ℕ → Result (Artifact × List ℕ) DecodeError
framed x =
    if nat_lt (length x.1) x.0 then Err (Fault Short 0) else whole artifact (take x.0 x.1) >>= λ a. Ok (a, drop x.0 x.1)

-- the record behind a gate, and what stands behind it
unfoldable pub block : List ℕ → Result (Artifact × List ℕ) DecodeError
block bytes = number_from 0 (2 ^ 64 - 1) bytes >>= framed

-- a record that was read, and what is read behind it
abbrev pub and_behind : (List ℕ → List Artifact) → Result (Artifact × List ℕ) DecodeError → List Artifact
and_behind more (Ok x) = x.0 ∷ more x.1
and_behind more (Err _) = []

-- The records of a file, at most so many: those behind the open gates, up to the first gate that is not 1 or that no
-- whole record follows.
unfoldable pub opened_by : ℕ → List ℕ → List Artifact
opened_by zero bytes = []
opened_by (suc n) [] = []
opened_by (suc n) (gate ∷ bytes) = if gate == 1 then and_behind (opened_by n) (block bytes) else []

-- all of them: a record takes bytes, so no file has more
abbrev pub opened : List ℕ → List Artifact
opened bytes = opened_by (length bytes) bytes

-- So many records from the front, whatever their gates are.
unfoldable pub walked : ℕ → List ℕ → List Artifact
walked zero bytes = []
walked (suc n) [] = []
walked (suc n) (gate ∷ bytes) = and_behind (walked n) (block bytes)

-- The record behind the gate at the front, whatever that gate is, and what stands behind it.
unfoldable pub taken : List ℕ → Option (Artifact × List ℕ)
taken [] = None
taken (gate ∷ bytes) = result_ok (block bytes)

-- ---- what a file is to the journal

-- The synced records behind open gates, the pending ones behind gates of any kind, a closed gate, and anything.
pub record IsChain (synced pending : List Artifact) (bytes : List ℕ) : Type 0 where
  pub waiting : List Block
  pub records : records_of waiting ≡ pending
  pub rest : List ℕ
  pub whole : bytes ≡ chain (open_blocks synced) (chain waiting (0 ∷ rest))

-- The same, where only the first pending records need be whole.
pub record IsFront (synced pending : List Artifact) (bytes : List ℕ) : Type 0 where
  pub whole : ℕ
  pub chain : IsChain synced (take whole pending) bytes

-- The places of the gates of these records, of which the first is at this place.
unfoldable pub places : ℕ → List Artifact → List ℕ
places first [] = []
places first (a ∷ records) = first ∷ places (first + suc (length (record_bytes a))) records
