-- What a call of the journal makes of its files.
use Rattle.std.specs.Prelude.{◌≡◌, ◌⊎◌, ℕ, List, Option, Result}
use Rattle.std.specs.Result.{MatchResult}
use Rattle.simplex_journal.specs.Journal.{Section}
use Rattle.simplex_disk.specs.declared.segment.Segment.{Segment}
use Rattle.simplex_disk.specs.Calls.{Call}
use Rattle.simplex_disk.specs.Contents.{OnDisk, IsOf, sections_kept, Any}
use Rattle.simplex_disk.specs.Index.{sections_at, IsIndexed, IsLeaving, LeavesJournal}
use Rattle.simplex_disk.specs.Moments.{Always, Then}
use Rattle.simplex_disk.specs.Opening.{IsSettled, LeavesSame}

-- What is kept of the files is so again, and of the sections before and now this holds. A crash at any moment of the
-- call leaves a journal with all records that were synced before, and a first part of the pending ones.
abbrev pub Goes : (Old New : List Call → Type 0) → List (ℕ × Segment) → List (ℕ × Segment) → Option ℕ → Option ℕ
    → (List Section → List Section → Type 0) → Type 0
Goes Old New es new leaving leaving_now Becomes = (calls : List Call) → Old calls → IsIndexed es leaving calls
    → Then New (Always (LeavesJournal (sections_at calls es) leaving calls) calls)
    (λ now. IsIndexed new leaving_now now × Becomes (sections_at calls es) (sections_at now new))

-- The second sections are these of the first where the call ended well, else the first ones.
abbrev pub Changes : {T E : Type 0} → Result T E → (List Section → List Section) → List Section → List Section → Type 0
Changes r change old new = MatchResult r (λ _. new ≡ change old) (λ _. new ≡ old)

-- What is leaving now was leaving before, or is this file.
abbrev pub LeavesNoneBut : ℕ → Option ℕ → Option ℕ → Type 0
LeavesNoneBut number leaving now = (n : ℕ) → IsLeaving now n → IsLeaving leaving n ⊎ (n ≡ number)

-- Nothing more is leaving now.
abbrev pub LeavesNoMore : Option ℕ → Option ℕ → Type 0
LeavesNoMore leaving now = (n : ℕ) → IsLeaving now n → IsLeaving leaving n

-- A crash at any moment of the call leaves a journal with all records that were synced before, and a first part of the
-- pending ones.
abbrev pub OutlastsCrashes : {D : Type 0} → (D → List Call → Type 0) → (D → ℕ → Option (List ℕ)) → OnDisk D → OnDisk D
    → Type 0
OutlastsCrashes StandsFor contents old new = (calls : List Call) → IsOf StandsFor old calls
    → Then (IsOf StandsFor new) (Always (LeavesJournal (sections_kept contents old) old.leaving calls) calls) Any

-- Where a crash before it left each file as it reads, a crash at any moment of the call leaves files in which the same
-- records are read.
abbrev pub OutlastsAsRead : (Old New : List Call → Type 0) → Type 0
OutlastsAsRead Old New =
    (calls : List Call) → Old calls → IsSettled calls → Then New (Always (LeavesSame calls) calls) Any
