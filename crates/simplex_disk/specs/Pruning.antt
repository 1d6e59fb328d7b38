-- What a crash leaves inside a prune.
use Rattle.std.specs.Prelude.{◌≡◌, ◌≤◌, ◌<◌, ◌⊎◌, ℕ, suc, ◌+◌, ◌*◌, nat_lt, if◌then◌else◌, List, [], ◌∷◌, Option, None, Some, Result}
use Rattle.std.specs.Result.{MatchResult}
use Rattle.simplex_wire.specs.declared.artifact.Artifact.{Artifact}
use Rattle.simplex_journal.specs.Journal.{Section, pruned_first}
use Rattle.simplex_disk.specs.declared.segment.Segment.{Segment}
use Rattle.simplex_disk.specs.Calls.{Call, MayLeave}
use Rattle.simplex_disk.specs.Chain.{IsFront}
use Rattle.simplex_disk.specs.Index.{section_numbered, IsLeft, IsLeaving}

-- a whole image: of each file what a crash may leave of it
abbrev pub IsImage : List Call → (ℕ → Option (List ℕ)) → Type 0
IsImage calls image = (n : ℕ) → MayLeave n calls (image n)

-- What a crash leaves of the file of a section that was dropped before: no record is read there, or none more is gone
-- yet, and a crash before the call might have left it so.
abbrev pub IsFirstGone : ℕ → ℕ → List Call → Option (List ℕ) → Type 0
IsFirstGone count n before x = IsLeft None x ⊎ ((count ≡ 0) × MayLeave n before x)

-- Each whole image is a journal from which the first sections below the least number are gone, and that has of the
-- others all synced records and a first part of the pending ones. A section that was dropped before and whose removal
-- failed is gone first: it is back at most where no other is gone, and as it might have been back before the call.
pub record LeavesPruned (least : ℕ) (sections : List Section) (leaving : Option ℕ)
    (before calls : List Call) : Type 0 where
  pub each : (image : ℕ → Option (List ℕ)) → IsImage calls image
      → (count : ℕ) × ((n : ℕ) → ¬ IsLeaving leaving n
      → IsLeft (section_numbered n (pruned_first count least sections)) (image n))
      × ((n : ℕ) → IsLeaving leaving n → IsFirstGone count n before (image n))

-- What is leaving now was leaving before, or is below the least number.
abbrev pub LeavesNoneAbove : ℕ → Option ℕ → Option ℕ → Type 0
LeavesNoneAbove least leaving now = (n : ℕ) → IsLeaving now n → IsLeaving leaving n ⊎ (n < least)

-- Whatever a crash leaves of the file, it is not there, or it has the synced records and a first part of the pending
-- ones.
abbrev pub LeavesGone : ℕ → List Artifact → List Artifact → List Call → Type 0
LeavesGone n synced pending calls =
    (x : Option (List ℕ)) → MayLeave n calls x
    → (x ≡ None) ⊎ ((bytes : List ℕ) × (x ≡ Some bytes) × IsFront synced pending bytes)

-- no file below this number is there
abbrev pub IsBare : ℕ → (ℕ → Option (List ℕ)) → Type 0
IsBare least files = (n : ℕ) → n < least → files n ≡ None

-- no file below this number is kept
abbrev pub HasNoneBelow : ℕ → List (ℕ × Segment) → Type 0
HasNoneBelow least [] = Unit {0}
HasNoneBelow least (e ∷ es) = least ≤ e.0

-- the file of this number is the first that is kept
abbrev pub BeginsAt : ℕ → List (ℕ × Segment) → Type 0
BeginsAt n [] = ⊥
BeginsAt n (e ∷ es) = e.0 ≡ n

-- how many entries there are from the first on that are below the least number
unfoldable pub count_below : ℕ → List (ℕ × Segment) → ℕ
count_below least [] = 0
count_below least (e ∷ es) = if nat_lt e.0 least then suc (count_below least es) else 0

-- how many disk calls finish the removal of a file that is leaving
abbrev pub removal_calls : Option ℕ → ℕ
removal_calls None = 0
removal_calls (Some n) = 2

-- Which disk call of a prune fails so that it drops so many sections: the listing, or the sync of the last one's file.
abbrev pub failing_disk_call : Option ℕ → ℕ → ℕ
failing_disk_call leaving dropped = removal_calls leaving + (1 + 2 * dropped)

-- Of a disk that fails a call behind these two alone, none of them failed. One that fails the second failed.
abbrev pub IsPaced : {T E : Type 0} → Option ℕ → Result T E → Option ℕ → Type 0
IsPaced order answer now =
    (more : ℕ) → order ≡ Some (2 + more) → MatchResult answer (λ _. (0 < more) × (now ≡ Some more)) (λ _. more ≡ 0)

-- Of a disk that fails a call behind these calls alone, none of them failed.
abbrev pub IsSpared : {T E : Type 0} → ℕ → Option ℕ → Result T E → Option ℕ → Type 0
IsSpared calls order answer now =
    (more : ℕ) → 0 < more → order ≡ Some (calls + more) → MatchResult answer (λ _. now ≡ Some more) (λ _. ⊥)

-- the entries but the first
abbrev pub behind_first : List (ℕ × Segment) → List (ℕ × Segment)
behind_first [] = []
behind_first (e ∷ es) = es
