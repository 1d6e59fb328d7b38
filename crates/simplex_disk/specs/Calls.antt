-- A disk: what its calls do to its files, and what a crash may leave of a file.
use Rattle.std.specs.Prelude.{◌≡◌, ◌⊎◌, ℕ, ◌+◌, ◌≤◌, ◌==◌, Bool, true, false, if◌then◌else◌, min, max, List, [], ◌∷◌, ◌++◌, length, take, drop, Option, None, Some}

-- A call that was made.
pub data Call : Type 0 where
  -- this file was there before the first call, as these bytes
  Found : ℕ → List ℕ → Call
  -- to this file, at this place, a write of so many bytes. These were written: fewer or others only where it failed
  Write : ℕ → ℕ → ℕ → List ℕ → Call
  -- this file was to be cut to a length; whether it was
  Cut : ℕ → ℕ → Bool → Call
  -- this file was to be removed; whether it was
  Remove : ℕ → Bool → Call
  -- this file was synced
  Sync : ℕ → Call
  -- all files were
  Settle : Call
  -- this byte was put at a place of this file, which counts as synced so
  Leave : ℕ → ℕ → ℕ → Call

-- whether a call is of this file
abbrev pub is_of : ℕ → Call → Bool
is_of n (Found file bytes) = file == n
is_of n (Write file place range bytes) = file == n
is_of n (Cut file len done) = file == n
is_of n (Remove file done) = file == n
is_of n (Sync file) = file == n
is_of n Settle = true
is_of n (Leave file place byte) = file == n

-- the bytes of a file; none where it is not there
abbrev pub bytes_of : Option (List ℕ) → List ℕ
bytes_of None = []
bytes_of (Some bytes) = bytes

abbrev pub cut_to : ℕ → Option (List ℕ) → Option (List ℕ)
cut_to len None = None
cut_to len (Some bytes) = Some (take len bytes)

-- bytes with these written over them, or behind them
abbrev pub written : ℕ → List ℕ → List ℕ → List ℕ
written place bytes old = take place old ++ (bytes ++ drop (place + length bytes) old)

-- what a read gives after a call of the file, from what it gave before
abbrev pub after : Call → Option (List ℕ) → Option (List ℕ)
after (Found file bytes) old = Some bytes
after (Write file place range bytes) old = Some (written place bytes (bytes_of old))
after (Cut file len done) old = if done then cut_to len old else old
after (Remove file done) old = if done then None else old
after (Sync file) old = old
after Settle old = old
after (Leave file place byte) old = Some (written place (byte ∷ []) (bytes_of old))

-- What a read of the file gives after these calls, of which the newest is first.
unfoldable pub content : ℕ → List Call → Option (List ℕ)
content n [] = None
content n (call ∷ calls) = if is_of n call then after call (content n calls) else content n calls

-- A write of so many bytes that a crash may cut short: any bytes in the range and past the old end, the others as they
-- were.
pub record Torn (place range : ℕ) (old new : List ℕ) : Type 0 where
  pub before : take (min place (length old)) new ≡ take (min place (length old)) old
  pub behind : drop (place + range) new ≡ drop (place + range) old
  pub no_shorter : length old ≤ length new
  pub no_longer : length new ≤ max (length old) (place + range)

-- A file that is not there may be there then, or not.
abbrev pub TornIn : ℕ → ℕ → Option (List ℕ) → Option (List ℕ) → Type 0
TornIn place range None None = Unit {0}
TornIn place range None (Some new) = Torn place range [] new
TornIn place range (Some old) None = ⊥
TornIn place range (Some old) (Some new) = Torn place range old new

-- What a crash may leave of a file right after a call of it, from what a read gives now and from what a crash before it
-- might have left.
abbrev pub Leaves : Call → Option (List ℕ) → (Option (List ℕ) → Type 0) → Option (List ℕ) → Type 0
Leaves (Found file bytes) now before x = x ≡ now
Leaves (Write file place range bytes) now before x = (y : Option (List ℕ)) × before y × TornIn place range y x
Leaves (Cut file len done) now before x = (y : Option (List ℕ)) × before y × ((x ≡ y) ⊎ (x ≡ cut_to len y))
Leaves (Remove file done) now before x = before x ⊎ (x ≡ None)
Leaves (Sync file) now before x = x ≡ now
Leaves Settle now before x = x ≡ now
Leaves (Leave file place byte) now before x = x ≡ now

abbrev pub LeavesIf : Bool → Call → Option (List ℕ) → (Option (List ℕ) → Type 0) → Option (List ℕ) → Type 0
LeavesIf true call now before x = Leaves call now before x
LeavesIf false call now before x = before x

-- What a crash after these calls may leave of the file.
unfoldable pub MayLeave : ℕ → List Call → Option (List ℕ) → Type 0
MayLeave n [] x = x ≡ None
MayLeave n (call ∷ calls) x = LeavesIf (is_of n call) call (content n (call ∷ calls)) (MayLeave n calls) x

-- What a write that failed has done: nothing, or it wrote some bytes in its range.
abbrev pub WritesInPart : ℕ → ℕ → ℕ → List Call → (List Call → Type 0) → Type 0
WritesInPart file place range calls StandsFor =
    StandsFor calls ⊎ ((left : List ℕ) × (length left ≤ range) × StandsFor (Write file place range left ∷ calls))

-- What a cut that failed has done: nothing, or it may have cut the file.
abbrev pub CutsInPart : ℕ → ℕ → List Call → (List Call → Type 0) → Type 0
CutsInPart file len calls StandsFor = StandsFor calls ⊎ ((done : Bool) × StandsFor (Cut file len done ∷ calls))

-- What a removal that failed has done: nothing, or it may have removed the file.
abbrev pub RemovesInPart : ℕ → List Call → (List Call → Type 0) → Type 0
RemovesInPart file calls StandsFor = StandsFor calls ⊎ ((done : Bool) × StandsFor (Remove file done ∷ calls))

-- Whatever calls were made before, this one is made too.
abbrev pub Does : (Old New : List Call → Type 0) → Call → Type 0
Does Old New call = (calls : List Call) → Old calls → New (call ∷ calls)

-- Whatever calls were made before: a call that failed was made in part, or not at all.
abbrev pub DoesInPart : (Old New : List Call → Type 0) → (List Call → (List Call → Type 0) → Type 0) → Type 0
DoesInPart Old New InPart = (calls : List Call) → Old calls → InPart calls New

-- Whatever calls were made before, no other is made.
abbrev pub DoesNothing : (Old New : List Call → Type 0) → Type 0
DoesNothing Old New = (calls : List Call) → Old calls → New calls
