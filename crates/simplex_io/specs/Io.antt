-- What a source gives, what a sink takes, and when a count of faults rose.
use Rattle.std.specs.Prelude.{◌≡◌, ◌<◌, ◌≤◌, ◌+◌, ◌-◌, ◌^◌, ℕ, List, [], ◌++◌, length, min, Option, Some, None, IfSome}

-- The bytes were taken from the front of what was left. A source that does not tell what is left says nothing.
abbrev pub Takes : Option (List ℕ) → List ℕ → Option (List ℕ) → Type 0
Takes None bytes new = Unit {0}
Takes (Some rest) bytes None = ⊥
Takes (Some rest) bytes (Some left) = rest ≡ bytes ++ left

-- The bytes were all that was left.
abbrev pub TakesAll : Option (List ℕ) → List ℕ → Option (List ℕ) → Type 0
TakesAll old bytes new = Takes old bytes new × IfSome new (λ rest. rest ≡ [])

-- What is told is as it was: of what is left nothing was taken, to what was written nothing was added.
abbrev pub Stays : Option (List ℕ) → Option (List ℕ) → Type 0
Stays None new = Unit {0}
Stays (Some bytes) None = ⊥
Stays (Some bytes) (Some same) = same ≡ bytes

-- More bytes than the limit were taken.
abbrev pub TakesOver : ℕ → Option (List ℕ) → Option (List ℕ) → Type 0
TakesOver limit old new = (bytes : List ℕ) × Takes old bytes new × (limit < length bytes)

-- No more bytes than the limit were taken.
abbrev pub TakesWithin : ℕ → Option (List ℕ) → Option (List ℕ) → Type 0
TakesWithin limit old new = (bytes : List ℕ) × Takes old bytes new × (length bytes ≤ limit)

-- The bytes were added behind what was written. A sink that does not tell what was written says nothing.
abbrev pub Adds : Option (List ℕ) → List ℕ → Option (List ℕ) → Type 0
Adds None bytes new = Unit {0}
Adds (Some done) bytes None = ⊥
Adds (Some done) bytes (Some all) = all ≡ done ++ bytes

-- Some first bytes of the text were added.
abbrev pub AddsPart : Option (List ℕ) → List ℕ → Option (List ℕ) → Type 0
AddsPart old text new = (part rest : List ℕ) × (text ≡ part ++ rest) × Adds old part new

-- One more, for a count that stops at the greatest u64.
abbrev pub raised : ℕ → ℕ
raised count = min (count + 1) (2 ^ 64 - 1)

-- The count is greater than before, or stands at the greatest u64.
abbrev pub Rose : ℕ → ℕ → Type 0
Rose before now = raised before ≤ now
