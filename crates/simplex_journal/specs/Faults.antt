-- When the count of a journal's faults rose.
use Rattle.std.specs.Prelude.{◌≡◌, ◌≤◌, ◌+◌, ◌-◌, ◌^◌, ℕ, min, max, Result, Ok, Err}
use Rattle.simplex_journal.specs.declared.error.JournalError.{JournalError}
use Rattle.simplex_journal.specs.declared.error.JournalError.TheVariants.{Failed, Memory}

-- The count is greater than before, or stands at the greatest u64.
abbrev pub Rose : ℕ → ℕ → Type 0
Rose before now = min (before + 1) (2 ^ 64 - 1) ≤ now

-- One more, for a count that stops at the greatest u64.
abbrev pub raised : ℕ → ℕ
raised count = max count (min (count + 1) (2 ^ 64 - 1))

-- What a call's answer says of the count: it rises where the journal failed, and there alone.
abbrev pub Counts : {R : Type 0} → ℕ → Result R JournalError → ℕ → Type 0
Counts before (Ok _) now = now ≡ before
Counts before (Err Failed) now = (before ≤ now) × Rose before now
Counts before (Err Memory) now = now ≡ before
