-- What a disk in memory is to its callers.
use Rattle.std.specs.Prelude.{◌≡◌, ℕ, ◌+◌, ◌-◌, ◌==◌, ◌||◌, ◌^◌, min, Bool, List, [], ◌∷◌, Option, None, Some, if◌then◌else◌, Result, Ok, Err}
use Rattle.std.specs.List.{list_any}
use Rattle.std.specs.Ordering.{nat_cmp}
use Rattle.std.specs.Map.{lookup}
use Rattle.std.specs.BTreeMap.{is_at}
use Rattle.simplex_journal.specs.Faults.{raised}
use Rattle.simplex_disk.specs.declared.error.DiskError.{DiskError}
use Rattle.simplex_disk.specs.declared.error.DiskError.TheVariants.{Failed}
use Rattle.simplex_disk.specs.Calls.{Call, content, MayLeave}

-- Its files by number, how many calls were answered, which ones were to fail from the first on, which one
-- from now on is to fail, and how many failed.
pub record Held : Type 0 where
  pub kept : List (ℕ × List ℕ)
  pub made : ℕ
  pub failing : List ℕ
  pub ordered : ℕ
  pub faults : ℕ

-- what a read gives of a file
abbrev pub file_in : List (ℕ × List ℕ) → ℕ → Option (List ℕ)
file_in kept n = lookup (is_at (nat_cmp n)) kept

-- one call more, for a count that stops at the greatest u64
abbrev pub next : ℕ → ℕ
next made = min (made + 1) (2 ^ 64 - 1)

-- the next call fails
abbrev pub fails : Held → Bool
fails disk = (disk.ordered == 1) || list_any (λ number. number == next disk.made) disk.failing

-- the disk after a call that was counted, with so many faults
abbrev pub counted : Held → ℕ → Held
counted disk faults =
    record {
      kept = disk.kept;
      made = next disk.made;
      failing = disk.failing;
      ordered = disk.ordered - 1;
      faults = faults;
    }

-- The disk after a call that was answered, with these files: the call is counted, and is one more fault where it was to
-- fail.
abbrev pub after_call : Held → List (ℕ × List ℕ) → Held
after_call disk kept =
    record {
      kept = kept;
      made = next disk.made;
      failing = disk.failing;
      ordered = disk.ordered - 1;
      faults = if fails disk then raised disk.faults else disk.faults;
    }

-- the answer of a call that takes no memory
abbrev pub answer_of : Bool → Result (Unit {0}) DiskError
answer_of failed = if failed then Err Failed else Ok tt

-- Its calls may have been any by which each file reads as it does, and may be left so.
pub record IsLeftBy (kept : List (ℕ × List ℕ)) (calls : List Call) : Type 0 where
  pub each : (n : ℕ) → content n calls ≡ file_in kept n
  pub stays : (n : ℕ) → MayLeave n calls (content n calls)

-- It tells its order where no other call is to fail.
abbrev pub order_told : List ℕ → ℕ → Option ℕ
order_told [] ordered = Some ordered
order_told (number ∷ numbers) ordered = None

-- the order that it tells
abbrev pub order_in : Held → Option ℕ
order_in disk = order_told disk.failing disk.ordered
