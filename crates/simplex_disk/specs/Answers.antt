-- What the answer of a disk's call says of its faults and of the order that one fails.
use Rattle.std.specs.Prelude.{◌≡◌, ◌≢◌, ◌≤◌, ◌-◌, ℕ, List, Option, None, Some, Result, Ok, Err, ◌==◌}
use Rattle.std.specs.List.{list_any}
use Rattle.std.specs.Option.{is_some}
use Rattle.std.specs.Ordering.{nat_cmp}
use Rattle.std.specs.List.Sorted.{IsStrictlySortedBy}
use Rattle.simplex_journal.specs.Faults.{Rose}
use Rattle.simplex_disk.specs.declared.error.DiskError.{DiskError}
use Rattle.simplex_disk.specs.declared.error.DiskError.TheVariants.{Failed, Memory}

-- The count of faults rose exactly where the disk failed.
abbrev pub Counts : {R : Type 0} → Result R DiskError → ℕ → ℕ → Type 0
Counts (Ok x) before now = now ≡ before
Counts (Err Failed) before now = (before ≤ now) × Rose before now
Counts (Err Memory) before now = now ≡ before

-- Where the order is told, the call failed exactly if the order named it, and is counted. A call that ended for want of
-- memory is not counted.
abbrev pub Heeds : {R : Type 0} → Option ℕ → Result R DiskError → Option ℕ → Type 0
Heeds None answer now = Unit {0}
Heeds (Some call) (Ok x) now = (call ≢ 1) × (now ≡ Some (call - 1))
Heeds (Some call) (Err Failed) now = (call ≡ 1) × (now ≡ Some 0)
Heeds (Some call) (Err Memory) now = now ≡ Some call

-- What is told of the order still stands.
abbrev pub OrderStands : Option ℕ → Option ℕ → Type 0
OrderStands None now = Unit {0}
OrderStands (Some call) now = now ≡ Some call

-- These are the numbers of the files that are there, in rising order.
pub record IsListing (files : ℕ → Option (List ℕ)) (numbers : List ℕ) : Type 0 where
  pub rising : IsStrictlySortedBy nat_cmp numbers
  pub all : (n : ℕ) → is_some (files n) ≡ list_any (λ number. number == n) numbers
