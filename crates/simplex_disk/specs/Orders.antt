-- The order that a call of the journal fails, and what its disk is ordered for it.
use Rattle.std.specs.Prelude.{◌≡◌, ℕ, zero, suc, ◌-◌, Bool, true, false, Option, None, Some, Result, Ok, Err}
use Rattle.simplex_journal.specs.Order.{Order}
use Rattle.simplex_journal.specs.declared.error.JournalError.{JournalError}
use Rattle.simplex_disk.specs.declared.error.DiskError.{DiskError}
use Rattle.simplex_disk.specs.declared.error.DiskError.TheVariants.{Failed, Memory}
use Rattle.simplex_disk.specs.Errors.{journal_error}

-- The journal tells its order where its disk tells that it fails no call by itself.
abbrev pub order_told : Option ℕ → Order → Option Order
order_told None order = None
order_told (Some zero) order = Some order
order_told (Some (suc call)) order = None

-- What the disk tells of its order, after it was given the order to fail the call of this number, if it was given it.
-- Where it tells none, nothing is said.
abbrev pub IsOrdered : Bool → ℕ → Option ℕ → Option ℕ → Type 0
IsOrdered true number None now = Unit {0}
IsOrdered true number (Some call) now = now ≡ Some number
IsOrdered false number before now = now ≡ before

-- what the journal answers
abbrev pub journal_answer : {T : Type 0} → Result T DiskError → Result T JournalError
journal_answer (Ok x) = Ok x
journal_answer (Err e) = Err (journal_error e)

-- Which call is to fail after one more call. A call that ended for want of memory is not counted.
abbrev pub call_after : {T : Type 0} → Result T DiskError → ℕ → ℕ
call_after (Ok x) call = call - 1
call_after (Err Failed) call = call - 1
call_after (Err Memory) call = call
