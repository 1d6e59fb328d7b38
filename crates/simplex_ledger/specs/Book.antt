-- What a ledger was made with, and what was applied since.
use Rattle.std.specs.Prelude.{ℕ, ◌≡◌, true, List, ◌++◌, map, drop, length, sum, flat_map, Contains}
use Rattle.model_log.specs.declared.entry.LogEntry.{LogEntry}
use Rattle.model_ledger.specs.declared.transfer.Transfer.{Transfer}
use Rattle.model_ledger.specs.Balances.{after_all, are_accounts}
use Rattle.model_ledger.specs.Blocks.{is_sound, transfers_of}

-- the accounts that were given, and each entry that was applied, with the transfers of its block
pub record Book : Type 0 where
  pub accounts : List ℕ
  pub applied : List (LogEntry × List Transfer)

abbrev pub entries_of : Book → List LogEntry
entries_of book = map (λ step. step.0) book.applied

-- all the transfers, one after another, on the accounts that were given
abbrev pub balances_of : Book → List ℕ
balances_of book = after_all book.accounts (flat_map (λ step. step.1) book.applied)

-- an entry with the transfers that these blocks have for it
abbrev pub step_of : List (List ℕ) → LogEntry → LogEntry × List Transfer
step_of blocks entry = (entry, transfers_of blocks entry.payload)

-- the rest of the log is applied, with the transfers that these blocks have for it
abbrev pub extended : Book → List (List ℕ) → List LogEntry → Book
extended book blocks log =
    record book { applied = book.applied ++ map (step_of blocks) (drop (length book.applied) log) }

-- each payload of the log has a sound block
abbrev pub AreSound : List (List ℕ) → List LogEntry → Type 0
AreSound blocks log = (entry : LogEntry) → Contains log entry → is_sound blocks entry.payload ≡ true

-- the transfers are those that these blocks have for the log
abbrev pub IsAlong : List (List ℕ) → List LogEntry → Book → Type 0
IsAlong blocks log book = book.applied ≡ map (step_of blocks) log

-- the balances and the total are those of the book, whose accounts are such
pub record IsKept (book : Book) (balances : List ℕ) (total : ℕ) : Type 0 where
  pub applied : balances ≡ balances_of book
  pub sum_kept : total ≡ sum book.accounts
  pub such : are_accounts book.accounts ≡ true
