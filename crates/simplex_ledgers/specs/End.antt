-- The ends that are the program's own: their statuses and texts.
use Rattle.std.specs.Prelude.{ℕ, List, ◌++◌, codes, decimal}
use Rattle.simplex_text.specs.Refusals.{refusal_text}
use Rattle.model_ledger.specs.declared.transfer.LedgerError.{LedgerError}
use Rattle.model_ledger.specs.declared.transfer.LedgerError.TheVariants as errors
use Rattle.simplex_ledgers.specs.declared.end.LedgerEnd.{LedgerEnd}
use Rattle.simplex_ledgers.specs.declared.end.LedgerEnd.TheVariants as ends

abbrev pub error_status : LedgerError → ℕ
error_status errors.BadAccounts = 8
error_status (errors.Double first second) = 9
error_status (errors.BadAnswer event) = 10
error_status errors.Memory = 7

-- the status with which the process ends
abbrev pub end_status : LedgerEnd → ℕ
end_status (ends.Run refusal) = 1
end_status (ends.BadLedger error) = error_status error

abbrev pub error_text : LedgerError → List ℕ
error_text errors.BadAccounts = codes "bad accounts\n"
error_text (errors.Double first second) = codes "double block " ++ (decimal second ++ codes "\n")
error_text (errors.BadAnswer event) = codes "bad answer at " ++ (decimal event ++ codes "\n")
error_text errors.Memory = codes "out of memory\n"

-- the line that is written
abbrev pub end_text : LedgerEnd → List ℕ
end_text (ends.Run refusal) = refusal_text refusal
end_text (ends.BadLedger error) = error_text error
