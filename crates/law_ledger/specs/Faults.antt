-- Why there is no ledger of a run.
use Rattle.std.specs.Prelude.{ℕ, List, Option, Some, None, if◌then◌else◌}
use Rattle.std.specs.Option.{option_map, option_or}
use Rattle.simplex_transcript.specs.declared.event.Event.{Event}
use Rattle.simplex_transcript.specs.declared.entry.Entry.{Entry}
use Rattle.simplex_transcript.specs.declared.setup.Setup.{Setup}
use Rattle.model_ledger.specs.declared.transfer.LedgerError.{LedgerError}
use Rattle.model_ledger.specs.declared.transfer.LedgerError.TheVariants.{BadAccounts, BadAnswer}
use Rattle.law_ledger.specs.Answers.{bad_answer}
use Rattle.model_ledger.specs.Balances.{are_accounts}
use Rattle.model_ledger.specs.Blocks.{is_sound}
use Rattle.model_ledger.specs.Doubles.{double_fault}

-- wrong accounts, else two blocks with one digest, else an answer for a payload that is not sound
unfoldable pub ledger_fault : Setup → List Entry → List Event → List ℕ → List (List ℕ) → Option LedgerError
ledger_fault setup entries events accounts blocks =
    option_or (if are_accounts accounts then None else Some BadAccounts)
    (option_or (double_fault blocks)
    (option_map BadAnswer (bad_answer (is_sound blocks) setup entries events)))
