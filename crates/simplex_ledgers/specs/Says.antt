-- What the words and the bytes of an input say of balances.
use Rattle.std.specs.Prelude.{ℕ, ◌≡◌, List, Option, Some, None, Ok, Err, String, codes, map, string_bytes, if◌then◌else◌}
use Rattle.std.specs.declared.alloc.Global.{Global}
use Rattle.simplex_front.specs.Words.{is_alone}
use Rattle.simplex_transcript.specs.declared.entry.Entry.{Entry}
use Rattle.simplex_transcript.specs.declared.node.Node.{Node}
use Rattle.simplex_transcript.specs.declared.refusal.Refusal.{Refusal}
use Rattle.simplex_transcript.specs.declared.setup.Setup.{Setup}
use Rattle.simplex_text.specs.Refusals.{refusal_text}
use Rattle.model_log.specs.declared.entry.LogEntry.{LogEntry}
use Rattle.model_run.specs.Setting.{at_epoch_genesis}
use Rattle.model_run.specs.Run.{Run}
use Rattle.model_ledger.specs.declared.transfer.LedgerError.{LedgerError}
use Rattle.law_ledger.specs.Lines.{lines_of}
use Rattle.law_ledger.specs.Faults.{ledger_fault}
use Rattle.law_ledger.specs.Whole.{IsLedgerOf}
use Rattle.simplex_run.specs.declared.run.Transcript.{Transcript}
use Rattle.simplex_run.specs.WholeRuns.{WholeRunFrom}
use Rattle.simplex_ledgers.specs.declared.end.LedgerEnd.{LedgerEnd}
use Rattle.simplex_ledgers.specs.declared.end.LedgerEnd.TheVariants as ends
use Rattle.simplex_ledgers.specs.declared.form.LedgerInput.{LedgerInput}
use Rattle.simplex_ledgers.specs.declared.work.LedgerDone.{LedgerDone}
use Rattle.simplex_ledgers.specs.End.{error_text}
use Rattle.simplex_ledgers.specs.Form.{ledger_input_of}

-- the word is `balances` alone
abbrev pub asks_for_balances : List (String Global) → Option (Unit {0})
asks_for_balances words = if is_alone (codes "balances") (map string_bytes words) then Some tt else None

-- what is said of other words
abbrev pub usage : List ℕ
usage = codes "usage: balances\n"

-- the bytes are not of the form: this is the first place
abbrev pub IsMisread : List ℕ → ℕ → Type 0
IsMisread bytes place = ledger_input_of bytes ≡ Err place

-- The whole run of the input, with whose accounts, blocks and answers nothing is wrong, and the logs of its honest nodes: no block
-- is missing, totals are kept and equal heights have equal balances. The text tells the balances.
pub record AreBalanced (input : LedgerInput) (done : LedgerDone) (text : List ℕ) : Type 0 where
  pub whole : WholeRunFrom (at_epoch_genesis input.setup) input.events done.transcript
  pub fine : ledger_fault input.setup done.transcript.entries input.events input.accounts input.blocks ≡ None
  pub ledger : IsLedgerOf input.setup done.transcript.entries input.blocks input.accounts done.logs
  pub told : text ≡ lines_of input.blocks input.accounts done.logs

-- the same of the parts of an input, whatever its events are
pub record IsTold (setup : Setup) (accounts : List ℕ) (blocks : List (List ℕ)) (transcript : Transcript) (done : LedgerDone) (text : List ℕ) : Type 0 where
  pub same : done.transcript ≡ transcript
  pub ledger : IsLedgerOf setup transcript.entries blocks accounts done.logs
  pub told : text ≡ lines_of blocks accounts done.logs

-- the bytes say an input of which this is so
abbrev pub BalancesSay : List ℕ → LedgerDone → List ℕ → Type 0
BalancesSay bytes done text = (input : LedgerInput) × (ledger_input_of bytes ≡ Ok input) × AreBalanced input done text

-- the run is whole, and this is wrong with the accounts, the blocks or the answers
abbrev pub IsBad : LedgerInput → LedgerError → List ℕ → Type 0
IsBad input error text =
    (entries : List Entry) × (Run input.setup input.events ≡ Ok entries) × (ledger_fault input.setup entries input.events input.accounts input.blocks ≡ Some error) × (text ≡ error_text error)

-- the run of the input is this refusal, or it is whole and has no ledger for this cause, which the text tells
abbrev pub IsEnded : LedgerInput → LedgerEnd → List ℕ → Type 0
IsEnded input (ends.Run refusal) text = (Run input.setup input.events ≡ Err refusal) × (text ≡ refusal_text refusal)
IsEnded input (ends.BadLedger error) text = IsBad input error text

-- the bytes say an input of which this is so
abbrev pub EndSays : List ℕ → LedgerEnd → List ℕ → Type 0
EndSays bytes reason text = (input : LedgerInput) × (ledger_input_of bytes ≡ Ok input) × IsEnded input reason text
