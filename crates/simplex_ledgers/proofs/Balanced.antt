-- A whole run with its ledger, and the answers that tell it.
use Rattle.std.proofs.Common.{◌≡◌, ℕ, Bool, true, false, List, Contains, Option, Some, None, Ok, Err, Result, refl, sym, ap, subst, ◌∙◌}
use Rattle.std.specs.Prelude.{string_bytes, map, if◌then◌else◌}
use Rattle.std.specs.Option.{option_or}
use Rattle.std.specs.Result.{IfOk}
use Rattle.std.specs.declared.alloc.AllocError.{AllocError}
use Rattle.simplex_transcript.specs.declared.entry.Entry.{Entry}
use Rattle.simplex_transcript.specs.declared.event.Event.{Event}
use Rattle.simplex_transcript.specs.declared.node.Node.{Node}
use Rattle.simplex_transcript.specs.declared.refusal.Refusal.{Refusal}
use Rattle.simplex_transcript.specs.declared.setup.Setup.{Setup}
use Rattle.simplex_text.specs.Refusals.{refusal_text}
use Rattle.model_log.specs.declared.entry.LogEntry.{LogEntry}
use Rattle.model_run.specs.Setting.{at_epoch_genesis}
use Rattle.model_run.specs.Run.{Run}
use Rattle.law_run.proofs.BackingNaming.{from_map}
use Rattle.law_log.specs.Logs.{log_at, honest_from, logs_in}
use Rattle.law_log.specs.Transcripts.{IsTranscript}
use Rattle.model_ledger.specs.declared.transfer.LedgerError.{LedgerError}
use Rattle.model_ledger.specs.declared.transfer.LedgerError.TheVariants.{BadAccounts}
use Rattle.model_ledger.specs.Balances.{are_accounts}
use Rattle.model_ledger.specs.Blocks.{is_sound}
use Rattle.law_ledger.specs.Faults.{ledger_fault}
use Rattle.law_ledger.specs.Lines.{lines_of}
use Rattle.law_ledger.specs.Whole.{NoneIsMissing, IsLedgerOf}
use Rattle.simplex_run.specs.declared.run.Transcript.{Transcript}
use Rattle.simplex_run.specs.WholeRuns.{WholeRunFrom}
use Rattle.simplex_front.specs.declared.answer.Answer.{Answer}
use Rattle.simplex_front.specs.declared.answer.Answer.TheVariants as answers
use Rattle.simplex_front.specs.Answer.{IsAnswer}
use Rattle.simplex_ledgers.specs.declared.end.LedgerEnd.{LedgerEnd}
use Rattle.simplex_ledgers.specs.declared.end.LedgerEnd.TheVariants as ends
use Rattle.simplex_ledgers.specs.declared.form.LedgerInput.{LedgerInput}
use Rattle.simplex_ledgers.specs.declared.work.LedgerDone.{LedgerDone}
use Rattle.simplex_ledgers.specs.End.{error_text, end_text}
use Rattle.simplex_ledgers.specs.Says.{AreBalanced, IsEnded, IsTold}
use Rattle.simplex_ledgers.specs.Sound.{AllAreSound}

-- what the law says of every transcript
abbrev pub LedgersOfRuns : Type 0
LedgersOfRuns =
    (setup : Setup) (events : List Event) (entries : List Entry) (accounts : List ℕ) (blocks : List (List ℕ)) → IsTranscript setup events entries
    → ledger_fault setup entries events accounts blocks ≡ None → IsLedgerOf setup entries blocks accounts (logs_in setup entries)

-- the entries of a whole run are those of a transcript
pub transcript_of : (setup : Setup) (events : List Event) (made : Transcript) → WholeRunFrom (at_epoch_genesis setup) events made → IsTranscript setup events made.entries
transcript_of setup events made whole = record { genesis = (at_epoch_genesis setup).genesis; ran = whole.entries; safe = whole.safe }

-- where nothing is wrong, the accounts are such
pub accounts_fine : (setup : Setup) (entries : List Entry) (events : List Event) (accounts : List ℕ) (blocks : List (List ℕ)) → ledger_fault setup entries events accounts blocks ≡ None → are_accounts accounts ≡ true
unfolding ledger_fault
accounts_fine setup entries events accounts blocks fine = at (are_accounts accounts) _ fine
  where
    at : (b : Bool) (rest : Option LedgerError) → option_or (if b then None else Some BadAccounts) rest ≡ None → b ≡ true
    at true rest e = refl
    at false rest e = cc

-- no block of any log is missing
logs_sound : (setup : Setup) (entries : List Entry) (blocks : List (List ℕ)) → NoneIsMissing setup entries blocks → AllAreSound blocks (logs_in setup entries)
unfolding logs_in
logs_sound setup entries blocks none log k entry there =
    let from = from_map (λ (node : Node). (node, log_at setup entries node)) (honest_from 0 setup.members) log k in
    let same : log_at setup entries from.0 ≡ log.1 = ap (λ (l : Node × List LogEntry). l.1) from.2 in
    none from.0 entry (subst (λ (entries : List LogEntry). Contains entries entry) (sym same) there)

-- the ledger of a whole run with which nothing is wrong
pub has_ledger : (setup : Setup) (events : List Event) (accounts : List ℕ) (blocks : List (List ℕ)) (made : Transcript) (logs : List (Node × List LogEntry)) → LedgersOfRuns
    → WholeRunFrom (at_epoch_genesis setup) events made → ledger_fault setup made.entries events accounts blocks ≡ None → logs ≡ logs_in setup made.entries
    → IsLedgerOf setup made.entries blocks accounts logs
has_ledger setup events accounts blocks made logs law whole fine same =
    subst (IsLedgerOf setup made.entries blocks accounts) (sym same) (law setup events made.entries accounts blocks (transcript_of setup events made whole) fine)

pub has_blocks : (setup : Setup) (entries : List Entry) (accounts : List ℕ) (blocks : List (List ℕ)) (logs : List (Node × List LogEntry)) → IsLedgerOf setup entries blocks accounts logs → logs ≡ logs_in setup entries
    → AllAreSound blocks logs
has_blocks setup entries accounts blocks logs ledger same = subst (AllAreSound blocks) (sym same) (logs_sound setup entries blocks ledger.sound)

-- ---- answers that say more

pub balanced_as : (input : LedgerInput) (made : Transcript) (result : Result (Answer LedgerDone LedgerEnd) AllocError)
    → WholeRunFrom (at_epoch_genesis input.setup) input.events made → ledger_fault input.setup made.entries input.events input.accounts input.blocks ≡ None
    → IfOk result (IsAnswer (IsTold input.setup input.accounts input.blocks made) (λ reason text. ⊥) (λ place. ⊥))
    → IfOk result (IsAnswer (AreBalanced input) (IsEnded input) (λ place. ⊥))
balanced_as input made (Err error) whole fine h = h
balanced_as input made (Ok (answers.Done done text)) whole fine h = record {
  whole = subst (WholeRunFrom (at_epoch_genesis input.setup) input.events) (sym h.same) whole;
  fine = subst (λ (t : Transcript). ledger_fault input.setup t.entries input.events input.accounts input.blocks ≡ None) (sym h.same) fine;
  ledger = subst (λ (t : Transcript). IsLedgerOf input.setup t.entries input.blocks input.accounts done.logs) (sym h.same) h.ledger;
  told = h.told;
}
balanced_as input made (Ok (answers.Refused reason text)) whole fine h = absurd h
balanced_as input made (Ok (answers.BadInput place)) whole fine h = h

-- the end that is said
abbrev pub IsSaid : LedgerEnd → Result (Answer LedgerDone LedgerEnd) AllocError → Type 0
IsSaid reason result = IfOk result (IsAnswer (λ done text. ⊥) (λ end text. (end ≡ reason) × (text ≡ end_text reason)) (λ place. ⊥))

ended_as : (input : LedgerInput) (reason : LedgerEnd) (result : Result (Answer LedgerDone LedgerEnd) AllocError) → IsSaid reason result
    → ((text : List ℕ) → text ≡ end_text reason → IsEnded input reason text) → IfOk result (IsAnswer (AreBalanced input) (IsEnded input) (λ place. ⊥))
ended_as input reason (Err error) h so = h
ended_as input reason (Ok (answers.Done done text)) h so = absurd h
ended_as input reason (Ok (answers.Refused end text)) h so = subst (λ (e : LedgerEnd). IsEnded input e (string_bytes text)) (sym h.0) (so (string_bytes text) h.1)
ended_as input reason (Ok (answers.BadInput place)) h so = h

-- the run of the input is refused
pub refused_as : (input : LedgerInput) (refusal : Refusal) (result : Result (Answer LedgerDone LedgerEnd) AllocError) → IsSaid (ends.Run refusal) result → Run input.setup input.events ≡ Err refusal
    → IfOk result (IsAnswer (AreBalanced input) (IsEnded input) (λ place. ⊥))
refused_as input refusal result said ran = ended_as input (ends.Run refusal) result said (λ text e. (ran, e))

-- its whole run has no ledger
pub bad_as : (input : LedgerInput) (made : Transcript) (error : LedgerError) (result : Result (Answer LedgerDone LedgerEnd) AllocError) → IsSaid (ends.BadLedger error) result
    → WholeRunFrom (at_epoch_genesis input.setup) input.events made → ledger_fault input.setup made.entries input.events input.accounts input.blocks ≡ Some error
    → IfOk result (IsAnswer (AreBalanced input) (IsEnded input) (λ place. ⊥))
bad_as input made error result said whole wrong = ended_as input (ends.BadLedger error) result said (λ text e. (made.entries, whole.entries, wrong, e))
