-- A whole run, as it was made, with its logs and their lines.
use Rattle.std.proofs.Common.{◌≡◌, ℕ, List, [], Ok, Err, Result, sym, subst}
use Rattle.std.specs.Result.{IfOk}
use Rattle.simplex_transcript.specs.declared.entry.Entry.{Entry}
use Rattle.simplex_transcript.specs.declared.event.Event.{Event}
use Rattle.simplex_transcript.specs.declared.node.Node.{Node}
use Rattle.simplex_transcript.specs.declared.setup.Setup.{Setup}
use Rattle.simplex_form.specs.declared.input.Input.{Input}
use Rattle.model_log.specs.declared.entry.LogEntry.{LogEntry}
use Rattle.model_run.specs.Setting.{at_epoch_genesis}
use Rattle.model_run.specs.Run.{Run, run}
use Rattle.law_run.specs.Complete.{IsOneEach}
use Rattle.law_run.specs.Limits.{KeepsTheLimit}
use Rattle.law_run.specs.OneChain.{ReportOneChain}
use Rattle.law_run.specs.Safe.{RunsSafely}
use Rattle.law_run.specs.Sayings.{Each}
use Rattle.law_log.specs.Lines.{lines_of}
use Rattle.law_log.specs.Logs.{logs_in}
use Rattle.law_log.specs.Transcripts.{AreLogsOf, IsTranscript}
use Rattle.simplex_run.specs.declared.run.Transcript.{Transcript}
use Rattle.simplex_network.specs.Stands.{MadeBy}
use Rattle.simplex_run.specs.WholeRuns.{WholeRunFrom}
use Rattle.std.specs.Prelude.{string_bytes}
use Rattle.std.specs.declared.alloc.AllocError.{AllocError}
use Rattle.simplex_transcript.specs.declared.refusal.Refusal.{Refusal}
use Rattle.simplex_text.specs.Refusals.{refusal_text}
use Rattle.simplex_front.specs.declared.answer.Answer.{Answer}
use Rattle.simplex_front.specs.declared.answer.Answer.TheVariants as answers
use Rattle.simplex_front.specs.Answer.{IsAnswer}
use Rattle.simplex_logs.specs.declared.work.LogsDone.{LogsDone}
use Rattle.simplex_logs.specs.Says.{AreLogged, IsRefused}

-- what the law says of every transcript
abbrev pub LogsOfRuns : Type 0
LogsOfRuns = (setup : Setup) (events : List Event) (entries : List Entry) → IsTranscript setup events entries → AreLogsOf setup entries (logs_in setup entries)

-- a whole run, as it was made
pub made_whole : (setup : Setup) (events : List Event) (made : Transcript)
    → Run setup events ≡ Ok made.entries → IsOneEach made.entries events → MadeBy made.network (at_epoch_genesis setup) (run (at_epoch_genesis setup) [] events)
    → RunsSafely (at_epoch_genesis setup) events → ReportOneChain made.entries → Each (KeepsTheLimit setup) made.entries
    → WholeRunFrom (at_epoch_genesis setup) events made
made_whole setup events made entries each network safe one_chain limit =
    record { entries = entries; each = each; network = network; safe = safe; one_chain = one_chain; limit = limit }

-- its entries are those of a transcript
pub is_transcript : (input : Input) (made : Transcript) → WholeRunFrom (at_epoch_genesis input.setup) input.events made
    → (events : List Event) × IsTranscript input.setup events made.entries
is_transcript input made whole = (input.events, record { genesis = (at_epoch_genesis input.setup).genesis; ran = whole.entries; safe = whole.safe })

-- its logs, and their lines
pub made_logged : (input : Input) (made : Transcript) (logs : List (Node × List LogEntry)) (text : List ℕ)
    → WholeRunFrom (at_epoch_genesis input.setup) input.events made → LogsOfRuns → logs ≡ logs_in input.setup made.entries → text ≡ lines_of logs
    → AreLogged input (record { transcript = made; logs = logs }) text
unfolding is_transcript
made_logged input made logs text whole law same told =
    record {
      whole = whole;
      logs = subst (AreLogsOf input.setup made.entries) (sym same) (law input.setup input.events made.entries (is_transcript input made whole).1);
      told = told;
    }

-- an answer is right where another is that says more
pub told_as : (input : Input) (result : Result (Answer LogsDone Refusal) AllocError) → IfOk result (IsAnswer (AreLogged input) (λ refusal text. ⊥) (λ place. ⊥))
    → IfOk result (IsAnswer (AreLogged input) (IsRefused input) (λ place. ⊥))
told_as input (Err error) h = h
told_as input (Ok (answers.Done done text)) h = h
told_as input (Ok (answers.Refused reason text)) h = absurd h
told_as input (Ok (answers.BadInput place)) h = h

pub refused_as : (input : Input) (refusal : Refusal) (result : Result (Answer LogsDone Refusal) AllocError)
    → IfOk result (IsAnswer (λ done text. ⊥) (λ reason text. (reason ≡ refusal) × (text ≡ refusal_text refusal)) (λ place. ⊥))
    → Run input.setup input.events ≡ Err refusal → IfOk result (IsAnswer (AreLogged input) (IsRefused input) (λ place. ⊥))
refused_as input refusal (Err error) h ran = h
refused_as input refusal (Ok (answers.Done done text)) h ran = absurd h
refused_as input refusal (Ok (answers.Refused reason text)) h ran =
    (subst (λ r. Run input.setup input.events ≡ Err r) (sym h.0) ran, subst (λ r. string_bytes text ≡ refusal_text r) (sym h.0) h.1)
refused_as input refusal (Ok (answers.BadInput place)) h ran = h
