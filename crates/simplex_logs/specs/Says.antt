-- What the words and the bytes of an input say of logs.
use Rattle.std.specs.Prelude.{ℕ, ◌≡◌, List, Option, Some, None, Ok, Err, String, codes, map, string_bytes, if◌then◌else◌}
use Rattle.std.specs.declared.alloc.Global.{Global}
use Rattle.simplex_front.specs.Words.{is_alone}
use Rattle.simplex_transcript.specs.declared.refusal.Refusal.{Refusal}
use Rattle.simplex_form.specs.declared.input.Input.{Input}
use Rattle.simplex_form.specs.Input.{input_of}
use Rattle.simplex_text.specs.Refusals.{refusal_text}
use Rattle.model_run.specs.Setting.{at_epoch_genesis}
use Rattle.model_run.specs.Run.{Run}
use Rattle.simplex_run.specs.WholeRuns.{WholeRunFrom}
use Rattle.law_log.specs.Lines.{lines_of}
use Rattle.law_log.specs.Transcripts.{AreLogsOf}
use Rattle.simplex_logs.specs.declared.work.LogsDone.{LogsDone}

-- the word is `logs` alone
abbrev pub asks_for_logs : List (String Global) → Option (Unit {0})
asks_for_logs words = if is_alone (codes "logs") (map string_bytes words) then Some tt else None

-- what is said of other words
abbrev pub usage : List ℕ
usage = codes "usage: logs\n"

-- the bytes are not of the form: this is the first place
abbrev pub IsMisread : List ℕ → ℕ → Type 0
IsMisread bytes place = input_of bytes ≡ Err place

-- the whole run of the input, and the logs of its honest nodes, which are of one chain
pub record AreLogged (input : Input) (done : LogsDone) (text : List ℕ) : Type 0 where
  pub whole : WholeRunFrom (at_epoch_genesis input.setup) input.events done.transcript
  pub logs : AreLogsOf input.setup done.transcript.entries done.logs
  pub told : text ≡ lines_of done.logs

-- the bytes say a setup and events, whose whole run this is, with these logs, which the text tells
abbrev pub LogsSay : List ℕ → LogsDone → List ℕ → Type 0
LogsSay bytes done text = (input : Input) × (input_of bytes ≡ Ok input) × AreLogged input done text

-- the run of the input is this refusal, which the text tells
abbrev pub IsRefused : Input → Refusal → List ℕ → Type 0
IsRefused input refusal text = (Run input.setup input.events ≡ Err refusal) × (text ≡ refusal_text refusal)

-- the bytes say a setup and events of which this is so
abbrev pub RefusalSays : List ℕ → Refusal → List ℕ → Type 0
RefusalSays bytes refusal text = (input : Input) × (input_of bytes ≡ Ok input) × IsRefused input refusal text
