-- What the words and the bytes of an input say of a record.
use Rattle.std.specs.Prelude.{ℕ, ◌≡◌, ◌≤◌, false, List, Option, Some, Ok, Err, codes}
use Rattle.json.specs.Lex.{tokens}
use Rattle.json.specs.Print.{print}
use Rattle.serde_json.specs.Data.{Data, depth}
use Rattle.serde_json.specs.Find.{get}
use Rattle.serde_json.specs.Read.{read, max_depth}
use Rattle.serde_json.specs.Written.{has_float, compact_text, IsInOrder}
use Rattle.simplex_transcript.specs.declared.refusal.Refusal.{Refusal}
use Rattle.simplex_form.specs.declared.input.Input.{Input}
use Rattle.simplex_form.specs.Input.{json_of, input_of}
use Rattle.simplex_text.specs.Refusals.{refusal_text}
use Rattle.model_run.specs.Setting.{at_epoch_genesis}
use Rattle.model_run.specs.Run.{Run}
use Rattle.simplex_run.specs.WholeRuns.{WholeRunFrom}
use Rattle.model_audit.specs.declared.record.Verdict.TheVariants.{Sound}
use Rattle.model_audit.specs.Audit.{audited}
use Rattle.model_audit.specs.Record.{record_of}
use Rattle.simplex_audit_form.specs.Document.{document_data}
use Rattle.simplex_audits.specs.declared.recording.RecordDone.{RecordDone}

-- the bytes are not of the form: this is the first place
abbrev pub IsMisread : List ℕ → ℕ → Type 0
IsMisread bytes place = input_of bytes ≡ Err place

-- the text of the value without a space, its members in their order, which reads back as the value
pub record IsWritten (value : Data) (text : List ℕ) : Type 0 where
  pub compact : text ≡ print (tokens text)
  pub spelled : has_float value ≡ false → text ≡ compact_text value
  pub order : IsInOrder text value
  pub reads_back : depth value ≤ max_depth → read text ≡ Some value

-- the setup and the events as they stand in the value that was read, and the record of the transcript
pub record IsDocument (json : Option Data) (done : RecordDone) (text : List ℕ) : Type 0 where
  pub value : Data
  pub setup : Data
  pub events : Data
  pub was_read : json ≡ Some value
  pub has_setup : get (codes "setup") value ≡ Some setup
  pub has_events : get (codes "events") value ≡ Some events
  pub written : IsWritten (document_data setup events done.entries) text

-- the whole run of the input, and its record, in which no fault is found
pub record IsRecorded (input : Input) (done : RecordDone) : Type 0 where
  pub whole : WholeRunFrom (at_epoch_genesis input.setup) input.events done.transcript
  pub record_is : done.entries ≡ record_of done.transcript.entries
  pub sound : audited (at_epoch_genesis input.setup) input.events done.entries ≡ Sound

-- the record of the input's run, and the text that tells it, which takes the setup and the events from the bytes
abbrev pub Told : List ℕ → Input → RecordDone → List ℕ → Type 0
Told bytes input done text = IsRecorded input done × IsDocument (json_of bytes) done text

-- the bytes say a setup and events, whose record the text is
abbrev pub RecordSays : List ℕ → RecordDone → List ℕ → Type 0
RecordSays bytes done text = (input : Input) × (input_of bytes ≡ Ok input) × Told bytes input done text

-- the run of the input is this refusal, which the text tells
abbrev pub IsRefused : Input → Refusal → List ℕ → Type 0
IsRefused input refusal text = (Run input.setup input.events ≡ Err refusal) × (text ≡ refusal_text refusal)

-- the bytes say a setup and events of which this is so
abbrev pub RefusalSays : List ℕ → Refusal → List ℕ → Type 0
RefusalSays bytes refusal text = (input : Input) × (input_of bytes ≡ Ok input) × IsRefused input refusal text
