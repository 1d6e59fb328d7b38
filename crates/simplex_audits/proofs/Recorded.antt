-- A whole run, as it was made, its record, and the record's text.
use Rattle.std.proofs.Common.{◌≡◌, ◌≤◌, ℕ, Bool, true, false, List, [], Option, Some, None, Ok, Err, refl, codes, subst, sym, if◌then◌else◌}
use Rattle.json.specs.Lex.{tokens}
use Rattle.json.specs.Print.{print}
use Rattle.serde_json.specs.Data.{Data, depth}
use Rattle.serde_json.specs.Find.{get, as_array}
use Rattle.serde_json.specs.View.{view}
use Rattle.serde_json.specs.Read.{read, max_depth}
use Rattle.serde_json.specs.Written.{has_float, compact_text, IsInOrder}
use Rattle.simplex_transcript.specs.declared.entry.Entry.{Entry}
use Rattle.simplex_transcript.specs.declared.event.Event.{Event}
use Rattle.simplex_transcript.specs.declared.setup.Setup.{Setup}
use Rattle.simplex_form.specs.declared.input.Input.{Input}
use Rattle.simplex_form.specs.Form.{◌>>=◌, has_members}
use Rattle.simplex_form.specs.Input.{both_of}
use Rattle.simplex_form.specs.Setup.{setup_of}
use Rattle.model_run.specs.Setting.{Setting, at_epoch_genesis}
use Rattle.model_run.specs.Run.{Run, RunFrom, run}
use Rattle.law_run.specs.Complete.{IsOneEach}
use Rattle.law_run.specs.Limits.{KeepsTheLimit}
use Rattle.law_run.specs.OneChain.{ReportOneChain}
use Rattle.law_run.specs.Safe.{RunsSafely}
use Rattle.law_run.specs.Sayings.{Each}
use Rattle.simplex_run.specs.declared.run.Transcript.{Transcript}
use Rattle.simplex_network.specs.Stands.{MadeBy}
use Rattle.simplex_run.specs.WholeRuns.{WholeRunFrom}
use Rattle.model_audit.specs.declared.record.AuditEntry.{AuditEntry}
use Rattle.model_audit.specs.declared.record.Verdict.TheVariants.{Sound}
use Rattle.model_audit.specs.Audit.{audited}
use Rattle.model_audit.specs.Record.{record_of}
use Rattle.simplex_audit_form.specs.Document.{document_data}
use Rattle.simplex_audits.specs.declared.recording.Parts.{Parts}
use Rattle.simplex_audits.specs.declared.recording.RecordDone.{RecordDone}
use Rattle.simplex_audits.specs.Parts.{PartsIn}
use Rattle.simplex_audits.specs.Says.{IsWritten, IsDocument, IsRecorded}

-- a whole run, as it was made
pub made_whole : (setup : Setup) (events : List Event) (made : Transcript)
    → Run setup events ≡ Ok made.entries → IsOneEach made.entries events → MadeBy made.network (at_epoch_genesis setup) (run (at_epoch_genesis setup) [] events)
    → RunsSafely (at_epoch_genesis setup) events → ReportOneChain made.entries → Each (KeepsTheLimit setup) made.entries
    → WholeRunFrom (at_epoch_genesis setup) events made
made_whole setup events made entries each network safe one_chain limit =
    record { entries = entries; each = each; network = network; safe = safe; one_chain = one_chain; limit = limit }

-- ---- the setup and the events

-- a value without a setup is not of the form
pub no_setup : (json : Option Data) (value : Data) → json ≡ Some value → get (codes "setup") value ≡ None → PartsIn json (Err 1)
no_setup json value is none = subst (λ (o : Option Data). PartsIn o (Err 1)) (sym is) (rw none (at (has_members 2 value)))
  where
    at : (b : Bool) → (if b then both_of None (get (codes "events") value >>= as_array) else Err 1) ≡ Err 1
    at true = refl
    at false = refl

-- nor is one without events
pub no_events : (json : Option Data) (value : Data) → json ≡ Some value → get (codes "events") value ≡ None → PartsIn json (Err 1)
no_events json value is none = subst (λ (o : Option Data). PartsIn o (Err 1)) (sym is) (rw none (at (has_members 2 value) (get (codes "setup") value >>= setup_of)))
  where
    at : (b : Bool) (o : Option Setup) → (if b then both_of o None else Err 1) ≡ Err 1
    at true (Some setup) = refl
    at true None = refl
    at false o = refl

pub parts_are : (json : Option Data) (value : Data) (parts : Parts) → json ≡ Some value → get (codes "setup") value ≡ Some (view parts.setup)
    → get (codes "events") value ≡ Some (view parts.events) → PartsIn json (Ok parts)
parts_are json value parts is setup events = (value, is, setup, events)

-- ---- the record and its text

pub is_written : (value : Data) (text : List ℕ) → text ≡ print (tokens text) → (has_float value ≡ false → text ≡ compact_text value) → IsInOrder text value
    → (depth value ≤ max_depth → read text ≡ Some value) → IsWritten value text
is_written value text compact spelled order reads_back = record { compact = compact; spelled = spelled; order = order; reads_back = reads_back }

-- what is found of the record of each transcript
abbrev pub IsFoundSound : List Entry → List AuditEntry → Type 0
IsFoundSound entries told = (setting : Setting) (events : List Event) → RunFrom setting events ≡ Ok entries → audited setting events told ≡ Sound

pub is_recorded : (input : Input) (transcript : Transcript) (told : List AuditEntry) → WholeRunFrom (at_epoch_genesis input.setup) input.events transcript
    → told ≡ record_of transcript.entries → IsFoundSound transcript.entries told → IsRecorded input (record { transcript = transcript; entries = told })
is_recorded input transcript told whole is sound =
    record { whole = whole; record_is = is; sound = sound (at_epoch_genesis input.setup) input.events whole.entries }

pub is_told : (json : Option Data) (parts : Parts) (done : RecordDone) (text : List ℕ) → PartsIn json (Ok parts)
    → IsWritten (document_data (view parts.setup) (view parts.events) done.entries) text → IsDocument json done text
is_told json parts done text p written =
    record { value = p.0; setup = view parts.setup; events = view parts.events; was_read = p.1; has_setup = p.2; has_events = p.3; written = written }
