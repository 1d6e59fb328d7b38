-- The JSON form of a record with the input of its run, and the places of what is not of it.
use Rattle.std.specs.Prelude.{ℕ, ◌+◌, List, length, codes, Option, Some, None, Result, Ok, Err, if◌then◌else◌}
use Rattle.serde_json.specs.Data.{Data, Items, object, no_members, member}
use Rattle.serde_json.specs.Find.{get, as_array}
use Rattle.simplex_transcript.specs.declared.setup.Setup.{Setup}
use Rattle.simplex_transcript.specs.declared.event.Event.{Event}
use Rattle.simplex_form.specs.Form.{◌>>=◌, has_members, list_from}
use Rattle.simplex_form.specs.Input.{json_of}
use Rattle.simplex_form.specs.Setup.{setup_of}
use Rattle.simplex_form.specs.Events.{event_of}
use Rattle.model_audit.specs.declared.record.AuditEntry.{AuditEntry}
use Rattle.simplex_audit_form.specs.declared.document.Document.{Document}
use Rattle.simplex_audit_form.specs.Pieces.{list_data}
use Rattle.simplex_audit_form.specs.Entries.{entry_of, entry_data}

-- ---- what is read

abbrev pub with_entries : Setup → List Event → Result (List AuditEntry) ℕ → Result Document ℕ
with_entries setup events (Ok entries) = Ok (record { setup = setup; events = events; entries = entries })
with_entries setup events (Err place) = Err place

-- the entries are counted behind the events
abbrev pub with_events : Setup → Items → Result (List Event) ℕ → Result Document ℕ
with_events setup entries (Ok events) = with_entries setup events (list_from entry_of (2 + length events) entries)
with_events setup entries (Err place) = Err place

-- place 1 stands for the top object and its setup, and the first event has place 2
abbrev pub all_of : Option Setup → Option Items → Option Items → Result Document ℕ
all_of (Some setup) (Some events) (Some entries) = with_events setup entries (list_from event_of 2 events)
all_of (Some setup) (Some events) None = Err 1
all_of (Some setup) None entries = Err 1
all_of None events entries = Err 1

-- {"entries": [..], "events": [..], "setup": SETUP}
abbrev pub form_of : Data → Result Document ℕ
form_of d =
    if has_members 3 d
    then all_of (get (codes "setup") d >>= setup_of) (get (codes "events") d >>= as_array)
    (get (codes "entries") d >>= as_array)
    else Err 1

-- place 0 stands for a text that is no JSON
abbrev pub form_or : Option Data → Result Document ℕ
form_or None = Err 0
form_or (Some d) = form_of d

-- what the bytes say, or the place of the first part that is not of the form
abbrev pub document_of : List ℕ → Result Document ℕ
document_of bytes = form_or (json_of bytes)

-- ---- what is written: the setup and the events as they were read

abbrev pub document_data : Data → Data → List AuditEntry → Data
document_data setup events entries =
    object (member (codes "entries") (list_data entry_data entries)
    (member (codes "events") events (member (codes "setup") setup no_members)))
