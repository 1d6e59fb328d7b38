-- The JSON form of an input, and the places of what is not of it.
use Rattle.std.specs.Prelude.{◌≡◌, ℕ, List, codes, Option, Some, None, Result, Ok, Err, if◌then◌else◌}
use Rattle.std.specs.Str.{is_utf8}
use Rattle.serde_json.specs.Data.{Data, Items}
use Rattle.serde_json.specs.Read.{read}
use Rattle.serde_json.specs.Find.{get, as_array}
use Rattle.simplex_transcript.specs.declared.setup.Setup.{Setup}
use Rattle.simplex_transcript.specs.declared.event.Event.{Event}
use Rattle.simplex_form.specs.declared.fault.InputFault.{InputFault}
use Rattle.simplex_form.specs.declared.fault.InputFault.TheVariants as faults
use Rattle.simplex_form.specs.declared.input.Input.{Input}
use Rattle.simplex_form.specs.Form.{◌>>=◌, has_members, list_from}
use Rattle.simplex_form.specs.Setup.{setup_of}
use Rattle.simplex_form.specs.Events.{event_of}

-- the setup with its events, or the place of the first event that is not of the form
abbrev pub with_events : Setup → Result (List Event) ℕ → Result Input ℕ
with_events setup (Ok events) = Ok (record { setup = setup; events = events })
with_events setup (Err place) = Err place

-- place 1 stands for the top object and its setup, and the first event has place 2
abbrev pub both_of : Option Setup → Option Items → Result Input ℕ
both_of None items = Err 1
both_of (Some setup) None = Err 1
both_of (Some setup) (Some items) = with_events setup (list_from event_of 2 items)

-- {"setup": SETUP, "events": [..]}
abbrev pub form_of : Data → Result Input ℕ
form_of d =
    if has_members 2 d then both_of (get (codes "setup") d >>= setup_of) (get (codes "events") d >>= as_array)
    else Err 1

-- place 0 stands for a text that is no JSON
abbrev pub document_of : Option Data → Result Input ℕ
document_of None = Err 0
document_of (Some d) = form_of d

-- the JSON value of the bytes, if they are one
abbrev pub json_of : List ℕ → Option Data
json_of bytes = if is_utf8 bytes then read bytes else None

-- what the bytes say, or the place of the first part that is not of the form
abbrev pub input_of : List ℕ → Result Input ℕ
input_of bytes = document_of (json_of bytes)

-- what was answered is this, unless memory ran out
abbrev pub Says : {A : Type 0} → Result A InputFault → Result A ℕ → Type 0
Says (Ok x) answer = answer ≡ Ok x
Says (Err (faults.At place)) answer = answer ≡ Err place
Says (Err faults.Memory) answer = Unit {0}
