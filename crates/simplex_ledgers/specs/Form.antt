-- The JSON form of an input of the ledger, and the places of what is not of it.
use Rattle.std.specs.Prelude.{ℕ, List, codes, Option, Some, None, Result, Ok, Err, if◌then◌else◌}
use Rattle.serde_json.specs.Data.{Data, Items}
use Rattle.serde_json.specs.Find.{get, as_array}
use Rattle.simplex_transcript.specs.declared.setup.Setup.{Setup}
use Rattle.simplex_transcript.specs.declared.event.Event.{Event}
use Rattle.simplex_form.specs.Form.{◌>>=◌, has_members, number_of, list_from, list_of}
use Rattle.simplex_form.specs.Setup.{setup_of}
use Rattle.simplex_form.specs.Events.{event_of, hex_of}
use Rattle.simplex_form.specs.Input.{json_of}
use Rattle.simplex_ledgers.specs.declared.form.LedgerInput.{LedgerInput}
use Rattle.simplex_ledgers.specs.declared.form.Parts.{Parts}

abbrev pub setup_at : Data → Option Setup
setup_at d = get (codes "setup") d >>= setup_of

-- numbers from 0, below 2 ^ 64
abbrev pub accounts_at : Data → Option (List ℕ)
accounts_at d = get (codes "accounts") d >>= list_of number_of

-- HEX each
abbrev pub blocks_at : Data → Option (List (List ℕ))
blocks_at d = get (codes "blocks") d >>= list_of hex_of

-- all but the events, if each is of the form
abbrev pub parts_of : Data → Option Parts
parts_of d = do
  setup ← setup_at d
  accounts ← accounts_at d
  blocks ← blocks_at d
  Some (record { setup = setup; accounts = accounts; blocks = blocks })

-- the parts with the events, or the place of the first event that is not of the form
abbrev pub with_events : Parts → Result (List Event) ℕ → Result LedgerInput ℕ
with_events parts (Ok events) = Ok (record { setup = parts.setup; events = events; accounts = parts.accounts; blocks = parts.blocks })
with_events parts (Err place) = Err place

-- place 1 stands for the top object and all parts but the events, and the first event has place 2
abbrev pub both_of : Option Parts → Option Items → Result LedgerInput ℕ
both_of None items = Err 1
both_of (Some parts) None = Err 1
both_of (Some parts) (Some items) = with_events parts (list_from event_of 2 items)

-- {"setup": SETUP, "events": [..], "accounts": [..], "blocks": [HEX, ..]}
abbrev pub ledger_form_of : Data → Result LedgerInput ℕ
ledger_form_of d = if has_members 4 d then both_of (parts_of d) (get (codes "events") d >>= as_array) else Err 1

-- place 0 stands for a text that is no JSON
abbrev pub document_of : Option Data → Result LedgerInput ℕ
document_of None = Err 0
document_of (Some d) = ledger_form_of d

-- what the bytes say, or the place of the first part that is not of the form
abbrev pub ledger_input_of : List ℕ → Result LedgerInput ℕ
ledger_input_of bytes = document_of (json_of bytes)
