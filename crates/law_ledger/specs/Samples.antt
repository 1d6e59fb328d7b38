-- Small values to try answers on.
use Rattle.std.specs.Prelude.{ℕ, List, [], ◌∷◌, Some}
use Rattle.simplex_values.specs.declared.answer.Answer.{Answer}
use Rattle.model_rules.specs.declared.request.Asked.TheVariants as asks
use Rattle.simplex_transcript.specs.declared.event.Event.{Event}
use Rattle.simplex_transcript.specs.declared.event.Event.TheVariants as events
use Rattle.simplex_transcript.specs.declared.entry.Entry.{Entry}
use Rattle.model_run.specs.Entries.{node_of, blank_entry}

-- an entry that asks to certify this payload
abbrev pub asking : List ℕ → Entry
asking payload = record (blank_entry 1 (Some (node_of 0))) { asked = asks.Certify (record { epoch = 0; view = 1 }) payload ∷ [] }

-- an answer to the first request of event 1
abbrev pub answering : ℕ → Answer → Event
answering member answer = events.Answer (node_of member) (record { event = 1; place = 0 }) answer
