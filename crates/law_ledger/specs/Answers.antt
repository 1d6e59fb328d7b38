-- Answers whose payload has no sound block.
use Rattle.std.specs.Prelude.{ℕ, ◌+◌, ◌-◌, ◌==◌, ◌&&◌, Bool, false, not, List, [], ◌∷◌, Option, Some, None, if◌then◌else◌}
use Rattle.std.specs.List.{slice_get}
use Rattle.std.specs.Option.{option_and_then, option_map_or}
use Rattle.model_rules.specs.declared.request.Asked.{Asked}
use Rattle.simplex_transcript.specs.declared.event.Event.{Event}
use Rattle.simplex_transcript.specs.declared.event.Event.TheVariants as events
use Rattle.simplex_transcript.specs.declared.entry.Entry.{Entry}
use Rattle.simplex_transcript.specs.declared.node.Ref.{Ref}
use Rattle.simplex_transcript.specs.declared.setup.Setup.{Setup}
use Rattle.model_run.specs.Kinds.{is_honest}
use Rattle.law_run.specs.Answers.{vouched_in}

-- the entry of this number, from 1
abbrev pub entry_at : List Entry → ℕ → Option Entry
entry_at entries number = if number == 0 then None else slice_get entries (number - 1)

-- the request that stands at this place of a transcript
unfoldable pub request_at : List Entry → Ref → Option Asked
request_at entries at = option_and_then (λ entry. slice_get entry.asked at.place) (entry_at entries at.event)

-- there is a payload, and it does not pass the test
abbrev pub fails_on : (List ℕ → Bool) → Option (List ℕ) → Bool
fails_on test payload = option_map_or (λ p. not (test p)) payload false

-- the event answers an honest node for a payload that does not pass
abbrev pub is_bad_answer : (List ℕ → Bool) → Setup → List Entry → Event → Bool
is_bad_answer test setup entries (events.Answer node at answer) = is_honest setup node.member && fails_on test (vouched_in (request_at entries at) answer)
is_bad_answer test setup entries _ = false

-- the number of the first such event, from this number on
unfoldable pub bad_answer_from : (List ℕ → Bool) → Setup → List Entry → ℕ → List Event → Option ℕ
bad_answer_from test setup entries number [] = None
bad_answer_from test setup entries number (event ∷ later) =
    if is_bad_answer test setup entries event then Some number else bad_answer_from test setup entries (number + 1) later

abbrev pub bad_answer : (List ℕ → Bool) → Setup → List Entry → List Event → Option ℕ
bad_answer test setup entries events = bad_answer_from test setup entries 1 events
