-- What a node dropped, and which answers it was given, since its last start.
use Rattle.std.specs.Prelude.{ℕ, List, [], ◌∷◌, ◌++◌, if◌then◌else◌}
use Rattle.std.specs.Option.{option_map_or}
use Rattle.simplex_values.specs.declared.answer.Answer.{Answer}
use Rattle.simplex_transcript.specs.declared.event.Event.{Event}
use Rattle.simplex_transcript.specs.declared.event.Event.TheVariants as events
use Rattle.simplex_transcript.specs.declared.node.Node.{Node}
use Rattle.model_run.specs.Life.{Noted, is_of}
use Rattle.model_run.specs.Requests.{is_start, request_number}

-- the numbers of the requests that it dropped
unfoldable pub dropped_of : List Noted → Node → List ℕ
dropped_of [] node = []
dropped_of (noted ∷ before) node =
    if is_of node noted.event
    then (if is_start noted.event then noted.entry.dropped else dropped_of before node ++ noted.entry.dropped)
    else dropped_of before node

-- the answer of an event, with the number of its request
abbrev pub answer_in : List Noted → Node → Event → List (ℕ × Answer)
answer_in before node (events.Answer at ref answer) =
    option_map_or (λ number. (number, answer) ∷ []) (request_number before node ref) []
answer_in before node _ = []

-- the answers, in the order in which they came
unfoldable pub answers_of : List Noted → Node → List (ℕ × Answer)
answers_of [] node = []
answers_of (noted ∷ before) node =
    if is_of node noted.event
    then (if is_start noted.event then [] else answers_of before node ++ answer_in before node noted.event)
    else answers_of before node
