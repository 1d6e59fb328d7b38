-- The requests that are open and were not answered.
use Rattle.std.specs.Prelude.{◌≡◌, ℕ, ◌+◌, ◌==◌, ◌&&◌, Bool, false, not, List, [], ◌∷◌, ◌++◌, length, filter, Option, Some, None, if◌then◌else◌}
use Rattle.std.specs.List.{list_any}
use Rattle.std.specs.Option.{option_map_or}
use Rattle.model_rules.specs.declared.request.Asked.{Asked}
use Rattle.simplex_transcript.specs.declared.event.Event.{Event}
use Rattle.simplex_transcript.specs.declared.event.Event.TheVariants as events
use Rattle.simplex_transcript.specs.declared.entry.Entry.{Entry}
use Rattle.simplex_transcript.specs.declared.node.Node.{Node}
use Rattle.model_run.specs.Kinds.{is_same_node}
use Rattle.model_run.specs.Life.{Noted, is_of}
use Rattle.model_run.specs.Requests.{is_start, first_number}
use Rattle.simplex_generator.specs.declared.unanswered.Count.{Count}
use Rattle.simplex_generator.specs.declared.unanswered.Unanswered.{Unanswered}
use Rattle.simplex_generator.specs.Undelivered.{is_same_ref}

-- what an entry of the node asks: the first stands at this place, and has this number since the node's last start
abbrev pub asked_from : Node → (event place number : ℕ) → List Asked → List Unanswered
asked_from node event place number [] = []
asked_from node event place number (asked ∷ more) =
    record { node = node; request = record { event = event; place = place }; number = number; asked = asked }
    ∷ asked_from node event (place + 1) (number + 1) more

-- the node that an event names, where that is one that may ask
abbrev pub node_in : Event → Option Node
node_in (events.Start node floor stop) = Some node
node_in (events.Deliver node packet) = Some node
node_in (events.Step node source stop) = Some node
node_in (events.Answer node request answer) = Some node
node_in (events.Crash node) = Some node
node_in _ = None

abbrev pub asked_in : Event → Entry → (Node → ℕ) → List Unanswered
asked_in event entry first =
    option_map_or (λ node. asked_from node entry.event 0 (first node) entry.asked) (node_in event) []

-- whether the event answers the request, or ends it with its node's engine
abbrev pub is_ended_by : Event → Unanswered → Bool
is_ended_by (events.Answer node request answer) it = is_same_ref request it.request
is_ended_by (events.Start node floor stop) it = is_same_node node it.node
is_ended_by (events.Crash node) it = is_same_node node it.node
is_ended_by _ it = false

-- whether the event's entry drops it
abbrev pub is_dropped_in : Event → Entry → Unanswered → Bool
is_dropped_in event entry it = is_of it.node event && list_any (λ number. number == it.number) entry.dropped

-- what is open behind an event, whose entry's first request has this number at the event's node
unfoldable pub unanswered_behind : Event → Entry → (Node → ℕ) → List Unanswered → List Unanswered
unanswered_behind event entry first before =
    filter (λ it. not (is_dropped_in event entry it))
    (filter (λ it. not (is_ended_by event it)) before ++ asked_in event entry first)

-- what is open and was not answered, by event, then place
unfoldable pub unanswered : List Noted → List Unanswered
unanswered [] = []
unanswered (noted ∷ before) = unanswered_behind noted.event noted.entry (first_number noted before) (unanswered before)

-- ---- what is counted while a list is made

-- how many requests the node asked since its last start, where each node that asked has one count
unfoldable pub count_in : List Count → Node → ℕ
count_in [] node = 0
count_in (count ∷ counts) node = if is_same_node count.node node then count.asked else count_in counts node

-- the number of the first request that the event's entry asks
abbrev pub first_in : Event → List Count → Node → ℕ
first_in event counts node = if is_start event then 0 else count_in counts node

-- the count behind the event
unfoldable pub count_behind : Event → Entry → List Count → Node → ℕ
count_behind event entry counts node =
    if is_of node event then first_in event counts node + length entry.asked else count_in counts node

-- each node's count is that behind the event
abbrev pub Counted : List Count → List Count → Event → Entry → Type 0
Counted old new event entry = (node : Node) → count_in new node ≡ count_behind event entry old node
