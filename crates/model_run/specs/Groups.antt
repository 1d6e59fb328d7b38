-- A run in groups: the events of a group are each stepped on the entries before the group.
use Rattle.std.specs.Prelude.{◌≡◌, ℕ, ◌+◌, ◌&&◌, Bool, true, false, not, List, [], ◌∷◌, length, map, drop, All, Option, Some, None, Result, Ok, Err, if◌then◌else◌}
use Rattle.std.specs.List.{list_any}
use Rattle.std.specs.Option.{is_some}
use Rattle.simplex_transcript.specs.declared.event.Event.{Event}
use Rattle.simplex_transcript.specs.declared.event.Event.TheVariants as events
use Rattle.simplex_transcript.specs.declared.node.Node.{Node}
use Rattle.simplex_transcript.specs.declared.setup.Setup.{Setup}
use Rattle.simplex_transcript.specs.declared.refusal.RunError.{RunError}
use Rattle.simplex_transcript.specs.declared.refusal.Refusal.{Refusal}
use Rattle.model_run.specs.Setting.{Setting}
use Rattle.model_run.specs.Kinds.{is_honest, is_node, is_same_node}
use Rattle.model_run.specs.Life.{Noted, is_of}
use Rattle.model_run.specs.Requests.{packet_at}
use Rattle.model_run.specs.Entries.{entry_of}
use Rattle.model_run.specs.Run.{unless_refused}

-- ---- what is stepped at once

-- the node that the event steps; none where it is an event of another kind
abbrev pub node_stepped : Event → Option Node
node_stepped (events.Deliver node at) = Some node
node_stepped (events.Step node source stop) = Some node
node_stepped (events.Answer node at answer) = Some node
node_stepped _ = None

-- what a delivery delivers stands in these entries
abbrev pub has_packet : List Noted → Event → Bool
has_packet before (events.Deliver node at) = is_some (packet_at before at)
has_packet before _ = true

abbrev pub is_named : List Node → Node → Bool
is_named named node = list_any (λ other. is_same_node other node) named

-- Whether the event joins a group behind these entries, in which these nodes are named so far. Only nodes of honest members
-- are stepped at once: what the others send is looked at for forgeries of all that was sent before
abbrev pub joins_as : Setup → List Noted → List Node → Event → Option Node → Bool
joins_as setup before named event None = false
joins_as setup before named event (Some node) =
    is_node setup node && is_honest setup node.member && not (is_named named node) && has_packet before event

abbrev pub joins : Setup → List Noted → List Node → Event → Bool
joins setup before named event = joins_as setup before named event (node_stepped event)

abbrev pub with_named : List Node → Option Node → List Node
with_named named None = named
with_named named (Some node) = node ∷ named

-- as many of the first events as may be stepped at once
unfoldable pub joined : Setup → List Noted → List Node → List Event → List Event
joined setup before named [] = []
joined setup before named (event ∷ events) =
    if joins setup before named event
    then event ∷ joined setup before (with_named named (node_stepped event)) events else []

-- each of the events joins behind those in front of it
unfoldable pub AllJoin : Setup → List Noted → List Node → List Event → Type 0
AllJoin setup before named [] = Unit {0}
AllJoin setup before named (event ∷ events) =
    (joins setup before named event ≡ true) × AllJoin setup before (with_named named (node_stepped event)) events

-- an event that may not join any is a group of its own
abbrev pub at_least : Event → List Event → List Event
at_least event [] = event ∷ []
at_least event group = group

-- the first group of these events, behind these entries
abbrev pub group_of : Setup → List Noted → Event → List Event → List Event
group_of setup before event events = at_least event (joined setup before [] (event ∷ events))

-- ---- what a group makes

abbrev pub numbered : ℕ → Noted → Noted
numbered number noted = record { event = noted.event; entry = record noted.entry { event = number }; did = noted.did }

-- the entry, with this number
abbrev pub put_at : ℕ → Result Noted RunError → Result Noted RunError
put_at number (Ok noted) = Ok (numbered number noted)
put_at number (Err error) = Err error

-- what the events of a group make, each on the entries before the group
abbrev pub apart : Setting → List Noted → List Event → List (Result Noted RunError)
apart setting before group = map (entry_of setting before) group

-- In order of events, each gets its number. The first that is refused ends the run
unfoldable pub in_order : List Noted → List (Result Noted RunError) → Result (List Noted) Refusal
in_order before [] = Ok before
in_order before (made ∷ rest) =
    unless_refused (length before + 1) (put_at (length before + 1) made) (λ noted. in_order (noted ∷ before) rest)

-- the run goes on behind what was made, unless it was refused
abbrev pub and_on : Result (List Noted) Refusal → (List Noted → Result (List Noted) Refusal)
    → Result (List Noted) Refusal
and_on (Ok before) next = next before
and_on (Err refusal) next = Err refusal

-- as many groups as the first list has events, at most
unfoldable pub in_groups : List Event → Setting → List Noted → List Event → Result (List Noted) Refusal
in_groups limit setting before [] = Ok before
in_groups [] setting before (event ∷ events) = Ok before
in_groups (one ∷ limit) setting before (event ∷ events) =
    let group = group_of setting.setup before event events in
    and_on (in_order before (apart setting before group))
    (λ made. in_groups limit setting made (drop (length group) (event ∷ events)))

-- a group takes one event at least
unfoldable pub run_in_groups : Setting → List Noted → List Event → Result (List Noted) Refusal
run_in_groups setting before events = in_groups events setting before events

-- ---- why it may be

-- the entry is one of a step of another node
pub record IsBeside (node : Node) (noted : Noted) : Type 0 where
  pub other : is_of node noted.event ≡ false
  pub stepped : is_some (node_stepped noted.event) ≡ true

-- the event steps a node of an honest member, and all these entries are of steps of other nodes
pub record AreApart (setup : Setup) (event : Event) (made : List Noted) : Type 0 where
  pub node : Node
  pub steps : node_stepped event ≡ Some node
  pub honest : is_honest setup node.member ≡ true
  pub beside : All (IsBeside node) made

-- the packet of a delivery stands in these entries
abbrev pub StandsBefore : List Noted → Event → Type 0
StandsBefore before event = has_packet before event ≡ true
