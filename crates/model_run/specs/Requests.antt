-- How requests and packets are named: by an event, and a place in its entry.
use Rattle.std.specs.Prelude.{ℕ, ◌+◌, ◌-◌, ◌==◌, ◌&&◌, nat_lt, nat_le, Bool, true, false, List, [], ◌∷◌, length, Option, Some, None, if◌then◌else◌}
use Rattle.std.specs.List.{slice_get, list_any}
use Rattle.std.specs.Option.{option_and_then}
use Rattle.simplex_transcript.specs.declared.event.Event.{Event}
use Rattle.simplex_transcript.specs.declared.event.Event.TheVariants as events
use Rattle.simplex_transcript.specs.declared.entry.Packet.{Packet}
use Rattle.simplex_transcript.specs.declared.node.Node.{Node}
use Rattle.simplex_transcript.specs.declared.node.Ref.{Ref}
use Rattle.model_run.specs.Members.{is_same_node}
use Rattle.model_run.specs.Life.{Noted, is_of}

abbrev pub is_start : Event → Bool
is_start (events.Start node floor stop) = true
is_start _ = false

-- how many requests the node asked since its last start
unfoldable pub asked_since : List Noted → Node → ℕ
asked_since [] node = 0
asked_since (noted ∷ before) node =
    if is_of node noted.event
    then (if is_start noted.event then length noted.entry.asked else length noted.entry.asked + asked_since before node)
    else asked_since before node

-- how many requests the node had asked before this entry, since its last start
abbrev pub first_number : Noted → List Noted → Node → ℕ
first_number noted before node = if is_start noted.event then 0 else asked_since before node

-- the number of the request that stands at this place, where the node asked it since its last start
unfoldable pub request_number : List Noted → Node → Ref → Option ℕ
request_number [] node at = None
request_number (noted ∷ before) node at =
    if length before + 1 == at.event
    then (if is_of node noted.event && nat_lt at.place (length noted.entry.asked)
    then Some (first_number noted before node + at.place) else None)
    else if is_of node noted.event && is_start noted.event then None
    else request_number before node at

-- where the node's request of this number stands
unfoldable pub request_place : List Noted → Node → ℕ → Option Ref
request_place [] node number = None
request_place (noted ∷ before) node number =
    if is_of node noted.event && nat_le (first_number noted before node) number
    && nat_lt number (first_number noted before node + length noted.entry.asked)
    then Some (record { event = length before + 1; place = number - first_number noted before node })
    else if is_of node noted.event && is_start noted.event then None
    else request_place before node number

-- the packet that stands at this place
unfoldable pub packet_at : List Noted → Ref → Option Packet
packet_at [] at = None
packet_at (noted ∷ before) at =
    if length before + 1 == at.event then slice_get noted.entry.packets at.place else packet_at before at

abbrev pub if_for : Node → Packet → Option Packet
if_for node packet = if list_any (is_same_node node) packet.to then Some packet else None

-- the same, where it may be delivered to the node
unfoldable pub packet_for : List Noted → Node → Ref → Option Packet
packet_for before node at = option_and_then (if_for node) (packet_at before at)
