-- Packets that were sent, and those that were delivered.
use Rattle.std.specs.Prelude.{ℕ, ◌+◌, ◌==◌, ◌&&◌, Bool, true, false, List, [], ◌∷◌, ◌++◌, Option, None, Some, if◌then◌else◌}
use Rattle.std.specs.List.{list_any, position, remove, slice_get}
use Rattle.std.specs.Option.{option_and_then, option_map_or, option_to_list}
use Rattle.simplex_values.specs.declared.plan.Channel.{Channel}
use Rattle.simplex_values.specs.declared.plan.Channel.TheVariants as channels
use Rattle.simplex_transcript.specs.declared.event.Event.{Event}
use Rattle.simplex_transcript.specs.declared.event.Event.TheVariants as events
use Rattle.simplex_transcript.specs.declared.entry.Entry.{Entry}
use Rattle.simplex_transcript.specs.declared.entry.Packet.{Packet}
use Rattle.simplex_transcript.specs.declared.node.Node.{Node}
use Rattle.simplex_transcript.specs.declared.node.Ref.{Ref}
use Rattle.simplex_script.specs.declared.post.Parcel.{Parcel}

abbrev pub is_same_node : Node → Node → Bool
is_same_node a b = a.member == b.member && a.half == b.half

abbrev pub is_same_ref : Ref → Ref → Bool
is_same_ref a b = a.event == b.event && a.place == b.place

abbrev pub is_same_channel : Channel → Channel → Bool
is_same_channel channels.Vote channels.Vote = true
is_same_channel channels.Certificate channels.Certificate = true
is_same_channel channels.Resolver channels.Resolver = true
is_same_channel _ _ = false

-- they are one packet for one node
abbrev pub is_same_parcel : Parcel → Parcel → Bool
is_same_parcel a b = is_same_node a.to b.to && is_same_ref a.packet b.packet

-- the parcel is for one of the nodes
abbrev pub is_for : List Node → Parcel → Bool
is_for nodes parcel = list_any (λ node. is_same_node node parcel.to) nodes

-- the event delivers the parcel
abbrev pub is_taken_by : Event → Parcel → Bool
is_taken_by (events.Deliver node packet) parcel = is_same_node node parcel.to && is_same_ref packet parcel.packet
is_taken_by _ parcel = false

-- the parcel goes this way
abbrev pub goes : Node → Node → Channel → Parcel → Bool
goes from to channel parcel =
    (is_same_node parcel.from from && is_same_node parcel.to to) && is_same_channel parcel.channel channel

-- the first on this way
abbrev pub first_on : Node → Node → Channel → List Parcel → Option Parcel
first_on from to channel [] = None
first_on from to channel (it ∷ parcels) = if goes from to channel it then Some it else first_on from to channel parcels

-- the last on this way, or what was found before
abbrev pub last_on : Node → Node → Channel → Option Parcel → List Parcel → Option Parcel
last_on from to channel found [] = found
last_on from to channel found (it ∷ parcels) =
    last_on from to channel (if goes from to channel it then Some it else found) parcels

-- a packet, for each of the nodes
abbrev pub parcels_to : Ref → Packet → List Node → List Parcel
parcels_to at packet [] = []
parcels_to at packet (node ∷ nodes) =
    record { packet = at; from = packet.from; channel = packet.channel; to = node } ∷ parcels_to at packet nodes

-- those of packets, of which the first stands at this place of the event's entry
abbrev pub parcels_from : (event place : ℕ) → List Packet → List Parcel
parcels_from event place [] = []
parcels_from event place (packet ∷ packets) =
    parcels_to (record { event = event; place = place }) packet packet.to ++ parcels_from event (place + 1) packets

-- without the first that passes
abbrev pub without_first : {A : Type 0} → (A → Bool) → List A → List A
without_first test items = option_map_or (λ at. remove items at) (position test items) items

-- what waits behind an event: no more what it delivers, and what its entry sends
abbrev pub waiting_behind : Event → Entry → List Parcel → List Parcel
waiting_behind event entry waiting =
    without_first (is_taken_by event) waiting ++ parcels_from entry.event 0 entry.packets

-- what was delivered behind an event, where this waited
abbrev pub delivered_behind : Event → List Parcel → List Parcel → List Parcel
delivered_behind event waiting delivered =
    delivered ++ option_to_list (option_and_then (λ at. slice_get waiting at) (position (is_taken_by event) waiting))
