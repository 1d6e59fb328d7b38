-- The packets that were not delivered.
use Rattle.std.specs.Prelude.{ℕ, ◌+◌, ◌==◌, ◌&&◌, Bool, true, false, List, [], ◌∷◌, ◌++◌, map, filter}
use Rattle.std.specs.List.{list_any, position, remove}
use Rattle.std.specs.Option.{option_map_or}
use Rattle.simplex_transcript.specs.declared.event.Event.{Event}
use Rattle.simplex_transcript.specs.declared.event.Event.TheVariants as events
use Rattle.simplex_transcript.specs.declared.entry.Entry.{Entry}
use Rattle.simplex_transcript.specs.declared.entry.Packet.{Packet}
use Rattle.simplex_transcript.specs.declared.node.Node.{Node}
use Rattle.simplex_transcript.specs.declared.node.Ref.{Ref}
use Rattle.model_run.specs.Kinds.{is_same_node}
use Rattle.model_run.specs.Life.{Noted}
use Rattle.simplex_generator.specs.declared.undelivered.Parcel.{Parcel}
use Rattle.simplex_generator.specs.Setup.{all_nodes}

abbrev pub is_same_ref : Ref → Ref → Bool
is_same_ref a b = a.event == b.event && a.place == b.place

-- a packet for each of the nodes that it may be delivered to
abbrev pub parcels_of : Ref → (to nodes : List Node) → List Parcel
parcels_of at to nodes =
    map (λ node. record { packet = at; node = node }) (filter (λ node. list_any (is_same_node node) to) nodes)

-- the same for all nodes, in their order
abbrev pub parcels_at : Ref → List Node → List Parcel
parcels_at at to = parcels_of at to all_nodes

-- those of packets, of which the first stands at this place of the event's entry
abbrev pub parcels_from : (event place : ℕ) → List Packet → List Parcel
parcels_from event place [] = []
parcels_from event place (packet ∷ packets) =
    parcels_at (record { event = event; place = place }) packet.to ++ parcels_from event (place + 1) packets

-- without the first that passes
abbrev pub without_first : {A : Type 0} → (A → Bool) → List A → List A
without_first test items = option_map_or (λ at. remove items at) (position test items) items

-- whether the event delivers something
abbrev pub delivers : Event → Bool
delivers (events.Deliver node packet) = true
delivers _ = false

-- whether the event delivers it
abbrev pub is_delivered_by : Event → Parcel → Bool
is_delivered_by (events.Deliver node packet) parcel = is_same_node node parcel.node && is_same_ref packet parcel.packet
is_delivered_by _ parcel = false

-- what is undelivered behind an event: no more what it delivers, and what its entry sends
unfoldable pub undelivered_behind : Event → Entry → List Parcel → List Parcel
undelivered_behind event entry before =
    without_first (is_delivered_by event) before ++ parcels_from entry.event 0 entry.packets

-- what was not delivered, by packet, then node. A delivery stands for one packet at one node, also where it is made again
unfoldable pub undelivered : List Noted → List Parcel
undelivered [] = []
undelivered (noted ∷ before) = undelivered_behind noted.event noted.entry (undelivered before)
