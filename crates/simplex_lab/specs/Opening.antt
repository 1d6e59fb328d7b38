-- What is open for a node: packets, requests, and sources that hold something.
use Rattle.std.specs.Prelude.{ℕ, ◌≡◌, ◌+◌, ◌&&◌, Bool, false, not, List, [], ◌∷◌, ◌++◌, codes, length, flat_map, if◌then◌else◌}
use Rattle.std.specs.List.{list_any}
use Rattle.model_run.specs.Kinds.{is_same_node}
use Rattle.model_run.specs.Life.{is_of}
use Rattle.model_run.specs.Requests.{is_start}
use Rattle.simplex_transcript.specs.declared.entry.Entry.{Entry}
use Rattle.simplex_transcript.specs.declared.entry.Packet.{Packet}
use Rattle.simplex_transcript.specs.declared.event.Event.{Event}
use Rattle.simplex_transcript.specs.declared.event.Event.TheVariants as events
use Rattle.simplex_transcript.specs.declared.event.StepSource.{StepSource}
use Rattle.simplex_transcript.specs.declared.node.Node.{Node}
use Rattle.simplex_transcript.specs.declared.node.Ref.{Ref}
use Rattle.simplex_generator.specs.declared.unanswered.Unanswered.{Unanswered}
use Rattle.simplex_generator.specs.Unanswered.{unanswered_behind}
use Rattle.simplex_generator.specs.Undelivered.{is_same_ref}
use Rattle.simplex_text.specs.Lines.{pieces}
use Rattle.simplex_trace.specs.Deeds.{node_text, ref_text, spaced}
use Rattle.simplex_trace.specs.Items.{ask_text}
use Rattle.simplex_names.specs.Names.{channel_word, source_word}

-- an item behind what stands before it
abbrev pub item : List ℕ → List ℕ
item text = codes ", " ++ text

-- ---- packets

-- whether the event delivers this packet to the node
abbrev pub takes : Node → Ref → Event → Bool
takes node at (events.Deliver to packet) = is_same_node to node && is_same_ref packet at
takes node at _ = false

-- a packet by its channel and its name, where it is for the node and no event delivers it there
abbrev pub packet_item : Node → List Event → Ref → Packet → List ℕ
packet_item node events at packet =
    if list_any (is_same_node node) packet.to && not (list_any (takes node at) events)
    then item (spaced (channel_word packet.channel) (ref_text at))
    else []

-- those of an event, from this place on
abbrev pub packets_from : Node → List Event → (event place : ℕ) → List Packet → List ℕ
packets_from node events event place [] = []
packets_from node events event place (packet ∷ packets) =
    packet_item node events (record { event = event; place = place }) packet
    ++ packets_from node events event (place + 1) packets

-- those of all entries
abbrev pub packet_items : Node → List Event → List Entry → List ℕ
packet_items node events entries = flat_map (λ entry. packets_from node events entry.event 0 entry.packets) entries

-- ---- requests

-- how many requests each node asked since its last start, behind an event
abbrev pub counts_behind : Event → Entry → (Node → ℕ) → Node → ℕ
counts_behind event entry counts node =
    if is_of node event then (if is_start event then 0 else counts node) + length entry.asked else counts node

-- what is open behind the other events, with these counts and these requests before them
abbrev pub open_from : (Node → ℕ) → List Unanswered → List Event → List Entry → List Unanswered
open_from counts before (event ∷ events) (entry ∷ entries) =
    open_from (counts_behind event entry counts)
    (unanswered_behind event entry (λ node. if is_start event then 0 else counts node) before) events entries
open_from counts before events entries = before

-- what is open behind these events
unfoldable pub open_requests : List Event → List Entry → List Unanswered
open_requests events entries = open_from (λ node. 0) [] events entries

-- a request by what it asks and its name, where it is the node's
abbrev pub request_item : Node → Unanswered → List ℕ
request_item node it =
    if is_same_node it.node node then item (spaced (ask_text it.asked) (spaced (codes "as") (ref_text it.request)))
    else []

abbrev pub request_items : Node → List Unanswered → List ℕ
request_items node requests = flat_map (request_item node) requests

-- ---- all

abbrev pub source_items : List StepSource → List ℕ
source_items sources = flat_map (λ source. item (source_word source)) sources

-- the items, or that there are none
abbrev pub or_none : List ℕ → List ℕ
or_none [] = codes ", none"
or_none (byte ∷ bytes) = byte ∷ bytes

abbrev pub line : List ℕ → List ℕ → List ℕ → List ℕ
line name node items = pieces (name ∷ codes " " ∷ node ∷ or_none items ∷ codes "\n" ∷ [])

abbrev pub lines_on : Node → (packets requests sources : List ℕ) → List ℕ
lines_on node packets requests sources =
    (line (codes "packets for") (node_text node) packets ++ line (codes "requests of") (node_text node) requests)
    ++ line (codes "sources of") (node_text node) sources

-- the text tells what these events and entries leave open for the node, and some sources: of these nothing is said
abbrev pub TellsOpen : List Event → List Entry → Node → List ℕ → Type 0
TellsOpen events entries node text =
    (held : List StepSource)
    × (text ≡ lines_on node (packet_items node events entries) (request_items node (open_requests events entries))
    (source_items held))
