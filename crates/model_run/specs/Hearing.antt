-- What a faulty node without an engine heard, read from the entries so far, the newest first.
use Rattle.std.specs.Prelude.{List, [], ◌∷◌, Option, None, if◌then◌else◌}
use Rattle.std.specs.List.{cons_option}
use Rattle.std.specs.Option.{option_map}
use Rattle.simplex_transcript.specs.declared.event.Event.{Event}
use Rattle.simplex_transcript.specs.declared.event.Event.TheVariants as events
use Rattle.simplex_transcript.specs.declared.entry.Packet.{Packet}
use Rattle.simplex_transcript.specs.declared.node.Node.{Node}
use Rattle.model_run.specs.Kinds.{is_same_node}
use Rattle.model_run.specs.Life.{Noted}
use Rattle.model_run.specs.Requests.{packet_at}
use Rattle.model_run.specs.Mocks.{Heard}

abbrev pub heard_of : Packet → Heard
heard_of packet = record { channel = packet.channel; bytes = packet.bytes }

-- what the node heard by this event, behind those entries
abbrev pub heard_at : List Noted → Node → Event → Option Heard
heard_at before node (events.Deliver at packet) =
    if is_same_node at node then option_map heard_of (packet_at before packet) else None
heard_at before node _ = None

unfoldable pub heard_in : List Noted → Node → List Heard
heard_in [] node = []
heard_in (noted ∷ before) node = cons_option (heard_at before node noted.event) (heard_in before node)
