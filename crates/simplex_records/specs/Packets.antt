-- The packets that are kept of each event.
use Rattle.std.specs.Prelude.{◌-◌, ◌==◌, List, Option, None, if◌then◌else◌}
use Rattle.std.specs.List.{slice_get}
use Rattle.std.specs.Option.{option_and_then}
use Rattle.simplex_transcript.specs.declared.entry.Packet.{Packet}
use Rattle.simplex_transcript.specs.declared.node.Ref.{Ref}

-- the packet at this place, where there is such an event
unfoldable pub packet_in : List (List Packet) → Ref → Option Packet
packet_in kept at =
    if at.event == 0 then None
    else option_and_then (λ packets. slice_get packets at.place) (slice_get kept (at.event - 1))
