use Rattle.std.proofs.Common.{take, false}
use Rattle.std.specs.List.{flat_map}
use Rattle.law_run.specs.Backed.{of_packet}
use Rattle.simplex_conflicts.specs.Standing.{TakesIn}
use Rattle.simplex_conflicts.proofs.standing.Standing.take_packets.Given as goal

abbrev pub invariant-loop-packet : goal.invariant-loop-packet
invariant-loop-packet l = TakesIn l.fn.self l.self (flat_map of_packet (take l.packet-index l.packets)) false
