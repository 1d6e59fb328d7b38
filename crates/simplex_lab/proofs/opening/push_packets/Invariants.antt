use Rattle.std.proofs.Common.{◌≡◌, ◌++◌, length, string_bytes}
use Rattle.simplex_lab.specs.Opening.{packets_from}
use Rattle.simplex_lab.proofs.opening.push_packets.Given as goal

abbrev pub invariant-loop-rest : goal.invariant-loop-rest
invariant-loop-rest l =
    string_bytes l.text ++ packets_from l.node l.events l.entry.event l.place l.rest ≡
    string_bytes l.initial.text ++ packets_from l.node l.events l.entry.event 0 l.entry.packets

abbrev pub decreases-loop-rest : goal.decreases-loop-rest
decreases-loop-rest l = length l.rest
