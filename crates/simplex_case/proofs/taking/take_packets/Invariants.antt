use Rattle.std.proofs.Common.{List, take}
use Rattle.model_run.specs.Life.{Noted}
use Rattle.simplex_records.specs.Votes.{IndexStands}
use Rattle.simplex_case.specs.Taking.{VotesAlong}
use Rattle.simplex_case.proofs.taking.take_packets.Given as goal

abbrev pub invariant-loop-packet : goal.invariant-loop-packet
invariant-loop-packet l =
    (before : List Noted) → IndexStands l.initial.votes l.setup before → VotesAlong l.votes l.setup before (take l.packet-index l.packets)
