use Rattle.std.proofs.Common.{◌≡◌, ◌+◌, ◌++◌, length}
use Rattle.simplex_generator.specs.Undelivered.{parcels_from}
use Rattle.simplex_generator.proofs.undelivered.send.Given as goal

abbrev pub invariant-loop-rest : goal.invariant-loop-rest
invariant-loop-rest l = record {
  sent : l.parcels.items ++ parcels_from l.event l.place l.rest ≡ l.initial.parcels.items ++ parcels_from l.event 0 l.packets;
  places : l.place + length l.rest ≡ length l.packets;
}

abbrev pub decreases-loop-rest : goal.decreases-loop-rest
decreases-loop-rest l = length l.rest
