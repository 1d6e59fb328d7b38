use Rattle.std.proofs.Common.{◌≡◌, ◌++◌, length}
use Rattle.simplex_generator.specs.Undelivered.{parcels_of}
use Rattle.simplex_generator.proofs.undelivered.push_parcels.Given as goal

abbrev pub invariant-loop-rest : goal.invariant-loop-rest
invariant-loop-rest l = l.parcels.items ++ parcels_of l.packet l.to l.rest ≡ l.initial.parcels.items ++ parcels_of l.packet l.to l.nodes

abbrev pub decreases-loop-rest : goal.decreases-loop-rest
decreases-loop-rest l = length l.rest
