use Rattle.std.proofs.Common.{◌≡◌, ◌+◌, ◌≤◌, length}
use Rattle.simplex_generator.specs.Summary.{stops_in}
use Rattle.simplex_generator.proofs.sums.stops_in.Given as goal

abbrev pub invariant-loop-rest : goal.invariant-loop-rest
invariant-loop-rest l = record {
  stops : l.count + stops_in l.rest l.entries ≡ stops_in l.events l.initial.entries;
  few : l.count + length l.rest ≤ length l.events;
}

abbrev pub decreases-loop-rest : goal.decreases-loop-rest
decreases-loop-rest l = length l.rest
