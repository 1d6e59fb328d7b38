use Rattle.simplex_par.specs.Lanes.{AreEmpty}
use Rattle.simplex_par.proofs.lanes.empty_lanes.Given as goal

abbrev pub invariant-loop : goal.invariant-loop
invariant-loop l = AreEmpty l.counter l.lanes.items
