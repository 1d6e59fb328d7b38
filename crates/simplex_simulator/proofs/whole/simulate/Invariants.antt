use Rattle.std.proofs.Common.{◌≤◌, length}
use Rattle.simplex_simulator.specs.Going.{Went}
use Rattle.simplex_simulator.proofs.whole.simulate.Given as goal

abbrev pub invariant-loop : goal.invariant-loop
invariant-loop l = Went l.simulation l.setup × (length l.simulation.events ≤ l.counter)
