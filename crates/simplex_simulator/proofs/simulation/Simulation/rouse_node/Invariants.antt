use Rattle.std.proofs.Common.{◌≡◌}
use Rattle.simplex_simulator.proofs.simulation.Simulation.rouse_node.Given as goal

abbrev pub invariant-loop-source : goal.invariant-loop-source
invariant-loop-source l = (l.self.network ≡ l.fn.self.network) × (l.self.events ≡ l.fn.self.events) × (l.self.nodes ≡ l.fn.self.nodes)
