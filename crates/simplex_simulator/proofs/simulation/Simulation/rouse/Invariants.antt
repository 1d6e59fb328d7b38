use Rattle.std.proofs.Common.{◌≡◌}
use Rattle.simplex_simulator.proofs.simulation.Simulation.rouse.Given as goal

abbrev pub invariant-loop-place : goal.invariant-loop-place
invariant-loop-place l = (l.self.network ≡ l.fn.self.network) × (l.self.events ≡ l.fn.self.events) × (l.self.nodes ≡ l.fn.self.nodes)
