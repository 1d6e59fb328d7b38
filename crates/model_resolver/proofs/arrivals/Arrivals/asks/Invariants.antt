use Rattle.std.proofs.Common.{◌≡◌, drop}
use Rattle.model_resolver.specs.Asks.{asks_behind, asks_of}
use Rattle.model_resolver.proofs.arrivals.Arrivals.asks.Given as goal

abbrev pub invariant-loop-arrival : goal.invariant-loop-arrival
invariant-loop-arrival l = asks_behind l.asks.items (drop l.arrival-index l.arrival-items) ≡ asks_of l.arrival-items
