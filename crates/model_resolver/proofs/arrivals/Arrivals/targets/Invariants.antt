use Rattle.std.proofs.Common.{◌≡◌, drop}
use Rattle.model_resolver.specs.Asks.{targets_behind, targets_of}
use Rattle.model_resolver.proofs.arrivals.Arrivals.targets.Given as goal

abbrev pub invariant-loop-arrival : goal.invariant-loop-arrival
invariant-loop-arrival l = targets_behind l.targets.items (drop l.arrival-index l.arrival-items) ≡ targets_of l.arrival-items
