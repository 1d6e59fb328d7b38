use Rattle.std.proofs.Common.{◌≡◌, ◌++◌, drop}
use Rattle.std.specs.List.{filter_map}
use Rattle.model_resolver.specs.Resolver.{retire_of}
use Rattle.simplex_resolver.proofs.repairing.retires_of.Given as goal

abbrev pub invariant-loop-effect : goal.invariant-loop-effect
invariant-loop-effect l =
    l.retires.items ++ filter_map retire_of (drop l.effect-index l.effects) ≡ filter_map retire_of l.effects
