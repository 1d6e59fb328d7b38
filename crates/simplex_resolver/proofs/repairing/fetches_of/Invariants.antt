use Rattle.std.proofs.Common.{◌≡◌, ◌++◌, drop}
use Rattle.std.specs.List.{filter_map}
use Rattle.model_resolver.specs.Resolver.{fetch_of}
use Rattle.simplex_resolver.proofs.repairing.fetches_of.Given as goal

abbrev pub invariant-loop-effect : goal.invariant-loop-effect
invariant-loop-effect l =
    l.fetches.items ++ filter_map fetch_of (drop l.effect-index l.effects) ≡ filter_map fetch_of l.effects
