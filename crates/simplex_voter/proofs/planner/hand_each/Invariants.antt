use Rattle.std.proofs.Common.{◌≡◌, ◌++◌, map, drop}
use Rattle.simplex_messages.specs.declared.handed.Handed.TheVariants.{Resolver}
use Rattle.model_steps.specs.Desk.{resolve_of}
use Rattle.simplex_voter.specs.Stands.{sought_of}
use Rattle.simplex_voter.proofs.planner.hand_each.Given as goal

abbrev pub invariant-loop-lack : goal.invariant-loop-lack
invariant-loop-lack l =
    l.handed ++ map (λ s. Resolver (resolve_of s)) (map sought_of (drop l.lack-index l.missing))
    ≡ l.fn.handed ++ map (λ s. Resolver (resolve_of s)) (map sought_of l.missing)
