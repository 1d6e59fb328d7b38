use Rattle.std.proofs.Common.{◌≡◌, ◌≤◌, ◌+◌, drop}
use Rattle.model_resolver.specs.Resolver.{Made, Standing, settled_count}
use Rattle.simplex_resolver.specs.Stands.{IsAt}
use Rattle.simplex_resolver.proofs.actor.Actor.count_settled.Given as goal

abbrev pub invariant-loop-ask : goal.invariant-loop-ask
invariant-loop-ask g l =
    (l.count ≤ l.ask-index)
    × ((made : Made) (standing : Standing) → IsAt l.self made standing
    → l.count + settled_count made.term standing.held l.view (drop l.ask-index l.asks) ≡ settled_count made.term standing.held l.view l.asks)
