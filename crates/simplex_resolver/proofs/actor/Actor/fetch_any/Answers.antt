use Rattle.std.proofs.Common.{◌∷◌, []}
use Rattle.model_resolver.specs.Fetcher.{fetched, of_all}
use Rattle.model_resolver.specs.Resolver.{fetching}
use Rattle.simplex_resolver.proofs.Moving.{fetcher-moves}
use Rattle.simplex_resolver.proofs.actor.Actor.fetch_any.Goals as goal

pub returns : goal.returns
unfolding fetching
returns g c = λ made doing s.
    fetcher-moves c.args.self.now _ _ _ _ _ (fetched (of_all c.args.fetch ∷ []) c.args.now) made doing s
    c.in_ok-outs.ensures.fetcher c.in_ok-outs.ensures.outs (c.in_ok-mind_each.ensures made)
