use Rattle.model_resolver.specs.Fetcher.{expired}
use Rattle.model_resolver.specs.Resolver.{expiring}
use Rattle.simplex_resolver.proofs.Moving.{fetcher-moves}
use Rattle.simplex_resolver.proofs.actor.Actor.expire.Goals as goal

pub returns : goal.returns
unfolding expiring
returns g c = λ made doing s.
    fetcher-moves c.args.self.now _ _ _ _ _ (expired c.args.now) made doing s
    c.in_ok-outs.ensures.fetcher c.in_ok-outs.ensures.outs (c.in_ok-mind_each.ensures made)
