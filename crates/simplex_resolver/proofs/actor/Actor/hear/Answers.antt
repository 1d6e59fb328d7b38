use Rattle.model_resolver.specs.Fetcher.{heard}
use Rattle.model_resolver.specs.Resolver.{hearing}
use Rattle.simplex_resolver.proofs.Moving.{fetcher-moves}
use Rattle.simplex_resolver.proofs.actor.Actor.hear.Goals as goal

pub returns : goal.returns
unfolding hearing
returns g c = λ made doing s.
    fetcher-moves c.args.self.now _ _ _ _ _ (heard c.args.sender c.args.bytes.now c.args.now) made doing s
    c.in_ok-outs.ensures.fetcher c.in_ok-outs.ensures.outs (c.in_ok-mind_each.ensures made)
