use Rattle.model_resolver.specs.Fetcher.{retained}
use Rattle.model_resolver.specs.Resolver.{retiring}
use Rattle.simplex_resolver.proofs.Moving.{fetcher-moves}
use Rattle.simplex_resolver.proofs.actor.Actor.retire.Goals as goal

pub returns : goal.returns
unfolding retiring
returns g c = λ made doing s.
    fetcher-moves c.args.self.now _ _ _ _ _ (retained c.args.retire.now) made doing s
    c.in_ok-outs.ensures.fetcher c.in_ok-outs.ensures.outs (c.in_ok-mind_each.ensures made)
