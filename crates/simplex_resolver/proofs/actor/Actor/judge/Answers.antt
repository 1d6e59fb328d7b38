use Rattle.model_resolver.specs.Fetcher.{judged}
use Rattle.model_resolver.specs.Resolver.{judging}
use Rattle.simplex_resolver.proofs.Moving.{fetcher-moves}
use Rattle.simplex_resolver.proofs.actor.Actor.judge.Goals as goal

pub returns : goal.returns
unfolding judging
returns g c = λ made doing s.
    fetcher-moves c.args.self.now _ _ _ _ _ (judged c.args.id c.args.verdict c.args.now) made doing s
    c.in_ok-outs.ensures.fetcher c.in_ok-outs.ensures.outs (c.in_ok-mind_each.ensures made)
