use Rattle.simplex_resolver.proofs.Moving.{serving-moves}
use Rattle.simplex_resolver.proofs.actor.Actor.serve.Goals as goal

pub returns : goal.returns
returns g c = λ made doing s.
    serving-moves c.args.self.now _ _ _ _ c.args.id _ made doing s
    c.in_ok-outs.ensures.fetcher c.in_ok-outs.ensures.outs c.in_ok-call_each.ensures
