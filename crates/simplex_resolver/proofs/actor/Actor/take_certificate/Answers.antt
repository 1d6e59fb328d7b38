use Rattle.model_rules.specs.Repair as repair
use Rattle.model_resolver.specs.Resolver.{repairing}
use Rattle.simplex_resolver.proofs.Moving.{recorded-moves}
use Rattle.simplex_resolver.proofs.actor.Actor.take_certificate.Goals as goal

pub returns : goal.returns
unfolding repairing
returns g c = λ made doing s.
    let held = c.in_ok-effects.ensures.stands made.term doing.standing.held s.stands.held_is in
    let recorded = recorded-moves c.args.self.now _ _ (repair.Updated c.args.certificate.now) made doing s held in
    rw (c.in_ok-effects.ensures.effects made.term doing.standing.held s.stands.held_is) at (c.in_ok-follow.ensures made _ recorded)
