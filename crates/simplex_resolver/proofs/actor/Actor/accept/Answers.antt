use Rattle.model_rules.specs.Repair as repair
use Rattle.simplex_resolver.specs.Stands.{Stands}
use Rattle.simplex_resolver.proofs.Moving.{recorded-moves, accepted-as}
use Rattle.simplex_resolver.proofs.actor.Actor.accept.Goals as goal

pub returns : goal.returns
returns g c = λ made doing s.
    let call = repair.Updated c.args.certificate in
    let held = c.in_ok-effects.ensures.stands made.term doing.standing.held s.stands.held_is in
    let recorded = recorded-moves c.args.self.now _ _ call made doing s held in
    let before = c.count_settled-before.ensures made doing.standing s.stands in
    let after = c.count_settled-after.ensures made _ recorded.stands in
    let done = c.in_ok-follow.ensures made _ (c.in_ok-judge.ensures made _ recorded) in
    accepted-as (Stands _ _ made) made c.args.now c.args.id c.args.view c.args.asks.now c.args.certificate doing _ _
    (rw after at (rw before at c.verdict_of-verdict.ensures))
    (c.in_ok-effects.ensures.effects made.term doing.standing.held s.stands.held_is)
    (record { stands = done.stands; does = rw done.does at c.in_ok-hand.ensures })
