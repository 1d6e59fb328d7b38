use Rattle.std.proofs.Common.{◌≡◌, ◌∙◌, ◌∷◌, ◌+◌, sym, ap, drop, arith}
use Rattle.std.proofs.lemmas.List.{drop_more, drop_all}
use Rattle.simplex_resolver.proofs.Leading.{retired-item, retired-end}
use Rattle.simplex_resolver.proofs.actor.Actor.retire_each.Goals as goal

pub loop-retire-preserved : goal.loop-retire-preserved
loop-retire-preserved g c = λ made doing s.
    let left = drop (c.loop-retire.retire-index + 1) c.args.retires.now in
    let next : drop c.loop-retire.retire-index c.args.retires.now ≡ c.retire-item.result ∷ left =
    drop_more c.args.retires.now c.loop-retire.retire-index c.retire-item.result (omega arith) ∙ ap (λ y. y ∷ left) (sym c.retire-item.is) in
    retired-item _ _ doing c.args.retires.now _ left c.retire-item.result next (c.in_ok-retire.ensures made) (c.loop-retire.invariant made doing s)

pub returns : goal.returns
returns g c = λ made doing s.
    retired-end _ doing c.args.retires.now _ (drop_all c.loop-retire.retire-index c.args.retires.now (omega arith)) (c.loop-retire.invariant made doing s)
