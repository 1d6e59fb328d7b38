use Rattle.std.proofs.Common.{◌≡◌, ◌∙◌, ◌∷◌, ◌+◌, sym, ap, drop, arith}
use Rattle.std.proofs.lemmas.List.{drop_more, drop_all}
use Rattle.simplex_batcher.proofs.Leading.{done-item, done-end}
use Rattle.simplex_batcher.proofs.actor.Actor.work_each.Goals as goal

pub loop-view-preserved : goal.loop-view-preserved
loop-view-preserved g c = λ dirty made doing s.
    let left = drop (c.loop-view.view-index + 1) c.args.views.now in
    let next : drop c.loop-view.view-index c.args.views.now ≡ c.view-item.result ∷ left =
    drop_more c.args.views.now c.loop-view.view-index c.view-item.result (omega arith) ∙ ap (λ y. y ∷ left) (sym c.view-item.is) in
    done-item _ _ made doing c.args.views.now _ left c.view-item.result next
    (λ now stands. c.in_ok-work.ensures dirty made now stands) (c.loop-view.invariant dirty made doing s)

pub returns : goal.returns
returns g c = λ dirty made doing s.
    done-end _ made doing c.args.views.now _ (drop_all c.loop-view.view-index c.args.views.now (omega arith)) (c.loop-view.invariant dirty made doing s)
