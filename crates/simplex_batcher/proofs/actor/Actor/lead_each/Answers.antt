use Rattle.std.proofs.Common.{arith}
use Rattle.std.proofs.lemmas.List.{drop_more, drop_all}
use Rattle.simplex_batcher.proofs.Leading.{led-item, led-end}
use Rattle.simplex_batcher.proofs.actor.Actor.lead_each.Goals as goal

pub loop-view-preserved : goal.loop-view-preserved
loop-view-preserved g c = λ made standing s.
    led-item _ _ made standing c.args.views.now _ _ _ (drop_more c.args.views.now c.loop-view.view-index 0 (omega arith))
    (λ now stands. c.lead.ensures made now stands) (c.loop-view.invariant made standing s)

pub returns : goal.returns
returns g c = λ made standing s.
    led-end _ made standing c.args.views.now _ (drop_all c.loop-view.view-index c.args.views.now (omega arith)) (c.loop-view.invariant made standing s)
