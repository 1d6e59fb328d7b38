use Rattle.std.proofs.Common.{refl}
use Rattle.std.proofs.Common.{◌∙◌, ap}
use Rattle.model_steps.specs.Performed.{after_calls}
use Rattle.simplex_stored.proofs.Order.{journal-next, made-all}
use Rattle.simplex_stored.proofs.stored.Stored.take_calls.Goals as goal

pub loop-call-init : goal.loop-call-init
unfolding after_calls
loop-call-init c = refl

pub loop-call-preserved : goal.loop-call-preserved
loop-call-preserved c =
    journal-next c.args.calls.now c.loop-call.call-index c.call-item.result _ _ _ c.loop-call-test.true c.call-item.is c.loop-call.invariant
    c.in_ok-take_call.ensures

pub returns : goal.returns
returns c = c.loop-call.invariant ∙ ap (λ cs. after_calls cs c.args.self.now) (made-all c.args.calls.now c.loop-call.call-index c.loop-call-test.false)
