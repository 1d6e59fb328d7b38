use Rattle.std.proofs.Common.{sym, subst, ◌∙◌}
use Rattle.simplex_journal.specs.Contents.{kept}
use Rattle.simplex_stored.specs.Before.{BeforeStands}
use Rattle.simplex_stored.proofs.Order.{so_far, made-next, order-next, order-fails, order-done}
use Rattle.simplex_stored.proofs.stored.Stored.stores_first.Goals as goal

pub returns-then-not-branch : goal.returns-then-not-branch
returns-then-not-branch c =
    order-fails (kept c.args.self.now) c.args.calls.now c.loop-call.call-index c.call-item.result _ c.loop-call-test.true c.call-item.is
    (sym (c.in_ok-may_call.ensures _ c.loop-call.invariant.0) ∙ c.if-not-branch.true) c.loop-call.invariant.1

pub loop-call-preserved : goal.loop-call-preserved
loop-call-preserved c = (
  subst (BeforeStands c.take.new.self) (sym (made-next c.args.calls.now c.loop-call.call-index c.call-item.result c.loop-call-test.true c.call-item.is))
      (c.in_ok-take.ensures (so_far c.args.calls.now c.loop-call.call-index) c.loop-call.invariant.0),
  order-next (kept c.args.self.now) c.args.calls.now c.loop-call.call-index c.call-item.result _ c.loop-call-test.true c.call-item.is
      (sym (c.in_ok-may_call.ensures _ c.loop-call.invariant.0) ∙ c.if-not-branch.false) c.loop-call.invariant.1,
)

pub returns : goal.returns
returns c = order-done (kept c.args.self.now) c.args.calls.now c.loop-call.call-index _ c.loop-call-test.false c.loop-call.invariant.1
