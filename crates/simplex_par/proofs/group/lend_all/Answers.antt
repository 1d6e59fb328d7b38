use Rattle.std.proofs.Common.{refl, ap, ◌+◌, ℕ, arith}
use Rattle.simplex_par.proofs.Lent.{lent-none, lent-more, lent-shape, lent-all, may_at, may_all}
use Rattle.simplex_par.proofs.group.lend_all.Goals as goal

pub loop-event-init : goal.loop-event-init
loop-event-init c = (refl, lent-none _ _ _ _ c.in_ok-lanes.ensures c.requires.may)

pub lend-task-requires : goal.lend-task-requires
lend-task-requires c = may_at _ _ _ _ c.loop-event-test.true c.event-item.is c.loop-event.invariant.1.may

pub loop-event-preserved : goal.loop-event-preserved
loop-event-preserved c = (
  ap (λ (n : ℕ). n + 1) c.loop-event.invariant.0,
  lent-more _ _ _ _ _ _ _ _ _ _ c.loop-event-test.true c.event-item.is c.lend-task.ensures.lends (may_all _ _ _ c.lend-task.ensures.same c.loop-event.invariant.1.may)
      (rw c.loop-event.invariant.0 at c.in_ok-put.ensures) c.loop-event.invariant.1,
)

pub returns-clause-shape : goal.returns-clause-shape
returns-clause-shape c = lent-shape _ _ _ _ _ _ (omega arith) c.loop-event.invariant.1

pub returns-clause-lends : goal.returns-clause-lends
returns-clause-lends c = lent-all _ _ _ _ _ _ (omega arith) c.loop-event.invariant.1

pub returns-in_err-put-clause-may : goal.returns-in_err-put-clause-may
returns-in_err-put-clause-may c = may_all _ _ _ c.lend-task.ensures.same c.loop-event.invariant.1.may
