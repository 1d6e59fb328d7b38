use Rattle.std.proofs.Common.{refl, arith, ap, ◌+◌, ◌∙◌, ℕ}
use Rattle.simplex_par.proofs.Lent.{may_at, may_all}
use Rattle.simplex_par.proofs.Entering.{going-none, going-some, going-done, going-more, going-refused, going-ends}
use Rattle.simplex_par.proofs.group.enter_all.Goals as goal

pub loop-event-init : goal.loop-event-init
loop-event-init c = (refl, omega arith, refl, going-none _ _ _ _ c.requires.may c.requires.shape)

pub unreachable-requires : goal.unreachable-requires
unreachable-requires c =
    let t = going-some _ _ _ _ _ _ _ _ _ _ _ c.requires.lanes c.loop-event-test.true c.event-item.is c.loop-event.invariant.3 (rw c.loop-event.invariant.0 at c.next_of.ensures) in
    c.in_default.not-Some t.0 t.1

pub enter-requires-clause-lent : goal.enter-requires-clause-lent
enter-requires-clause-lent c = may_at _ _ _ _ c.loop-event-test.true c.event-item.is c.loop-event.invariant.3.may

pub enter-requires-clause-done : goal.enter-requires-clause-done
enter-requires-clause-done c =
    going-done _ _ _ _ _ _ _ _ _ _ _ _ c.requires.lanes c.loop-event-test.true c.event-item.is c.loop-event.invariant.3 (rw c.loop-event.invariant.0 at c.next_of.ensures) c.in-Some.is

pub loop-event-preserved : goal.loop-event-preserved
loop-event-preserved c = (
  ap (λ (n : ℕ). n + 1) c.loop-event.invariant.0,
  omega (arith, c.loop-event.invariant.1),
  c.next_of.ensures.lanes.0 ∙ c.loop-event.invariant.2,
  rw c.in_ok-push-in-Ok.ensures.ok (going-more _ _ _ _ _ _ _ _ _ _ _ _ _ _ c.requires.lanes c.loop-event-test.true c.event-item.is c.loop-event.invariant.3
      (rw c.loop-event.invariant.0 at c.next_of.ensures) c.in-Some.is (may_all _ _ _ c.enter.ensures.same c.loop-event.invariant.3.may) c.in-Ok.ensures.stands),
)

pub returns-in-Err-clause-refused : goal.returns-in-Err-clause-refused
returns-in-Err-clause-refused c =
    λ whole. going-refused _ _ _ _ _ _ _ _ _ _ _ _ _ _ _ _ c.requires.lanes c.loop-event-test.true c.event-item.is c.loop-event.invariant.3
    (rw c.loop-event.invariant.0 at c.next_of.ensures) c.in-Some.is c.loop-event.invariant.1 c.refused.ensures c.in-Err.ensures.reason whole

pub returns-clause-done : goal.returns-clause-done
returns-clause-done c = going-ends _ _ _ _ _ _ _ _ (omega arith) c.loop-event.invariant.3
