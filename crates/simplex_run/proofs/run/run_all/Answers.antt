use Rattle.std.proofs.Common.{arith}
use Rattle.simplex_run.proofs.Runs.{ran-none, ran-more, ran-ends, ran-done, ran-network}
use Rattle.simplex_run.proofs.run.run_all.Goals as goal

pub loop-event-init : goal.loop-event-init
loop-event-init c = rw c.new-entries.ensures (ran-none _ _ _ c.in-Ok.ensures.stands)

pub loop-event-preserved : goal.loop-event-preserved
loop-event-preserved c =
    rw c.in_ok-push-in-Ok-apply.ensures.ok (ran-more _ _ _ _ _ _ _ _ _ (omega arith) c.event-item.is c.loop-event.invariant c.in-Ok-apply.ensures.stands c.in-Ok-apply.ensures.entry)

pub returns-in-Err-apply-clause-refused : goal.returns-in-Err-apply-clause-refused
returns-in-Err-apply-clause-refused c =
    λ whole. ran-ends _ _ _ _ _ _ _ _ _ c.in-Ok.ensures.allowed (omega arith) c.event-item.is c.loop-event.invariant
    c.refused-in-Err-apply.ensures whole c.in-Err-apply.ensures.reason

pub returns-clause-done : goal.returns-clause-done
returns-clause-done c = ran-done _ _ _ _ _ _ c.in-Ok.ensures.allowed (omega arith) c.loop-event.invariant

pub returns-clause-network : goal.returns-clause-network
returns-clause-network c = ran-network _ _ _ _ _ _ (omega arith) c.loop-event.invariant
