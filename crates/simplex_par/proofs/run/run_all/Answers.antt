use Rattle.std.proofs.Common.{ℕ, take, drop, refl, ap, arith, length-drop}
use Rattle.model_run.specs.Setting.{at_epoch_genesis}
use Rattle.simplex_run.proofs.Runs.{ran-none, ran-more, ran-ends, ran-done, ran-network}
use Rattle.simplex_par.proofs.Running.{size-is, cut-within, cut-may, cut-all, ran-group, ran-group-ends}
use Rattle.simplex_par.proofs.run.run_all.Goals as goal

pub loop-next-init : goal.loop-next-init
loop-next-init g c = (omega arith, rw c.new-entries.ensures (ran-none _ _ _ c.in-Ok.ensures.stands))

pub returns-in-Err-apply-clause-refused : goal.returns-in-Err-apply-clause-refused
returns-in-Err-apply-clause-refused g c =
    λ whole. ran-ends _ _ _ _ _ _ _ _ _ c.in-Ok.ensures.allowed c.loop-next-test.true c.index-events-next.is c.loop-next.invariant.1
    c.refused-in-Err-apply.ensures whole c.in-Err-apply.ensures.reason

pub loop-next-preserved-then-size-lt2 : goal.loop-next-preserved-then-size-lt2
loop-next-preserved-then-size-lt2 g c = (
  omega (arith, c.loop-next-test.true),
  rw c.in_ok-push-in-Ok-apply.ensures.ok (ran-more _ _ _ _ _ _ _ _ _ c.loop-next-test.true c.index-events-next.is c.loop-next.invariant.1
      c.in-Ok-apply.ensures.stands c.in-Ok-apply.ensures.entry),
)

pub step_group-requires-clause-may : goal.step_group-requires-clause-may
step_group-requires-clause-may g c = λ _ _. cut-may _ c.args.events.now c.loop-next.next c.in-Ok-group_size.size c.in-Ok-group_size.ensures.each

pub returns-in-Err-step_group-clause-refused : goal.returns-in-Err-step_group-clause-refused
returns-in-Err-step_group-clause-refused g c =
    λ whole. ran-group-ends c.loop-next.network (at_epoch_genesis c.args.setup.now) c.args.events.now _ c.loop-next.next c.in-Ok-group_size.size _ _ _ c.in-Ok.ensures.allowed
    (ap (λ (n : ℕ). take n (drop c.loop-next.next c.args.events.now)) (size-is c.loop-next.next c.in-Ok-group_size.size))
    (cut-all _ c.args.events.now c.loop-next.next c.in-Ok-group_size.size c.in-Ok-group_size.ensures.group) refl
    (c.in-Err-step_group.ensures.refused whole) c.loop-next.invariant.1

pub loop-next-preserved : goal.loop-next-preserved
loop-next-preserved g c =
    let few = cut-within c.args.events.now c.loop-next.next c.in-Ok-group_size.size c.in-Ok-group_size.ensures.within in (
      omega (arith, few, length-drop c.loop-next.next c.args.events.now, c.loop-next-test.true),
      ran-group c.loop-next.network _ (at_epoch_genesis c.args.setup.now) c.args.events.now _ _ c.loop-next.next c.in-Ok-group_size.size _ few
          (ap (λ (n : ℕ). take n (drop c.loop-next.next c.args.events.now)) (size-is c.loop-next.next c.in-Ok-group_size.size))
          (cut-all _ c.args.events.now c.loop-next.next c.in-Ok-group_size.size c.in-Ok-group_size.ensures.group) c.in-Ok-step_group.ensures.done c.loop-next.invariant.1,
    )

pub returns-clause-done : goal.returns-clause-done
returns-clause-done g c = ran-done _ _ _ _ _ _ c.in-Ok.ensures.allowed (omega arith) c.loop-next.invariant.1

pub returns-clause-network : goal.returns-clause-network
returns-clause-network g c = ran-network _ _ _ _ _ _ (omega arith) c.loop-next.invariant.1
