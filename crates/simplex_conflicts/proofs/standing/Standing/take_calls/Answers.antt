use Rattle.simplex_conflicts.specs.Standing.{in_call}
use Rattle.simplex_conflicts.proofs.Clashing.{takes_none, list_more, list_stop, list_end}
use Rattle.simplex_conflicts.proofs.standing.Standing.take_calls.Goals as goal

pub loop-call-init : goal.loop-call-init
loop-call-init c = takes_none c.args.self.now

pub loop-call-preserved : goal.loop-call-preserved
loop-call-preserved c =
    list_more in_call c.args.calls.now c.loop-call.call-index c.call-item.result c.loop-call-test.true c.call-item.is
    c.args.self.now c.loop-call.self c.take_call.new.self c.loop-call.invariant c.in_ok-take_call.field-0 c.if-branch.false
    c.in_ok-take_call.ensures

pub returns-then-branch : goal.returns-then-branch
returns-then-branch c =
    list_stop in_call c.args.calls.now c.loop-call.call-index c.call-item.result c.loop-call-test.true c.call-item.is
    c.args.self.now c.loop-call.self c.take_call.new.self c.loop-call.invariant c.in_ok-take_call.field-0 c.if-branch.true
    c.in_ok-take_call.ensures

pub returns : goal.returns
returns c =
    list_end in_call c.args.calls.now c.loop-call.call-index c.loop-call-test.false
    c.args.self.now c.loop-call.self c.loop-call.invariant
