use Rattle.std.proofs.Common.{rules}
use Rattle.simplex_generator.proofs.Leading.{leads_last, leads_more}
use Rattle.simplex_generator.proofs.run.events_of.Goals as goal

pub returns-in-Err : goal.returns-in-Err
returns-in-Err c = λ is.
    rw c.in_ok-push.ensures.items
    (leads_last c.loop-left.generator c.next_event.new.self c.args.number c.loop-left.left c.args.steps c.loop-left.events.items c.in_ok-event.event c.in-Err.error c.loop-left-test.true
    (c.loop-left.invariant is) c.in_ok-event.ensures.event c.in_ok-event.ensures.later (c.in-Err.ensures.refused (search rules)))

pub loop-left-preserved : goal.loop-left-preserved
loop-left-preserved c = λ is.
    rw c.in_ok-push.ensures.items
    (leads_more c.loop-left.generator c.next_event.new.self c.make-made.new.self c.args.number c.loop-left.left c.args.steps c.loop-left.events.items c.in_ok-event.event
    c.loop-left-test.true (c.loop-left.invariant is) c.in_ok-event.ensures.event c.in_ok-event.ensures.later c.in-Ok-made.ensures.made)
