use Rattle.std.proofs.Common.{rules, subst}
use Rattle.std.proofs.lemmas.List.{nil_from_length}
use Rattle.std.specs.Vec.Iter.{into_iter_items}
use Rattle.simplex_scripts.specs.declared.came.Came.{Came}
use Rattle.simplex_scripts.specs.Playing.{made}
use Rattle.simplex_scripts.specs.Stands.{Leads}
use Rattle.simplex_scripts.proofs.Going.{events_more, events_over, events_stop}
use Rattle.simplex_scripts.proofs.play.Play.make_all.Goals as goal

pub loop-event-preserved : goal.loop-event-preserved
loop-event-preserved c =
    events_more c.args.self.now c.loop-event.self c.make.new.self c.args.line c.args.events.items (into_iter_items c.loop-event.event-iterator)
    (into_iter_items c.next.new.self) c.in-Some.event c.in-Some.ensures.steps.0 c.loop-event.invariant
    (subst (λ (it : Came). Leads c.loop-event.self c.make.new.self (λ setting. made setting c.args.line c.in-Some.event) it) c.in-On.is
    c.in_ok-stopped.ensures)

pub returns-in_default : goal.returns-in_default
returns-in_default c =
    events_stop c.args.self.now c.loop-event.self c.make.new.self c.args.line c.args.events.items (into_iter_items c.loop-event.event-iterator)
    (into_iter_items c.next.new.self) c.in-Some.event c.in_ok-stopped.stopped c.in-Some.ensures.steps.0 c.loop-event.invariant
    c.in_ok-stopped.ensures c.in_default.not-On

pub returns : goal.returns
returns c =
    events_over c.args.self.now c.loop-event.self c.args.line c.args.events.items (into_iter_items c.loop-event.event-iterator)
    (nil_from_length (into_iter_items c.loop-event.event-iterator) (search rules)) c.loop-event.invariant
