use Rattle.std.proofs.Common.{◌≡◌, ◌<◌, arith, subst, sym}
use Rattle.std.specs.Prelude.{Option}
use Rattle.simplex_transcript.specs.declared.event.Event.{Event}
use Rattle.simplex_scripts.specs.declared.came.Came.{Came}
use Rattle.simplex_scripts.specs.declared.play.TheConstants.{MOST_EVENTS}
use Rattle.simplex_scripts.specs.Playing.{made}
use Rattle.simplex_scripts.specs.Stands.{Leads}
use Rattle.simplex_scripts.proofs.Going.{NextIs, of_settling, settles_more, settles_out, settles_over, settles_stop}
use Rattle.simplex_scripts.proofs.play.Play.settle.Goals as goal

pub returns-in_default : goal.returns-in_default
returns-in_default c =
    settles_over c.args.self.now c.events.self c.args.line c.args.nodes.now c.events.left MOST_EVENTS
    (subst (λ (it : Option Event). NextIs c.events.self c.args.nodes.now it) c.in_default.is c.in_ok-event.ensures) c.events.invariant

pub returns-then-left-eq0 : goal.returns-then-left-eq0
returns-then-left-eq0 c =
    let over : c.events.left ≡ 0 = omega arith in
    subst (λ (it : Came). Leads c.args.self.now c.events.self (of_settling c.args.line c.args.nodes.now MOST_EVENTS) it) (sym c.restless.ensures)
    (settles_out c.args.self.now c.events.self c.args.line c.args.nodes.now c.events.left MOST_EVENTS c.in-Some.event over
    (subst (λ (it : Option Event). NextIs c.events.self c.args.nodes.now it) c.in-Some.is c.in_ok-event.ensures) c.events.invariant)

pub returns-in_default-2 : goal.returns-in_default-2
returns-in_default-2 c =
    let some : 0 < c.events.left = omega arith in
    settles_stop c.args.self.now c.events.self c.make.new.self c.args.line c.args.nodes.now c.events.left MOST_EVENTS c.in-Some.event
    c.in_ok-stopped.stopped some (subst (λ (it : Option Event). NextIs c.events.self c.args.nodes.now it) c.in-Some.is c.in_ok-event.ensures)
    c.events.invariant c.in_ok-stopped.ensures c.in_default-2.not-On

pub events-preserved : goal.events-preserved
events-preserved c =
    let some : 0 < c.events.left = omega arith in
    settles_more c.args.self.now c.events.self c.make.new.self c.args.line c.args.nodes.now c.events.left MOST_EVENTS c.in-Some.event some
    (subst (λ (it : Option Event). NextIs c.events.self c.args.nodes.now it) c.in-Some.is c.in_ok-event.ensures) c.events.invariant
    (subst (λ (it : Came). Leads c.events.self c.make.new.self (λ setting. made setting c.args.line c.in-Some.event) it) c.in-On.is
    c.in_ok-stopped.ensures)
