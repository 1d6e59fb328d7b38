use Rattle.std.proofs.Common.{refl, sym, ap, ◌∙◌}
use Rattle.std.proofs.lemmas.Result.{IfOk-weaker}
use Rattle.simplex_generator.specs.Drawing as drawing
use Rattle.simplex_generator.proofs.Steps.{draws_event, draws_delivery, draws_step, drew}
use Rattle.simplex_generator.proofs.generator.Generator.next_event.Goals as goal

pub returns-in-Event-clause-event : goal.returns-in-Event-clause-event
returns-in-Event-clause-event c = draws_event c.args.self.now c.in-Event.event c.in-Event.ensures.choice

pub returns-in-Event-clause-later : goal.returns-in-Event-clause-later
returns-in-Event-clause-later c =
    drew c.args.self.now (record { alloc = c.args.self.now.alloc; network = c.args.self.now.network; drawing = c.choose.new.self }) c.choose.ensures.later refl

pub returns-in_ok-running-in-Delivery-clause-event : goal.returns-in_ok-running-in-Delivery-clause-event
returns-in_ok-running-in-Delivery-clause-event c =
    IfOk-weaker c.delivery_at.result _ _
    (λ event delivers.
    draws_delivery c.args.self.now (record { alloc = c.args.self.now.alloc; network = c.args.self.now.network; drawing = c.choose.new.self })
    c.in_ok-running-in-Delivery.running.items c.in-Delivery.place event c.in-Delivery.ensures.choice c.choose.ensures.later c.in_ok-running-in-Delivery.ensures
    (λ number before at draws. delivers number before at draws ∙ ap (λ r. drawing.delivery_at r before c.in-Delivery.place) c.deref.ensures.value))
    c.delivery_at.ensures

pub returns-in_ok-running-in-Delivery-clause-later : goal.returns-in_ok-running-in-Delivery-clause-later
returns-in_ok-running-in-Delivery-clause-later c =
    IfOk-weaker c.delivery_at.result _ _
    (λ event delivers.
    drew c.args.self.now (record { alloc = c.args.self.now.alloc; network = c.args.self.now.network; drawing = c.choose.new.self }) c.choose.ensures.later refl)
    c.delivery_at.ensures

pub returns-in_ok-held-in-Step-clause-event : goal.returns-in_ok-held-in-Step-clause-event
returns-in_ok-held-in-Step-clause-event c =
    draws_step c.args.self.now (record { alloc = c.args.self.now.alloc; network = c.args.self.now.network; drawing = c.choose.new.self })
    c.in_ok-held-in-Step.held.items c.in-Step.place c.step_at.result c.in-Step.ensures.choice c.choose.ensures.later
    (λ number before stands clock. c.in_ok-held-in-Step.ensures number before stands (clock ∙ sym c.clock.ensures))
    (c.step_at.ensures ∙ ap (λ h. drawing.step_at h c.in-Step.place) c.deref-in-Step.ensures.value)

pub returns-in_ok-held-in-Step-clause-later : goal.returns-in_ok-held-in-Step-clause-later
returns-in_ok-held-in-Step-clause-later c =
    drew c.args.self.now (record { alloc = c.args.self.now.alloc; network = c.args.self.now.network; drawing = c.choose.new.self }) c.choose.ensures.later refl
