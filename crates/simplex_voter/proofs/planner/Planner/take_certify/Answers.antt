use Rattle.std.proofs.Common.{ap}
use Rattle.model_steps.specs.Desk.{Doing, begun}
use Rattle.model_steps.specs.Voter.{act_on_certify}
use Rattle.simplex_voter.specs.Arrivals.{opened_of}
use Rattle.simplex_voter.specs.Stands.{doing_of}
use Rattle.simplex_voter.proofs.Taking.{nothing-acted, acted-so, certify-acts}
use Rattle.simplex_voter.proofs.planner.Planner.take_certify.Goals as goal

pub returns-in-None : goal.returns-in-None
unfolding doing_of
returns-in-None g c = λ made answers desk s.
    let acts = certify-acts made c.args.now desk answers c.args.self.now.certify.items (ap (λ (d : Doing). d.desk.certify) s.does) s.keeps.certify_kept in
    nothing-acted (rw (← c.deref.ensures.value, ← c.first_answered.ensures, c.in-None.is) at acts) s

pub returns-in-None-arrival : goal.returns-in-None-arrival
unfolding doing_of
returns-in-None-arrival g c = λ made answers desk s.
    let acts = certify-acts made c.args.now desk answers c.args.self.now.certify.items (ap (λ (d : Doing). d.desk.certify) s.does) s.keeps.certify_kept in
    nothing-acted (rw (← c.deref.ensures.value, ← c.first_answered.ensures, c.in-Some.is, c.in-None-arrival.is) at acts) s

pub returns-in_ok-touched-in-Some-arrival : goal.returns-in_ok-touched-in-Some-arrival
unfolding doing_of
returns-in_ok-touched-in-Some-arrival g c = λ made answers desk s.
    let acts = certify-acts made c.args.now desk answers c.args.self.now.certify.items (ap (λ (d : Doing). d.desk.certify) s.does) s.keeps.certify_kept in
    acted-so (act_on_certify made c.args.now (opened_of c.in-Some.request) c.in-Some-arrival.arrival.answer (begun desk)) _
    (rw (← c.deref.ensures.value, ← c.first_answered.ensures, c.in-Some.is, c.in-Some-arrival.is) at acts)
    (c.in_ok-touched-in-Some-arrival.ensures.view made answers _ s)
    (c.in_ok-touched-in-Some-arrival.ensures.stands made answers _ s)
