use Rattle.std.proofs.Common.{ap, sym}
use Rattle.model_steps.specs.Desk.{Doing, begun}
use Rattle.model_steps.specs.Voter.{act_on_verify}
use Rattle.simplex_voter.specs.Arrivals.{opened_of}
use Rattle.simplex_voter.specs.Stands.{doing_of}
use Rattle.simplex_voter.proofs.Taking.{nothing-acted, acted-so, verify-none, verify-unanswered, verify-answered, verify-touches}
use Rattle.simplex_voter.proofs.planner.Planner.take_verify.Goals as goal

pub returns-in-None : goal.returns-in-None
unfolding doing_of
returns-in-None g c = λ made answers desk s.
    let opened = ap (λ (d : Doing). d.desk.verify) s.does in
    nothing-acted (verify-none made c.args.now desk answers (rw c.in-None.is at opened)) s

pub returns-in-None-arrival : goal.returns-in-None-arrival
unfolding doing_of
returns-in-None-arrival g c = λ made answers desk s.
    let opened = ap (λ (d : Doing). d.desk.verify) s.does in
    nothing-acted (verify-unanswered made c.args.now desk answers c.in-Some.request (rw c.in-Some.is at opened) (rw c.in-Some.is at s.keeps.verify_kept) c.in-None-arrival.is) s

pub returns-in_ok-act_on_verify-in-Some-arrival : goal.returns-in_ok-act_on_verify-in-Some-arrival
unfolding doing_of
returns-in_ok-act_on_verify-in-Some-arrival g c = λ made answers desk s.
    let opened = ap (λ (d : Doing). d.desk.verify) s.does in
    acted-so (act_on_verify made c.args.now (opened_of c.in-Some.request) c.in-Some-arrival.arrival.answer (begun desk)) _
    (verify-answered made c.args.now desk answers c.in-Some.request c.in-Some-arrival.arrival (rw c.in-Some.is at opened) (rw c.in-Some.is at s.keeps.verify_kept) c.in-Some-arrival.is)
    (sym (verify-touches made c.args.now (opened_of c.in-Some.request) c.in-Some-arrival.arrival.answer (begun desk)))
    (c.in_ok-act_on_verify-in-Some-arrival.ensures made answers _ s)
