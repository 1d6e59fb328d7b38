use Rattle.std.proofs.Common.{refl}
use Rattle.model_steps.specs.Desk.{begun}
use Rattle.model_steps.specs.Voter.{act_on_proposal}
use Rattle.simplex_voter.specs.Arrivals.{pending_of}
use Rattle.simplex_voter.proofs.Taking.{nothing-acted, acted-so, answer-kept}
use Rattle.simplex_voter.proofs.planner.Planner.take_answer.Goals as goal

pub returns-in-None : goal.returns-in-None
returns-in-None g c = λ made answers desk s.
    let kept = rw c.requires.own at s.keeps.proposal_kept in
    nothing-acted (rw (answer-kept answers 0 c.args.pending.now.number, ← kept, c.in-None.is) refl) s

pub returns-in_ok-touched-in-Some : goal.returns-in_ok-touched-in-Some
returns-in_ok-touched-in-Some g c = λ made answers desk s.
    let kept = rw c.requires.own at s.keeps.proposal_kept in
    acted-so (act_on_proposal made c.args.now (pending_of c.args.pending.now) c.in-Some.arrival.answer (begun desk)) _
    (rw (answer-kept answers 0 c.args.pending.now.number, ← kept, c.in-Some.is) refl)
    (c.in_ok-touched-in-Some.ensures.view made answers _ s)
    (c.in_ok-touched-in-Some.ensures.stands made answers _ s)
