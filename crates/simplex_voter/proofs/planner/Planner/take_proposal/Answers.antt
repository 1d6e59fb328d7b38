use Rattle.std.proofs.Common.{ap}
use Rattle.model_steps.specs.Desk.{Doing}
use Rattle.simplex_voter.specs.Arrivals.{pending_of}
use Rattle.simplex_voter.specs.Stands.{doing_of}
use Rattle.simplex_voter.proofs.Taking.{nothing-acted, proposal-none, proposal-some}
use Rattle.simplex_voter.proofs.planner.Planner.take_proposal.Goals as goal

pub returns-in-None : goal.returns-in-None
unfolding doing_of
returns-in-None g c = λ made answers desk s.
    let pending = ap (λ (d : Doing). d.desk.proposal) s.does in
    nothing-acted (proposal-none made c.args.now desk answers (rw c.in-None.is at pending)) s

pub returns-in_ok-touched-in-Some : goal.returns-in_ok-touched-in-Some
unfolding doing_of
returns-in_ok-touched-in-Some g c = λ made answers desk s.
    let pending = ap (λ (d : Doing). d.desk.proposal) s.does in
    rw (proposal-some made c.args.now desk answers (pending_of c.in-Some.pending) (rw c.in-Some.is at pending)) (c.in_ok-touched-in-Some.ensures made answers desk s)
