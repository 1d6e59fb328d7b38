use Rattle.model_steps.specs.Voter.{act_on_proposal}
use Rattle.simplex_voter.specs.Arrivals.{pending_of}
use Rattle.simplex_voter.proofs.Cases.{handoff-is}
use Rattle.simplex_voter.proofs.planner.Planner.act_on_proposal.Goals as goal

pub returns-in_ok-view-in-Payload-clause-view : goal.returns-in_ok-view-in-Payload-clause-view
unfolding act_on_proposal
returns-in_ok-view-in-Payload-clause-view g c = λ made answers doing s. rw c.in-Payload.is (c.in_ok-view-in-Payload.ensures.view made answers doing s)

pub returns-in_ok-view-in-Handoff-clause-view : goal.returns-in_ok-view-in-Handoff-clause-view
returns-in_ok-view-in-Handoff-clause-view g c = λ made answers doing s.
    rw (c.in-Handoff.is, ← handoff-is made c.args.now (pending_of c.args.pending.now) c.in-Handoff.decision doing) (c.in_ok-view-in-Handoff.ensures.view made answers doing s)

pub returns-in_ok-view-in-Handoff-clause-stands : goal.returns-in_ok-view-in-Handoff-clause-stands
returns-in_ok-view-in-Handoff-clause-stands g c = λ made answers doing s.
    rw (c.in-Handoff.is, ← handoff-is made c.args.now (pending_of c.args.pending.now) c.in-Handoff.decision doing) (c.in_ok-view-in-Handoff.ensures.stands made answers doing s)
