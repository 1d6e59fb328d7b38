use Rattle.std.proofs.Common.{ap}
use Rattle.model_rules.specs.declared.request.ProposalState.{ProposalState}
use Rattle.model_steps.specs.Voter.{take_proposal}
use Rattle.simplex_voter.specs.Arrivals.{pending_of}
use Rattle.simplex_voter.proofs.Taking.{acted-as}
use Rattle.simplex_voter.proofs.planner.Planner.take_pending.Goals as goal

pub returns-in_ok-touched-in-Preparing : goal.returns-in_ok-touched-in-Preparing
returns-in_ok-touched-in-Preparing g c = λ made answers desk s.
    acted-as (ap (λ (at : ProposalState). take_proposal made c.args.now (record { desk = desk; answers = answers }) (pending_of c.args.pending.now) at) c.in-Preparing.is)
    (c.in_ok-touched-in-Preparing.ensures made answers desk s)

pub returns-in_ok-touched-in-Proposing : goal.returns-in_ok-touched-in-Proposing
returns-in_ok-touched-in-Proposing g c = λ made answers desk s.
    acted-as (ap (λ (at : ProposalState). take_proposal made c.args.now (record { desk = desk; answers = answers }) (pending_of c.args.pending.now) at) c.in-Proposing.is)
    (c.in_ok-touched-in-Proposing.ensures made answers desk s)

pub returns-in_ok-touched-in-Held : goal.returns-in_ok-touched-in-Held
returns-in_ok-touched-in-Held g c = λ made answers desk s.
    acted-as (ap (λ (at : ProposalState). take_proposal made c.args.now (record { desk = desk; answers = answers }) (pending_of c.args.pending.now) at) c.in-Held.is)
    (c.in_ok-touched-in-Held.ensures made answers desk s)
