use Rattle.model_steps.specs.Voter.{act_on_mail}
use Rattle.simplex_voter.proofs.planner.Planner.act_on_mail.Goals as goal

pub returns-in_ok-view-in-Proposal-clause-view : goal.returns-in_ok-view-in-Proposal-clause-view
unfolding act_on_mail
returns-in_ok-view-in-Proposal-clause-view g c = λ made answers doing s. rw c.in-Proposal.is (c.in_ok-view-in-Proposal.ensures.view made answers doing s)

pub returns-in_ok-view-in-Verified-clause-view : goal.returns-in_ok-view-in-Verified-clause-view
unfolding act_on_mail
returns-in_ok-view-in-Verified-clause-view g c = λ made answers doing s. rw c.in-Verified.is (c.in_ok-view-in-Verified.ensures.view made answers doing s)
