use Rattle.std.proofs.Common.{refl}
use Rattle.simplex_voter.proofs.planner.Planner.act_on_leader.Goals as goal

pub returns-then-branch-clause-view : goal.returns-then-branch-clause-view
returns-then-branch-clause-view g c = λ made answers doing s. rw (← c.in_ok-set_proposal.ensures.answer made answers doing s, c.if-branch.true) refl

pub returns-clause-view : goal.returns-clause-view
returns-clause-view g c = λ made answers doing s. rw (← c.in_ok-set_proposal.ensures.answer made answers doing s, c.if-branch.false) refl
