use Rattle.simplex_voter.proofs.planner.Planner.act_on_handoff.Goals as goal

pub returns-in_ok-view-in-Vote-clause-view : goal.returns-in_ok-view-in-Vote-clause-view
returns-in_ok-view-in-Vote-clause-view g c = λ made answers doing s. rw c.in-Vote.is (c.in_ok-view-in-Vote.ensures.view made answers doing s)

pub returns-in_ok-view-in-Stage-clause-view : goal.returns-in_ok-view-in-Stage-clause-view
returns-in_ok-view-in-Stage-clause-view g c = λ made answers doing s. rw c.in-Stage.is (c.in_ok-view-in-Stage.ensures.view made answers doing s)
