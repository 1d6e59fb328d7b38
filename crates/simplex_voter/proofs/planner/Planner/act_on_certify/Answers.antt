use Rattle.model_steps.specs.Voter.{act_on_certify}
use Rattle.simplex_voter.proofs.planner.Planner.act_on_certify.Goals as goal

pub returns-clause-view : goal.returns-clause-view
unfolding act_on_certify
returns-clause-view g c = λ made answers doing s.
    let settled = c.settle_certify.ensures made answers doing s in
    let told = c.in_ok-taken.ensures.stands made answers _ settled in
    rw c.in-Verdict.is (rw (c.in_ok-taken.ensures.answer made answers _ settled) at (c.in_ok-view.ensures.view made answers _ told))
