use Rattle.simplex_voter.proofs.Cases.{deadline-comes}
use Rattle.simplex_voter.proofs.Reading.{known-is}
use Rattle.simplex_voter.proofs.planner.Planner.act_on_deadline.Goals as goal

pub returns : goal.returns
returns g c = λ made answers doing s.
    let told = c.construct_nullify-vote.ensures.stands made answers doing s in
    let kept = c.in_ok-keep_nullify.ensures made answers _ told in
    let best = c.in_ok-best.ensures made s.calls s.state in
    let current = c.current_view-view.ensures made s.calls s.state in
    rw (← deadline-comes made c.args.now doing) (rw (c.construct_nullify-vote.ensures.answer made answers doing s, best, current, ← known-is s) at kept)
