use Rattle.std.proofs.Common.{arith}
use Rattle.simplex_voter.proofs.Folding.{folded-item}
use Rattle.simplex_voter.proofs.planner.Planner.ask_each.Goals as goal

pub loop-proposal-preserved : goal.loop-proposal-preserved
loop-proposal-preserved g c = λ made answers doing s.
    folded-item _ _ _ _ _ _ c.proposal-item.result (omega arith) c.proposal-item.is
    (λ now stands. c.in_ok-ask_certify.ensures made answers now stands) (c.loop-proposal.invariant made answers doing s)
