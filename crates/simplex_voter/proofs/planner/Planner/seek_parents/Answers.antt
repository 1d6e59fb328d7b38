use Rattle.std.proofs.Common.{arith}
use Rattle.simplex_voter.proofs.Folding.{folded-item}
use Rattle.simplex_voter.proofs.planner.Planner.seek_parents.Goals as goal

pub loop-fetch-preserved : goal.loop-fetch-preserved
loop-fetch-preserved g c = λ made answers doing s.
    folded-item _ _ _ _ _ _ c.fetch-item.result (omega arith) c.fetch-item.is
    (λ now stands. c.in_ok-seek_missing.ensures made answers now stands) (c.loop-fetch.invariant made answers doing s)
