use Rattle.simplex_batcher.proofs.Holding.{near-is}
use Rattle.simplex_batcher.proofs.working.work_round.Goals as goal

pub returns : goal.returns
returns g c = λ made me same view before doing h.
    rw (near-is made view doing) (
    c.in_ok-construct_each.ensures made same view before _ (
    c.in_ok-forward_proposal.ensures made me view before doing h))
