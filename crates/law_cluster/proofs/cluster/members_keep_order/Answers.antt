use Rattle.law_cluster.proofs.Ordering.{well_sent}
use Rattle.law_cluster.proofs.cluster.members_keep_order.Goals as goal

pub returns : goal.returns
returns c = well_sent
