use Rattle.law_cluster.proofs.Agreeing.{cluster_agrees}
use Rattle.law_cluster.proofs.cluster.clusters_agree.Goals as goal

pub returns : goal.returns
returns c = cluster_agrees
