use Rattle.law_cluster.proofs.Blaming.{cluster_blameless}
use Rattle.law_cluster.proofs.cluster.clusters_blame_no_honest_member.Goals as goal

pub returns : goal.returns
returns c = cluster_blameless
