use Rattle.law_cluster.proofs.Reporting.{cluster_reports}
use Rattle.law_cluster.proofs.cluster.clusters_report_one_chain.Goals as goal

pub returns : goal.returns
returns c = cluster_reports
