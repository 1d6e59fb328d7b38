use Rattle.law_cluster.proofs.Nodes.{engine_fits}
use Rattle.law_cluster.proofs.cluster.engines_are_of_their_group.Goals as goal

pub returns : goal.returns
returns c = engine_fits
