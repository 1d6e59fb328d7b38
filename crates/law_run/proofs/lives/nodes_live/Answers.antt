use Rattle.law_run.proofs.Nodes.{node_lives}
use Rattle.law_run.proofs.lives.nodes_live.Goals as goal

pub returns : goal.returns
returns c = node_lives
