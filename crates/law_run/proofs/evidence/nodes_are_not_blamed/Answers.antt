use Rattle.law_run.proofs.Blamed.{node_spared}
use Rattle.law_run.proofs.evidence.nodes_are_not_blamed.Goals as goal

pub returns : goal.returns
returns c setup noted node pos honest ran floors = node_spared setup noted node pos (c.nodes_live.ensures setup noted node pos honest ran floors)
