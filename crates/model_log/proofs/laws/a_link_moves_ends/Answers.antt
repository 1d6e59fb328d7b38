use Rattle.model_log.proofs.Ending.{link_moves_ends}
use Rattle.model_log.proofs.laws.a_link_moves_ends.Goals as goal

pub returns : goal.returns
returns c = link_moves_ends
