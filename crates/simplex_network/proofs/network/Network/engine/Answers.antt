use Rattle.simplex_network.proofs.Standing.{stands-shows}
use Rattle.simplex_network.proofs.network.Network.engine.Goals as goal

pub returns : goal.returns
returns c = stands-shows _ _ _ c.shown.ensures
