use Rattle.simplex_network.proofs.network.Network.new.Goals as goal

pub returns-clause-stands : goal.returns-clause-stands
returns-clause-stands c = rw c.genesis_at.ensures at c.with_genesis.ensures.stands
