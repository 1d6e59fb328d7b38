use Rattle.simplex_run.proofs.run.run_network.Goals as goal

pub returns-clause-done : goal.returns-clause-done
returns-clause-done c = rw c.genesis_at.ensures at c.run_network_from.ensures.done

pub returns-clause-network : goal.returns-clause-network
returns-clause-network c = rw c.genesis_at.ensures at c.run_network_from.ensures.network

pub returns-clause-refused : goal.returns-clause-refused
returns-clause-refused c = rw c.genesis_at.ensures at c.run_network_from.ensures.refused

pub returns-clause-safe : goal.returns-clause-safe
returns-clause-safe c = rw c.genesis_at.ensures at c.run_network_from.ensures.safe

pub returns-clause-complete : goal.returns-clause-complete
returns-clause-complete c = rw c.genesis_at.ensures at c.run_network_from.ensures.complete

pub returns-clause-possible : goal.returns-clause-possible
returns-clause-possible c = rw c.genesis_at.ensures at c.run_network_from.ensures.possible
