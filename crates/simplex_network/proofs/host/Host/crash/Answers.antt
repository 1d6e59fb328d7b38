use Rattle.simplex_network.specs.Stands.{HostStands}
use Rattle.simplex_network.proofs.Leaving.{crashed-journal}
use Rattle.simplex_network.proofs.host.Host.crash.Goals as goal

pub returns-clause-stands : goal.returns-clause-stands
unfolding HostStands
returns-clause-stands c =
    λ setup member life stand. crashed-journal _ _ _ (c.in_ok-journal.ensures.stands setup member life stand) c.crash.ensures.left c.crash.ensures.order
