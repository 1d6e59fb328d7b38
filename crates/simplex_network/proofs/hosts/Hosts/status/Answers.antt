use Rattle.std.proofs.Common.{refl}
use Rattle.simplex_network.proofs.ManyHosts.{hosts-at}
use Rattle.simplex_network.proofs.hosts.Hosts.status.Goals as goal

pub returns : goal.returns
returns c =
    λ setup parts stand goes. c.status.ensures setup _ _ (hosts-at setup _ parts c.args.node _ _ stand c.requires (rw c.seat_of.ensures at c.index.ensures) refl) goes
