use Rattle.std.proofs.Common.{refl}
use Rattle.simplex_network.proofs.ManyHosts.{hosts-at}
use Rattle.simplex_network.proofs.hosts.Hosts.engine.Goals as goal

pub returns : goal.returns
returns c =
    λ setup parts stand. c.engine.ensures setup _ _ (hosts-at setup _ parts c.args.node _ _ stand c.requires (rw c.seat_of.ensures at c.index.ensures) refl)
