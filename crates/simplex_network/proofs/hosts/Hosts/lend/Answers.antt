use Rattle.std.proofs.Common.{refl}
use Rattle.simplex_network.proofs.ManyHosts.{hosts-at, hosts-set}
use Rattle.simplex_network.proofs.Lending.{away-empty}
use Rattle.simplex_network.proofs.hosts.Hosts.lend.Goals as goal

pub returns-clause-host : goal.returns-clause-host
returns-clause-host c =
    λ setup parts stand.
    rw c.replace.ensures.value (hosts-at setup _ parts c.args.node _ _ stand c.requires (rw c.seat_of-at.ensures at c.index_mut.ensures.value) refl)

pub returns-clause-stands : goal.returns-clause-stands
returns-clause-stands c =
    λ setup parts stand.
    rw (c.seat_of-at.ensures, c.replace.ensures.after)
    (hosts-set setup _ parts c.args.node _ _ c.requires.0 stand (away-empty setup c.args.node.member))
