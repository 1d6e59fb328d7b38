use Rattle.simplex_network.proofs.ManyHosts.{hosts-at, hosts-set}
use Rattle.simplex_network.proofs.hosts.Hosts.start.Goals as goal

pub returns-clause-gives : goal.returns-clause-gives
returns-clause-gives c =
    λ setup parts life stand does. c.in_ok-outcome.ensures.gives setup _ life (hosts-at setup _ parts c.args.node _ _ stand c.requires.seat (rw c.seat_of-at.ensures at c.index_mut.ensures.value) does)

pub returns-clause-stands : goal.returns-clause-stands
returns-clause-stands c =
    λ setup parts life stand does. rw c.seat_of-at.ensures (hosts-set setup _ parts c.args.node _ _ c.requires.seat.0 stand
    (c.in_ok-outcome.ensures.stands setup _ life (hosts-at setup _ parts c.args.node _ _ stand c.requires.seat (rw c.seat_of-at.ensures at c.index_mut.ensures.value) does)))
