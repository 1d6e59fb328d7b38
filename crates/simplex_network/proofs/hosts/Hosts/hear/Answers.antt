use Rattle.simplex_network.proofs.ManyHosts.{hosts-at, hosts-set, hosts-kept}
use Rattle.simplex_network.proofs.hosts.Hosts.hear.Goals as goal

pub returns-clause-sends : goal.returns-clause-sends
returns-clause-sends c =
    λ setup parts past stand does. c.in_ok-sent.ensures.sends setup _ past (hosts-at setup _ parts c.args.node _ _ stand c.requires (rw c.seat_of-at.ensures at c.index_mut.ensures.value) does)

pub returns-clause-stands : goal.returns-clause-stands
returns-clause-stands c =
    λ setup parts past stand does. rw c.seat_of-at.ensures (hosts-set setup _ parts c.args.node _ _ c.requires.0 stand
    (c.in_ok-sent.ensures.stands setup _ past (hosts-at setup _ parts c.args.node _ _ stand c.requires (rw c.seat_of-at.ensures at c.index_mut.ensures.value) does)))

pub returns-clause-unmoved : goal.returns-clause-unmoved
returns-clause-unmoved c =
    λ setup parts past impersonates stand does. rw c.seat_of-at.ensures (hosts-kept setup _ parts c.args.node _ c.requires.0 stand
    (rw does (c.in_ok-sent.ensures.unmoved setup _ past impersonates (hosts-at setup _ parts c.args.node _ _ stand c.requires (rw c.seat_of-at.ensures at c.index_mut.ensures.value) does))))
