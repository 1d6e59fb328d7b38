use Rattle.simplex_network.proofs.ManyHosts.{hosts-set}
use Rattle.simplex_network.proofs.hosts.Hosts.put.Goals as goal

pub returns-clause-stands : goal.returns-clause-stands
returns-clause-stands c = λ setup parts part stand does. rw c.seat_of-at.ensures (hosts-set setup _ parts c.args.node _ _ c.requires.0 stand does)
