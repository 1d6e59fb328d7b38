use Rattle.simplex_network.proofs.cut.has_packet.Goals as goal

pub returns-in-Deliver : goal.returns-in-Deliver
returns-in-Deliver c = λ setup before stand. rw c.in-Deliver.is (c.has_packet.ensures setup before stand)
