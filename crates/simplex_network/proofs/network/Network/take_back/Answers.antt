use Rattle.std.proofs.Common.{refl}
use Rattle.simplex_network.proofs.Places.{node-member, node-half}
use Rattle.simplex_network.proofs.Lending.{back-rests, back-entered, back-adds, came-made, came-refused}
use Rattle.simplex_network.proofs.network.Network.take_back.Goals as goal

pub returns-in-Refused-clause-stays : goal.returns-in-Refused-clause-stays
returns-in-Refused-clause-stays c =
    λ whole setting before lent life given free s comes.
    back-rests c.args.self.now _ setting before c.args.node lent _ life free refl refl refl refl refl s comes.lives
    (came-refused setting before c.args.node life given c.args.task _ comes c.in-Refused.is whole).stands c.put.ensures.stands

pub returns-clause-entry : goal.returns-clause-entry
returns-clause-entry c =
    λ setting before event life given s comes.
    back-entered c.args.self.now setting before event c.args.node life given _ _ _ _ s comes.now (came-made setting before c.args.node life given c.args.task _ comes c.in-Made.is) c.in_ok-entry.ensures.entry

pub returns-clause-stands : goal.returns-clause-stands
returns-clause-stands c =
    λ setting before lent event noted life given free s is comes on.
    let came = came-made setting before c.args.node life given c.args.task _ comes c.in-Made.is in
    back-adds c.args.self.now _ setting before event noted c.args.node lent life given _ _ _ _ (node-half c.args.self.now.setup c.args.node c.requires.exists)
    (rw s.remembers.given at (node-member c.args.self.now.setup c.args.node c.requires.exists)) free refl refl refl refl s comes.lives comes.now is came on
    (back-entered c.args.self.now setting before event c.args.node life given _ _ _ _ s.remembers comes.now came c.in_ok-entry.ensures.entry)
    c.put.ensures.stands c.in_ok-entry.ensures.stands
