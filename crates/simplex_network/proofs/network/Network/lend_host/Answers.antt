use Rattle.std.proofs.Common.{refl}
use Rattle.simplex_network.proofs.Lending.{keeps-lent, lent-does}
use Rattle.simplex_network.proofs.network.Network.lend_host.Goals as goal

pub returns-clause-lends : goal.returns-clause-lends
returns-clause-lends c = λ setting before lent s. keeps-lent c.args.self.now _ setting before c.args.node lent refl refl refl refl refl c.lend.ensures.stands s

pub returns-clause-does : goal.returns-clause-does
returns-clause-does c = λ setting before lent free s. lent-does c.args.self.now setting before c.args.node lent _ free c.lend.ensures.host s
