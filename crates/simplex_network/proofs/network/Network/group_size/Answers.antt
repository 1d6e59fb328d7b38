use Rattle.std.proofs.lemmas.Result.{IfOk-weaker}
use Rattle.simplex_network.proofs.Lending.{lendable-may, cut-groups}
use Rattle.simplex_network.proofs.network.Network.group_size.Goals as goal

pub returns-clause-each : goal.returns-clause-each
returns-clause-each c = IfOk-weaker c.group_size.result _ _ (λ size each. lendable-may c.args.self.now _ each) c.group_size.ensures.each

pub returns-clause-group : goal.returns-clause-group
returns-clause-group c = IfOk-weaker c.group_size.result _ _ (λ size cut. cut-groups c.args.self.now _ size cut) c.group_size.ensures.group
