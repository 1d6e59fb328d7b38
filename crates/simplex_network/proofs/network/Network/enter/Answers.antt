use Rattle.std.proofs.Common.{sym, ◌∙◌}
use Rattle.simplex_network.proofs.Lending.{may-lend, may-still, enters-returns, enters-declines}
use Rattle.simplex_network.proofs.network.Network.enter.Goals as goal

pub take_back-requires-clause-exists : goal.take_back-requires-clause-exists
take_back-requires-clause-exists c = may-lend _ _ _ c.requires.lent (sym c.node_stepped.ensures ∙ c.in-Some.is)

pub returns-in-Ok-clause-stands : goal.returns-in-Ok-clause-stands
returns-in-Ok-clause-stands c =
    enters-returns c.args.self.now _ c.args.event.now c.args.task _ _ (sym c.node_stepped.ensures ∙ c.in-Some.is) c.entry_is_typed.ensures c.in-Ok.ensures.made c.in-Ok.ensures.stands c.in-Ok.ensures.entry

pub returns-in-Ok-clause-same : goal.returns-in-Ok-clause-same
returns-in-Ok-clause-same c = λ other may. may-still c.args.self.now _ other c.in-Ok.ensures.setup may

pub returns-in-Err-clause-reason : goal.returns-in-Err-clause-reason
returns-in-Err-clause-reason c = λ whole. enters-declines c.args.self.now c.args.event.now c.args.task _ whole (c.in-Err.ensures.reason whole)

pub returns-in-Err-clause-same : goal.returns-in-Err-clause-same
returns-in-Err-clause-same c = λ other may. may-still c.args.self.now _ other c.in-Err.ensures.setup may

pub unreachable-requires : goal.unreachable-requires
unreachable-requires c = c.in_default.not-Some c.requires.lent.node (c.node_stepped.ensures ∙ c.requires.lent.steps)
