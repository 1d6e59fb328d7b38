use Rattle.std.proofs.Common.{sym, ◌∙◌}
use Rattle.simplex_network.proofs.Acting.{act-input}
use Rattle.simplex_network.proofs.Lending.{may-lend, may-still, lends-given, lends-barred}
use Rattle.simplex_network.proofs.network.Network.lend.Goals.{in-Ok, in-Err}
use Rattle.simplex_network.proofs.network.Network.lend.Goals as goal

pub prepare-requires-clause-exists : goal.prepare-requires-clause-exists
prepare-requires-clause-exists c = may-lend _ _ _ c.requires (sym c.node_stepped.ensures ∙ c.in-Some.is)

pub lend_host-requires-clause-exists : goal.lend_host-requires-clause-exists
lend_host-requires-clause-exists c = may-lend _ _ _ c.requires (sym c.node_stepped.ensures ∙ c.in-Some.is)

pub returns-clause-lends : goal.returns-clause-lends
returns-clause-lends c =
    let steps = sym c.node_stepped.ensures ∙ c.in-Some.is in
    elim c.match-prepare.branch [
      | in-Ok w ↦ lends-given c.args.self.now _ c.args.event.now _ w.in-Ok.given _ steps (act-input c.args.event.now _ steps) (c.lend_host.ensures.stage ∙ w.stage-is) c.lend_host.ensures.now
          c.lend_host.ensures.lends c.lend_host.ensures.does w.in-Ok.ensures.is
      | in-Err w ↦ lends-barred c.args.self.now _ c.args.event.now _ w.in-Err.error _ steps (c.lend_host.ensures.stage ∙ w.stage-is) c.lend_host.ensures.lends w.in-Err.ensures.reason
    ]

pub returns-clause-same : goal.returns-clause-same
returns-clause-same c = λ other may. may-still c.args.self.now _ other c.lend_host.ensures.setup may

pub unreachable-requires : goal.unreachable-requires
unreachable-requires c = c.in_default.not-Some c.requires.node (c.node_stepped.ensures ∙ c.requires.steps)
