use Rattle.std.proofs.Common.{sym, ◌∙◌}
use Rattle.simplex_generator.proofs.Shown.{runs_shown}
use Rattle.simplex_generator.proofs.held.is_running.Goals as goal

pub returns-then-has_engine : goal.returns-then-has_engine
returns-then-has_engine c = λ number before stands.
    c.is_some.ensures
    ∙ runs_shown (λ engine. engine.now) c.args.network.now number c.args.node before c.engine.result c.engine.ensures c.requires
    (sym (c.has_engine.ensures number) ∙ c.if-has_engine.true) stands
