use Rattle.std.proofs.Common.{sym, ◌∙◌}
use Rattle.simplex_scripts.proofs.Holding.{engine_hears, other_hears}
use Rattle.simplex_scripts.proofs.coming.hears.Goals as goal

pub returns-then-runs_engine : goal.returns-then-runs_engine
returns-then-runs_engine c =
    engine_hears (λ engine. engine.now) c.args.network.now c.args.setup.now c.args.node c.engine.result c.is_some.result
    (sym c.runs_engine.ensures ∙ c.if-runs_engine.true) c.engine.ensures c.is_some.ensures

pub returns-else-runs_engine : goal.returns-else-runs_engine
returns-else-runs_engine c = λ setting before stands same.
    other_hears c.args.setup.now c.args.node c.only_hears.result (sym c.runs_engine.ensures ∙ c.if-runs_engine.false) c.only_hears.ensures
    c.args.network.now setting before stands same
