use Rattle.std.proofs.Common.{sym, ◌∙◌}
use Rattle.simplex_scripts.proofs.Holding.{first_none, first_some}
use Rattle.simplex_scripts.proofs.coming.held_among.Goals as goal

pub returns-in-None : goal.returns-in-None
returns-in-None c =
    first_none c.args.network.now c.args.node c.args.now c.args.among.now (sym c.is_among.ensures ∙ c.if-not-is_among.false) c.in-None.ensures

pub returns-in-Some : goal.returns-in-Some
returns-in-Some c =
    first_some c.args.network.now c.args.node c.args.now c.args.among.now c.in-Some.engine.now c.first_held.result
    (sym c.is_among.ensures ∙ c.if-not-is_among.false) c.in-Some.ensures c.first_held.ensures
