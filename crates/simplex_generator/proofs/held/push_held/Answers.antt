use Rattle.std.proofs.lemmas.Result.{on_ok_weaker}
use Rattle.simplex_generator.proofs.Shown.{held_none, held_some}
use Rattle.simplex_generator.proofs.held.push_held.Goals as goal

pub returns-in-None : goal.returns-in-None
returns-in-None c = held_none c.args.network.now c.args.node c.args.held.now.items c.args.now c.in-None.ensures c.requires

pub returns-in-Some : goal.returns-in-Some
returns-in-Some c =
    on_ok_weaker c.push_sources.result
    (held_some c.args.network.now c.args.node c.in-Some.engine.now c.args.held.now.items c.push_sources.new.held.items c.args.now c.in-Some.ensures c.requires)
    c.push_sources.ensures
