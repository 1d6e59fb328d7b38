use Rattle.std.proofs.Common.{sym, subst}
use Rattle.model_steps.specs.Voter.{started}
use Rattle.model_run.specs.Members.{floor_of}
use Rattle.simplex_reader.specs.Failing.{ArePrunedBy}
use Rattle.simplex_reader.proofs.StartCalls.{start_pruned}
use Rattle.simplex_reader.proofs.starting.prune_at_start.Goals as goal

pub returns : goal.returns
returns c = λ made genesis now k.
    subst (ArePrunedBy (started made now (floor_of genesis c.args.floor.now) c.args.records.now).calls) (sym c.prune_above.ensures)
    (start_pruned made now genesis c.args.floor.now c.args.records.now c.keeping_calls.result c.least_active-least.result
    c.keeping_calls.ensures.calls (c.least_active-least.ensures made _ k))
