use Rattle.std.proofs.Common.{drop}
use Rattle.model_run.specs.Setting.{setting_of}
use Rattle.simplex_run.proofs.Runs.{Ran}
use Rattle.simplex_run.proofs.run.run_all.Given as goal

abbrev pub invariant-loop-event : goal.invariant-loop-event
invariant-loop-event l = Ran l.network (setting_of l.setup l.fn.genesis) l.events (drop l.event-index l.events) l.entries l.number
