use Rattle.std.proofs.Common.{◌≤◌, ◌-◌, drop, length}
use Rattle.model_run.specs.Setting.{at_epoch_genesis}
use Rattle.simplex_run.proofs.Runs.{Ran}
use Rattle.simplex_par.proofs.run.run_all.Given as goal

abbrev pub invariant-loop-next : goal.invariant-loop-next
invariant-loop-next g l = (l.next ≤ length l.events) × Ran l.network (at_epoch_genesis l.setup) l.events (drop l.next l.events) l.entries l.next

abbrev pub decreases-loop-next : goal.decreases-loop-next
decreases-loop-next g l = length l.events - l.next
