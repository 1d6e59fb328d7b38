use Rattle.std.proofs.Common.{◌≡◌, ◌++◌, map}
use Rattle.std.specs.Vec.Iter.{into_iter_items}
use Rattle.simplex_messages.specs.declared.call.Call.TheVariants.{Report}
use Rattle.simplex_batcher.proofs.work.report_each.Given as goal

abbrev pub invariant-loop-activity : goal.invariant-loop-activity
invariant-loop-activity l =
    l.made.items ++ map Report (into_iter_items l.activity-iterator) ≡ l.fn.calls ++ map Report l.fn.reports
