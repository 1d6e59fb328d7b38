use Rattle.std.proofs.Common.{◌≡◌, ◌++◌, filter_map, drop}
use Rattle.example_monitor.specs.Accusations.{accusation_by}
use Rattle.example_monitor.proofs.accusation.accuse.Given as goal

abbrev pub invariant-loop-call : goal.invariant-loop-call
invariant-loop-call l =
    l.found.items ++ filter_map (accusation_by l.entry.event) (drop l.call-index l.entry.calls)
    ≡ l.fn.found.items ++ filter_map (accusation_by l.entry.event) l.entry.calls
