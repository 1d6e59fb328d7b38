use Rattle.std.proofs.Common.{◌≡◌, ◌++◌, drop}
use Rattle.example_monitor.specs.Accusations.{accusations_of}
use Rattle.example_monitor.proofs.accusation.accusations_of.Given as goal

abbrev pub invariant-loop-entry : goal.invariant-loop-entry
invariant-loop-entry l = l.found.items ++ accusations_of (drop l.entry-index l.entries) ≡ accusations_of l.entries
