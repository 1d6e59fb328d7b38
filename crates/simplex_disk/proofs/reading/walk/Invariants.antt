use Rattle.std.proofs.Common.{◌≡◌, ◌++◌}
use Rattle.simplex_disk.specs.Chain.{walked}
use Rattle.simplex_disk.proofs.reading.walk.Given as goal

abbrev pub invariant-loop-left : goal.invariant-loop-left
invariant-loop-left l = l.records.items ++ walked l.left l.rest ≡ l.fn.records.items ++ walked l.count l.bytes

abbrev pub decreases-loop-left : goal.decreases-loop-left
decreases-loop-left l = l.left
