use Rattle.std.proofs.Common.{◌<◌, ◌^◌, length}
use Rattle.simplex_disk.proofs.Measures.{Front}
use Rattle.simplex_disk.proofs.mending.measure.Given as goal

abbrev pub invariant-loop-behind : goal.invariant-loop-behind
invariant-loop-behind l = record { front : Front l.bytes l.rest l.count; small : length l.bytes < 2 ^ 64 }

abbrev pub decreases-loop-behind : goal.decreases-loop-behind
decreases-loop-behind l = length l.rest
