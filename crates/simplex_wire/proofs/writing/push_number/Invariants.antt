use Rattle.std.proofs.Common.{◌≡◌, ◌++◌}
use Rattle.simplex_wire.specs.Number.{varint}
use Rattle.simplex_wire.proofs.writing.push_number.Given as goal

abbrev pub invariant-loop-rest : goal.invariant-loop-rest
invariant-loop-rest l = l.out.items ++ varint l.rest ≡ l.fn.out.items ++ varint l.number

abbrev pub decreases-loop-rest : goal.decreases-loop-rest
decreases-loop-rest l = l.rest
