use Rattle.std.proofs.Common.{take, false}
use Rattle.std.specs.List.{flat_map}
use Rattle.simplex_conflicts.specs.Standing.{TakesIn, in_call}
use Rattle.simplex_conflicts.proofs.standing.Standing.take_calls.Given as goal

abbrev pub invariant-loop-call : goal.invariant-loop-call
invariant-loop-call l = TakesIn l.fn.self l.self (flat_map in_call (take l.call-index l.calls)) false
