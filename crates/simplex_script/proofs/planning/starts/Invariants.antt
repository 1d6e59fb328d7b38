use Rattle.std.proofs.Common.{◌≡◌, ◌++◌, length}
use Rattle.simplex_script.specs.Planning.{starts}
use Rattle.simplex_script.proofs.planning.starts.Given as goal

abbrev pub invariant-loop-rest : goal.invariant-loop-rest
invariant-loop-rest l = l.events.items ++ starts l.stop l.rest ≡ starts l.stop l.nodes

abbrev pub decreases-loop-rest : goal.decreases-loop-rest
decreases-loop-rest l = length l.rest
