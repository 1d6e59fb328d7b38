use Rattle.std.proofs.Common.{length}
use Rattle.simplex_scripts.proofs.Holding.{LeftOf}
use Rattle.simplex_scripts.proofs.coming.next_step.Given as goal

abbrev pub invariant-loop-rest : goal.invariant-loop-rest
invariant-loop-rest l = LeftOf l.network l.now l.among l.rest l.nodes

abbrev pub decreases-loop-rest : goal.decreases-loop-rest
decreases-loop-rest l = length l.rest
