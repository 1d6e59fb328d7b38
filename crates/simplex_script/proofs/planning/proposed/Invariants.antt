use Rattle.std.proofs.Common.{◌≡◌, length}
use Rattle.simplex_script.specs.Planning.{proposed}
use Rattle.simplex_script.proofs.planning.proposed.Given as goal

abbrev pub invariant-loop-rest : goal.invariant-loop-rest
invariant-loop-rest l = proposed l.node l.payload l.rest ≡ proposed l.node l.payload l.open

abbrev pub decreases-loop-rest : goal.decreases-loop-rest
decreases-loop-rest l = length l.rest
