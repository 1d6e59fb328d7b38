use Rattle.std.proofs.Common.{◌≡◌, length}
use Rattle.simplex_lab.specs.Lines.{occurs}
use Rattle.simplex_lab.proofs.shrinking.occurs.Given as goal

abbrev pub invariant-loop-rest : goal.invariant-loop-rest
invariant-loop-rest l = occurs l.wanted l.rest ≡ occurs l.wanted l.text

abbrev pub decreases-loop-rest : goal.decreases-loop-rest
decreases-loop-rest l = length l.rest
