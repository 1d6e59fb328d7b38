use Rattle.std.proofs.Common.{◌≡◌, ◌++◌, length}
use Rattle.simplex_script.specs.Planning.{verdicts}
use Rattle.simplex_script.proofs.planning.verdicts.Given as goal

abbrev pub invariant-loop-rest : goal.invariant-loop-rest
invariant-loop-rest l = l.events.items ++ verdicts l.question l.whom l.good l.rest ≡ verdicts l.question l.whom l.good l.open

abbrev pub decreases-loop-rest : goal.decreases-loop-rest
decreases-loop-rest l = length l.rest
