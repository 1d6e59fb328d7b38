use Rattle.simplex_twins.proofs.Odometer.{IsReset}
use Rattle.simplex_twins.proofs.scenarios.advance.Given as goal

-- the rounds behind the place are the first again, and none was behind theirs
abbrev pub invariant-loop-place : goal.invariant-loop-place
invariant-loop-place l = IsReset l.participants l.initial.rounds l.rounds l.place

abbrev pub decreases-loop-place : goal.decreases-loop-place
decreases-loop-place l = l.place
