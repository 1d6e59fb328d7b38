use Rattle.std.proofs.Common.{◌≡◌, length}
use Rattle.std.specs.Prelude.{find}
use Rattle.simplex_scripts.specs.Coming.{wants_verdict_among}
use Rattle.simplex_scripts.proofs.coming.next_verdict.Given as goal

abbrev pub invariant-loop-rest : goal.invariant-loop-rest
invariant-loop-rest l = find (wants_verdict_among l.among) l.rest ≡ find (wants_verdict_among l.among) l.«open»

abbrev pub decreases-loop-rest : goal.decreases-loop-rest
decreases-loop-rest l = length l.rest
