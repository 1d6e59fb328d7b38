use Rattle.std.proofs.Common.{◌≡◌, ◌+◌, length}
use Rattle.simplex_generator.specs.Summary.{finalized_in}
use Rattle.simplex_generator.proofs.sums.finalized_in.Given as goal

abbrev pub invariant-loop-rest : goal.invariant-loop-rest
invariant-loop-rest l = l.count + finalized_in l.rest ≡ finalized_in l.entries

abbrev pub decreases-loop-rest : goal.decreases-loop-rest
decreases-loop-rest l = length l.rest
