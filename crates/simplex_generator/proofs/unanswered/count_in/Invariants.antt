use Rattle.std.proofs.Common.{◌≡◌, length}
use Rattle.simplex_generator.specs.Unanswered.{count_in}
use Rattle.simplex_generator.proofs.unanswered.count_in.Given as goal

abbrev pub invariant-loop-rest : goal.invariant-loop-rest
invariant-loop-rest l = count_in l.rest l.node ≡ count_in l.counts l.node

abbrev pub decreases-loop-rest : goal.decreases-loop-rest
decreases-loop-rest l = length l.rest
