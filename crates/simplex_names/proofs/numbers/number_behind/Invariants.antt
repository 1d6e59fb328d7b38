use Rattle.std.proofs.Common.{◌≡◌, length}
use Rattle.simplex_names.specs.Numbers.{number_behind}
use Rattle.simplex_names.proofs.numbers.number_behind.Given as goal

abbrev pub invariant-loop-rest : goal.invariant-loop-rest
invariant-loop-rest l = number_behind l.number l.rest ≡ number_behind l.initial.number l.digits

abbrev pub decreases-loop-rest : goal.decreases-loop-rest
decreases-loop-rest l = length l.rest
