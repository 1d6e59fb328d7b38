use Rattle.std.proofs.Common.{◌≡◌}
use Rattle.std.specs.Prelude.{filter}
use Rattle.model_faults.specs.Equivocator.{others_than}
use Rattle.simplex_mocks.proofs.Without.{is_not}
use Rattle.simplex_mocks.proofs.others.others_but.Given as goal

abbrev pub invariant-loop-member : goal.invariant-loop-member
invariant-loop-member l = l.others ≡ filter (is_not l.fn.victim) (others_than l.member l.fn.me)
