use Rattle.std.proofs.Common.{◌≡◌}
use Rattle.simplex_types.specs.Keyed.{keys_of}
use Rattle.simplex_types.proofs.keys.Keys.new.Given as goal

abbrev pub invariant-loop-member : goal.invariant-loop-member
invariant-loop-member l = l.keys.items ≡ keys_of l.base l.member
