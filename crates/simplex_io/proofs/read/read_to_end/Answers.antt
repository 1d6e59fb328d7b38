-- How much was taken where the reading loop ends with an error.
use Rattle.std.proofs.Common.{arith}
use Rattle.simplex_io.proofs.Taken.{over_by, within_by}
use Rattle.simplex_io.proofs.read.read_to_end.Goals as goal

pub returns-then-len-limit-clause-too_long : goal.returns-then-len-limit-clause-too_long
returns-then-len-limit-clause-too_long g c = λ _. over_by _ _ _ _ _ _ c.loop-input.invariant.taken c.in_ok-bytes.ensures.bytes (omega arith)

pub returns-then-len-limit-clause-one_past : goal.returns-then-len-limit-clause-one_past
returns-then-len-limit-clause-one_past g c = within_by _ _ _ _ _ _ c.loop-input.invariant.taken c.in_ok-bytes.ensures.bytes (omega (arith, c.in_ok-bytes.ensures.few))

pub returns-in_err-map_err-clause-not_too_long : goal.returns-in_err-map_err-clause-not_too_long
returns-in_err-map_err-clause-not_too_long g c = λ _. within_by _ _ _ _ _ _ c.loop-input.invariant.taken c.in_ok-bytes.ensures.bytes (omega arith)

pub returns-in_err-map_err-clause-one_past : goal.returns-in_err-map_err-clause-one_past
returns-in_err-map_err-clause-one_past g c = within_by _ _ _ _ _ _ c.loop-input.invariant.taken c.in_ok-bytes.ensures.bytes (omega arith)
