use Rattle.std.proofs.Common.{arith}
use Rattle.simplex_wire.proofs.Numbers.{limit_above}
use Rattle.simplex_disk.proofs.reading.+number_at.Goals as goal

pub overflow_add-result : goal.overflow_add-result
overflow_add-result t c =
    let above = limit_above c.args.most c.if-most-lt128.false c.requires in
    omega (arith, above.0, c.in_ok-high.ensures.bound)

pub returns-clause-bound : goal.returns-clause-bound
returns-clause-bound t c =
    let above = limit_above c.args.most c.if-most-lt128.false c.requires in
    omega (arith, above.0, c.in_ok-high.ensures.bound)
