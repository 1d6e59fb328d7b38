use Rattle.std.proofs.Common.{refl, arith}
use Rattle.simplex_case.proofs.Casing.{case-new}
use Rattle.simplex_case.proofs.case.Case.new.Goals as goal

pub returns : goal.returns
returns c =
    case-new _ c.args.setup.now refl (omega (arith, c.in_ok-blank_desks.ensures.count, c.len.ensures)) c.in_ok-blank_desks.ensures.stand
    c.new.ensures c.new-2.ensures c.in_ok-blank_votes.ensures
