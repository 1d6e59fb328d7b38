use Rattle.std.proofs.Common.{sym}
use Rattle.simplex_case.proofs.Casing.{pending-none, pending-some}
use Rattle.simplex_case.proofs.case.Case.is_pending.Goals as goal

pub returns-in-None : goal.returns-in-None
returns-in-None c = λ before stand exists. pending-none before c.args.node c.args.at c.args.answer.now (c.in-None.ensures c.args.prior.now before stand)

pub returns-in-Some : goal.returns-in-Some
returns-in-Some c =
    λ before stand exists. pending-some before c.args.node c.args.at c.args.answer.now c.in-Some.number _ (c.in-Some.ensures c.args.prior.now before stand)
    (c.is_open.ensures before stand exists (sym (c.in-Some.ensures c.args.prior.now before stand)))
