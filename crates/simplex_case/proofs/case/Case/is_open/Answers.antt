use Rattle.simplex_case.proofs.Casing.{open-is}
use Rattle.simplex_case.proofs.case.Case.is_open.Goals as goal

pub returns : goal.returns
returns c =
    λ before stand exists asks. open-is c.args.self.now c.args.setup.now c.args.prior.now before c.args.node c.args.at c.args.number c.args.answer.now _ _ _ _ stand asks c.three.ensures
    (λ some within. c.was_dropped.ensures c.args.prior.now before stand exists some within) c.contains.ensures (rw c.asked_at.ensures at c.takes.ensures)
