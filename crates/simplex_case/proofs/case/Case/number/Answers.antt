use Rattle.std.proofs.Common.{◌∙◌}
use Rattle.simplex_case.proofs.Casing.{number-none, number-some}
use Rattle.simplex_case.proofs.case.Case.number.Goals as goal

pub returns-in_err-desk_of : goal.returns-in_err-desk_of
returns-in_err-desk_of c =
    λ prior before stand. c.from_residual.ensures ∙ number-none c.args.self.now c.args.setup.now prior before c.args.node c.args.at stand c.in_err-desk_of.ensures

pub returns : goal.returns
returns c =
    λ prior before stand. c.number.ensures
    ∙ number-some c.args.self.now c.args.setup.now prior before c.args.node c.args.at c.in_ok-desk_of.field-0.now stand c.in_ok-desk_of.ensures
