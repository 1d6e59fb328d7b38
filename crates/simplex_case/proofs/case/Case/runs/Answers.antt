use Rattle.simplex_case.proofs.Casing.{desk-found}
use Rattle.simplex_case.proofs.case.Case.runs.Goals as goal

pub returns-in-Some : goal.returns-in-Some
returns-in-Some c =
    λ prior before stand exists. (desk-found c.args.self.now c.args.setup.now prior before c.args.node c.in-Some.desk.now stand exists c.in-Some.ensures).runs
