use Rattle.std.proofs.Common.{◌∙◌}
use Rattle.simplex_case.proofs.Casing.{desk-found}
use Rattle.simplex_case.proofs.case.Case.was_dropped.Goals as goal

pub returns-in-Some : goal.returns-in-Some
returns-in-Some c =
    λ prior before stand exists some within. c.drops_since.ensures
    ∙ (desk-found c.args.self.now c.args.setup.now prior before c.args.node c.in-Some.desk.now stand exists c.in-Some.ensures).dropped c.args.event c.args.number some within
