use Rattle.std.proofs.Common.{sym}
use Rattle.simplex_records.proofs.Told.{told-had}
use Rattle.simplex_records.proofs.reported.Reported.add_finalization.Goals as goal

pub returns-then-contains : goal.returns-then-contains
returns-then-contains c = λ f. told-had c.args.self.now f c.args.finalization.now (sym c.if-contains.ensures)
