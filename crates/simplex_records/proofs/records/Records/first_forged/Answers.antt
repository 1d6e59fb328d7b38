use Rattle.std.proofs.Common.{◌∙◌}
use Rattle.simplex_records.proofs.Forging.{nothing-forged, forgery-found}
use Rattle.simplex_records.proofs.records.Records.first_forged.Goals as goal

pub returns-in-None : goal.returns-in-None
returns-in-None c = λ before stand. nothing-forged c.args.setup.now before c.args.packets.now (rw c.in-None.is at stand.votes)

pub returns-in_ok-found-in-Some : goal.returns-in_ok-found-in-Some
returns-in_ok-found-in-Some c =
    λ before stand. c.in_ok-found-in-Some.ensures
    ∙ forgery-found c.in-Some.votes c.args.setup.now before c.args.packets.now (rw c.in-Some.is at stand.votes)
