use Rattle.std.proofs.Common.{◌∙◌}
use Rattle.simplex_records.proofs.Keeping.{desk-of}
use Rattle.simplex_records.proofs.records.Records.request_number.Goals as goal

pub returns : goal.returns
returns c =
    λ setup before stand. c.number.ensures
    ∙ (desk-of _ setup before c.args.node _ stand c.requires.half c.requires.seat (rw c.seat_of-seat.ensures at c.index.ensures)).number c.args.at
