use Rattle.std.proofs.Common.{refl}
use Rattle.simplex_records.proofs.records.Records.enter.Goals as goal

pub returns-clause-stands : goal.returns-clause-stands
returns-clause-stands c = rw c.entry_of.ensures (c.in_ok-packets.ensures.stands _ refl refl refl refl)
