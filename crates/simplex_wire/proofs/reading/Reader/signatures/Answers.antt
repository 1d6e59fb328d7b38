use Rattle.std.proofs.Common.{arith}
use Rattle.simplex_wire.proofs.Lists.{are_signatures}
use Rattle.simplex_wire.proofs.reading.Reader.signatures.Goals as goal

pub new-requires : goal.new-requires
new-requires c = are_signatures c.in_ok-count.count c.u32.new.self c.in_ok-attestations.attestations.items c.attestations.new.self (omega arith) c.in_ok-attestations.ensures
