use Rattle.std.proofs.Common.{◌≡◌, ◌-◌}
use Rattle.simplex_wire.specs.Message.{attestations_from}
use Rattle.simplex_wire.proofs.Lists.{with_front}
use Rattle.simplex_wire.proofs.reading.Reader.attestations.Given as goal

abbrev pub invariant-loop : goal.invariant-loop
invariant-loop l = with_front l.attestations.items (attestations_from (l.count - l.counter) l.least l.self) ≡ attestations_from l.count 0 l.fn.self
