use Rattle.std.proofs.Common.{◌≡◌, length}
use Rattle.simplex_records.proofs.Asked.{AreNew}
use Rattle.simplex_records.proofs.records.blank_desks.Given as goal

abbrev pub invariant-loop : goal.invariant-loop
invariant-loop l = (length l.desks.items ≡ l.counter) × AreNew l.desks.items
