use Rattle.std.proofs.Common.{◌≡◌, length}
use Rattle.simplex_case.proofs.Desks.{AreNew}
use Rattle.simplex_case.proofs.taking.blank_desks.Given as goal

abbrev pub invariant-loop : goal.invariant-loop
invariant-loop l = (length l.desks.items ≡ l.counter) × AreNew l.desks.items
