use Rattle.std.proofs.Common.{◌≡◌, replicate}
use Rattle.simplex_mocks.proofs.slot.copies.Given as goal

abbrev pub invariant-loop : goal.invariant-loop
invariant-loop l = l.made.items ≡ replicate l.counter (record { payload = l.payload; contents = l.contents })
