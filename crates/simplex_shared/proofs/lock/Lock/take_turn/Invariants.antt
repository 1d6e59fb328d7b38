use Rattle.std.proofs.Common.{◌≡◌}
use Rattle.simplex_shared.specs.Lock.{Waits}
use Rattle.simplex_shared.proofs.lock.Lock.take_turn.Given as goal

abbrev pub invariant-loop : goal.invariant-loop
invariant-loop g l = record { own : l.seat.table_id ≡ l.fn.seat.table_id; waits : Waits l.fn.seat.me.0 l.ticket l.seat.me }
