use Rattle.std.proofs.Common.{◌≡◌}
use Rattle.simplex_par.proofs.Lent.{Lent}
use Rattle.simplex_par.proofs.group.lend_all.Given as goal

abbrev pub invariant-loop-event : goal.invariant-loop-event
invariant-loop-event l = (l.place ≡ l.event-index) × Lent l.initial.network l.network l.group l.event-index l.workers l.lanes.items
