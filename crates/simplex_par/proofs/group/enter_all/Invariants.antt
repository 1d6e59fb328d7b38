use Rattle.std.proofs.Common.{◌≡◌, ◌+◌, length}
use Rattle.simplex_par.proofs.Entering.{Going}
use Rattle.simplex_par.proofs.group.enter_all.Given as goal

abbrev pub invariant-loop-event : goal.invariant-loop-event
invariant-loop-event l =
    (l.place ≡ l.event-index) × (l.number ≡ l.first + l.event-index) × (length l.lanes.items ≡ length l.initial.lanes.items)
    × Going l.initial.network l.network l.group l.event-index l.initial.lanes.items l.lanes.items l.initial.entries l.entries
