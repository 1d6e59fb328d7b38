use Rattle.std.proofs.Common.{◌≡◌, ◌++◌, map, take, drop}
use Rattle.simplex_messages.proofs.by_view.change_each.Given as goal

abbrev pub invariant-loop-queued : goal.invariant-loop-queued
invariant-loop-queued g l =
    l.queued-items ≡ map (g.M.ByView.changed_by l.message) (take l.queued-index l.fn.rest.items) ++ drop l.queued-index l.fn.rest.items
