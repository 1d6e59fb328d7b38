use Rattle.std.proofs.Common.{◌≡◌, ◌++◌}
use Rattle.simplex_threads.proofs.start.queue_of.Given as goal

-- what was moved, and then what is still to come, are the items
abbrev pub invariant-loop-item : goal.invariant-loop-item
invariant-loop-item g l = l.queue.items ++ l.item-iterator.rest.items ≡ l.fn.items.items
