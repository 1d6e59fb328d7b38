use Rattle.std.proofs.Common.{◌≡◌, ◌++◌, length}
use Rattle.model_resolver.specs.Sends.{send_calls}
use Rattle.simplex_resolver.proofs.sends.Sends.call_each.Given as goal

abbrev pub invariant-loop-sent : goal.invariant-loop-sent
invariant-loop-sent l = l.calls ++ send_calls l.items.items ≡ l.fn.calls ++ send_calls l.fn.self

abbrev pub decreases-loop-sent : goal.decreases-loop-sent
decreases-loop-sent l = length l.items.items
