use Rattle.std.proofs.Common.{◌≡◌}
use Rattle.model_steps.specs.Performed.{after_calls}
use Rattle.simplex_stored.proofs.Order.{so_far}
use Rattle.simplex_stored.proofs.stored.Stored.take_calls.Given as goal

abbrev pub invariant-loop-call : goal.invariant-loop-call
invariant-loop-call l = l.self ≡ after_calls (so_far l.calls l.call-index) l.initial.self
