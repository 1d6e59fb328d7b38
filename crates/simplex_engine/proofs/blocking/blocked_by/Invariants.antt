use Rattle.std.proofs.Common.{◌≡◌, ◌++◌, drop}
use Rattle.simplex_messages.specs.Step.{blocked_by_calls}
use Rattle.simplex_engine.proofs.blocking.blocked_by.Given as goal

abbrev pub invariant-loop-call : goal.invariant-loop-call
invariant-loop-call l =
    l.members.items ++ blocked_by_calls (drop l.call-index l.calls) ≡ blocked_by_calls l.calls
