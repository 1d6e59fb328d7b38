use Rattle.std.proofs.Common.{◌++◌, take}
use Rattle.simplex_messages.specs.Step.{blocked_by_calls}
use Rattle.simplex_turns.proofs.Blocked.{IsSameSet}
use Rattle.simplex_turns.proofs.blocking.note_blocks.Given as goal

abbrev pub invariant-loop-call : goal.invariant-loop-call
invariant-loop-call l = IsSameSet l.blocked.keys (blocked_by_calls (take l.call-index l.calls) ++ l.fn.blocked.keys)
