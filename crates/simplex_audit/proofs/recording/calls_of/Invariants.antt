use Rattle.std.proofs.Common.{◌≡◌, map, take}
use Rattle.model_audit.specs.Record.{call_of}
use Rattle.simplex_audit.proofs.recording.calls_of.Given as goal

abbrev pub invariant-loop-call : goal.invariant-loop-call
invariant-loop-call l = l.told.items ≡ map call_of (take l.call-index l.calls)
