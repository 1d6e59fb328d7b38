use Rattle.std.proofs.Common.{◌≡◌, ◌++◌, take}
use Rattle.std.specs.Prelude.{string_bytes}
use Rattle.std.specs.List.{flat_map}
use Rattle.simplex_trace.specs.Items.{item, call_text}
use Rattle.simplex_trace.proofs.items.push_calls.Given as goal

abbrev pub invariant-loop-call : goal.invariant-loop-call
invariant-loop-call l = string_bytes l.text ≡ string_bytes l.fn.text ++ flat_map (λ call. item (call_text call)) (take l.call-index l.calls)
