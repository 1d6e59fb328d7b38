-- What was added, with the lines of the calls that are left, makes the whole.
use Rattle.std.proofs.Common.{◌≡◌, ◌++◌, length, string_bytes}
use Rattle.std.specs.List.{flat_map}
use Rattle.simplex_text.specs.Lines.{call_line_of}
use Rattle.simplex_text.proofs.lines.push_calls.Given as goal

abbrev pub invariant-loop-rest : goal.invariant-loop-rest
invariant-loop-rest l = string_bytes l.text ++ flat_map (call_line_of l.event l.node) l.rest ≡ string_bytes l.initial.text ++ flat_map (call_line_of l.event l.node) l.calls

abbrev pub decreases-loop-rest : goal.decreases-loop-rest
decreases-loop-rest l = length l.rest
