use Rattle.std.proofs.Common.{◌≡◌, ◌++◌, length}
use Rattle.std.specs.Prelude.{string_bytes}
use Rattle.simplex_trace.specs.Trace.{lines_of}
use Rattle.simplex_trace.proofs.telling.lines.Given as goal

abbrev pub invariant-loop-deeds : goal.invariant-loop-deeds
invariant-loop-deeds l = string_bytes l.text ++ lines_of l.deeds l.made ≡ lines_of l.events l.entries

abbrev pub decreases-loop-deeds : goal.decreases-loop-deeds
decreases-loop-deeds l = length l.deeds
