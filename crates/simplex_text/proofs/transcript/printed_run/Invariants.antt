-- What was added, with the lines of the events and entries that are left, makes the whole.
use Rattle.std.proofs.Common.{◌≡◌, ◌++◌, length, string_bytes}
use Rattle.simplex_text.specs.Lines.{PrintedRun}
use Rattle.simplex_text.proofs.transcript.printed_run.Given as goal

abbrev pub invariant-loop-rest : goal.invariant-loop-rest
invariant-loop-rest l = string_bytes l.text ++ PrintedRun l.rest l.entries ≡ PrintedRun l.events l.initial.entries

abbrev pub decreases-loop-rest : goal.decreases-loop-rest
decreases-loop-rest l = length l.rest
