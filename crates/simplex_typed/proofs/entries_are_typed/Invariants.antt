use Rattle.std.proofs.Common.{take}
use Rattle.law_run.specs.Sayings.{Each}
use Rattle.law_run.specs.Fitting.{IsTyped}
use Rattle.simplex_typed.proofs.entries_are_typed.Given as goal

abbrev pub invariant-loop-entry : goal.invariant-loop-entry
invariant-loop-entry l = Each IsTyped (take l.entry-index l.entries)
