use Rattle.std.proofs.Common.{◌≡◌, map, take}
use Rattle.simplex_ledger.specs.Book.{step_of}
use Rattle.simplex_ledger.proofs.ledger.steps_of.Given as goal

abbrev pub invariant-loop-entry : goal.invariant-loop-entry
invariant-loop-entry l = l.steps.items ≡ map (step_of l.blocks) (take l.entry-index l.log)
