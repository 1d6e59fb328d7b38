use Rattle.std.proofs.Common.{take}
use Rattle.simplex_ledger.specs.Book.{AreSound}
use Rattle.simplex_ledger.proofs.blocks.Blocks.covers.Given as goal

abbrev pub invariant-loop-entry : goal.invariant-loop-entry
invariant-loop-entry l = AreSound l.self (take l.entry-index l.log)
