use Rattle.std.proofs.Common.{◌≡◌, ◌++◌}
use Rattle.simplex_journal.specs.Journal.{replayed}
use Rattle.simplex_journal.specs.Memory.{sections_of}
use Rattle.simplex_journal.proofs.sections.copies_of.Given as goal

abbrev pub invariant-loop-lists : goal.invariant-loop-lists
invariant-loop-lists l = l.copies.items ++ replayed (sections_of l.lists-iterator) ≡ replayed (sections_of l.sections.entries)
