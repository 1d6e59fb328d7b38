use Rattle.std.proofs.Common.{◌≡◌}
use Rattle.simplex_journal.specs.Journal.{pruned_first}
use Rattle.simplex_journal.specs.Memory.{sections_of}
use Rattle.simplex_journal.proofs.sections.drop_first.Given as goal

abbrev pub invariant-loop-left : goal.invariant-loop-left
invariant-loop-left l = pruned_first l.left l.least (sections_of l.sections.entries) ≡ pruned_first l.count l.least (sections_of l.initial.sections.entries)

abbrev pub decreases-loop-left : goal.decreases-loop-left
decreases-loop-left l = l.left
