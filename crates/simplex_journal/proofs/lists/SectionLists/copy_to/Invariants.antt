use Rattle.std.proofs.Common.{◌≡◌, ◌++◌, take}
use Rattle.simplex_journal.proofs.lists.SectionLists.copy_to.Given as goal

abbrev pub invariant-loop-record : goal.invariant-loop-record
invariant-loop-record l = l.copies.items ≡ l.initial.copies.items ++ take l.record-index l.record-items
