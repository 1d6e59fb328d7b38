use Rattle.std.proofs.Common.{◌≡◌, ◌++◌, drop}
use Rattle.simplex_batcher.proofs.marks.views_of.Given as goal

abbrev pub invariant-loop-number : goal.invariant-loop-number
invariant-loop-number l = l.views.items ++ drop l.number-index l.numbers ≡ l.numbers
