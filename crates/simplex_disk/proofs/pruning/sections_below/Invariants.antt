use Rattle.std.proofs.Common.{◌≡◌, ◌+◌, length}
use Rattle.simplex_disk.specs.Pruning.{count_below}
use Rattle.simplex_disk.proofs.pruning.sections_below.Given as goal

abbrev pub invariant-loop-number : goal.invariant-loop-number
invariant-loop-number l = record {
  counted : l.count + count_below l.least l.number-iterator ≡ count_below l.least l.index.entries;
  few : l.count + length l.number-iterator ≡ length l.index.entries;
}
