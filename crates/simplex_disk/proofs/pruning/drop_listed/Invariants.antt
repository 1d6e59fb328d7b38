use Rattle.std.proofs.Common.{◌≡◌, ◌+◌, ◌-◌, ◌*◌, ◌<◌, ℕ, List, None, Some, drop}
use Rattle.std.specs.List.Sorted.{IsStrictlySortedBy}
use Rattle.std.specs.Map.{keys_of}
use Rattle.std.specs.Ordering.{nat_cmp}
use Rattle.simplex_journal.specs.Journal.{pruned_first}
use Rattle.simplex_disk.specs.Calls.{Call}
use Rattle.simplex_disk.specs.Ends.{Ends, ended}
use Rattle.simplex_disk.specs.Index.{IsIndexed, sections_at}
use Rattle.simplex_disk.specs.Moments.{Always, Then}
use Rattle.simplex_disk.specs.Pruning.{LeavesPruned, count_below}
use Rattle.simplex_disk.proofs.pruning.drop_listed.Given as goal

abbrev pub invariant-loop-number : goal.invariant-loop-number
invariant-loop-number g l = record {
  so_far : (calls : List Call) → g.D.Disk.StandsFor l.fn.disk calls → IsIndexed l.fn.index.entries None calls → l.fn.leaving ≡ None
      → Then (g.D.Disk.StandsFor l.disk) (Always (LeavesPruned l.least (sections_at calls l.fn.index.entries) None calls) calls)
      (λ now. IsIndexed l.index.entries None now × (l.leaving ≡ None) × (sections_at now l.index.entries ≡ pruned_first l.number-index l.least (sections_at calls l.fn.index.entries)));
  none : l.fn.leaving ≡ None → l.leaving ≡ None;
  left : drop l.number-index l.numbers ≡ keys_of l.index.entries;
  rising : IsStrictlySortedBy nat_cmp (keys_of l.index.entries);
  fewer : count_below l.least l.fn.index.entries ≡ l.number-index + count_below l.least l.index.entries;
  paced : (named : ℕ) → 0 < named → g.D.Disk.order l.fn.disk ≡ Some (2 * named)
      → (l.number-index < named) × (g.D.Disk.order l.disk ≡ Some (2 * (named - l.number-index)));
  ends : Ends (g.D.Disk.fault_count l.fn.disk) (g.D.Disk.order l.fn.disk) ended (g.D.Disk.fault_count l.disk) (g.D.Disk.order l.disk);
}
