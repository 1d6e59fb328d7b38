use Rattle.std.proofs.Common.{◌≡◌, ◌<◌, ◌^◌, ℕ, List, Option, Some}
use Rattle.simplex_disk.specs.Answers.{OrderStands}
use Rattle.simplex_disk.specs.Calls.{Call}
use Rattle.simplex_disk.specs.Contents.{Any}
use Rattle.simplex_disk.specs.Index.{IsIndexed, IsBackAsBefore}
use Rattle.simplex_disk.specs.Moments.{Then}
use Rattle.simplex_disk.specs.Opening.{IsSettled}
use Rattle.simplex_disk.specs.Stopping.{crashed_lists, IsNext}
use Rattle.simplex_disk.proofs.Each.{Done}
use Rattle.simplex_disk.proofs.Crashes.{left_of}
use Rattle.simplex_disk.proofs.stopping.crash.Given as goal

abbrev pub invariant-loop-next : goal.invariant-loop-next
invariant-loop-next g l = record {
  stops : (calls : List Call) → g.D.Disk.StandsFor l.fn.disk calls → (leaving : Option ℕ) → IsIndexed l.fn.index.entries leaving calls
      → Then (g.D.Disk.StandsFor l.disk) Any (λ now. IsIndexed l.index.entries leaving now × IsSettled now
      × ((b : ℕ) × Done (crashed_lists l.keep) b calls now l.fn.index.entries l.index.entries × IsNext l.index.entries b l.next) × IsBackAsBefore leaving calls now);
  small : (n : ℕ) → l.next ≡ Some n → n < 2 ^ 64;
  faults : g.D.Disk.fault_count l.disk ≡ g.D.Disk.fault_count l.fn.disk;
  order : OrderStands (g.D.Disk.order l.fn.disk) (g.D.Disk.order l.disk);
}

abbrev pub decreases-loop-next : goal.decreases-loop-next
decreases-loop-next g l = left_of l.next
