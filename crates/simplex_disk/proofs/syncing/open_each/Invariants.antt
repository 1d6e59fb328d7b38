use Rattle.std.proofs.Common.{◌≡◌, ℕ, List, length, Option, Some}
use Rattle.simplex_disk.specs.Calls.{Call}
use Rattle.simplex_disk.specs.Ends.{Ends, ended}
use Rattle.simplex_disk.specs.Index.{IsIndexed, LeavesJournal, sections_at}
use Rattle.simplex_disk.specs.Moments.{Always, Then}
use Rattle.simplex_disk.proofs.Syncs.{OpenedBut}
use Rattle.simplex_disk.proofs.syncing.open_each.Given as goal

abbrev pub invariant-loop-number : goal.invariant-loop-number
invariant-loop-number g l = record {
  so_far : (calls : List Call) → g.D.Disk.StandsFor l.fn.disk calls → (leaving : Option ℕ) → IsIndexed l.index.entries leaving calls
      → Then (g.D.Disk.StandsFor l.disk) (Always (LeavesJournal (sections_at calls l.index.entries) leaving calls) calls)
      (λ now. IsIndexed l.index.entries leaving now × (sections_at now l.index.entries ≡ sections_at calls l.index.entries) × OpenedBut l.number-iterator l.index.entries now);
  first : g.D.Disk.order l.fn.disk ≡ Some 1 → (g.D.Disk.order l.disk ≡ Some 1) × (length l.number-iterator ≡ length l.index.entries);
  ends : Ends (g.D.Disk.fault_count l.fn.disk) (g.D.Disk.order l.fn.disk) ended (g.D.Disk.fault_count l.disk) (g.D.Disk.order l.disk);
}
