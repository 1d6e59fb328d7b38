use Rattle.std.proofs.Common.{List}
use Rattle.simplex_disk.specs.Calls.{Call}
use Rattle.simplex_disk.specs.Ends.{Ends, ended}
use Rattle.simplex_disk.specs.Moments.{Always, Then}
use Rattle.simplex_disk.specs.Opening.{IsSettled, LeavesSame}
use Rattle.simplex_disk.proofs.Openings.{AreOpen}
use Rattle.simplex_disk.proofs.opening.open_files.Given as goal

abbrev pub invariant-loop-number : goal.invariant-loop-number
invariant-loop-number g l = record {
  open_so_far : (calls : List Call) → g.D.Disk.StandsFor l.fn.disk calls → IsSettled calls
      → Then (g.D.Disk.StandsFor l.disk) (Always (LeavesSame calls) calls) (AreOpen calls l.number-items l.number-index l.index.entries);
  ends : Ends (g.D.Disk.fault_count l.fn.disk) (g.D.Disk.order l.fn.disk) ended (g.D.Disk.fault_count l.disk) (g.D.Disk.order l.disk);
}
