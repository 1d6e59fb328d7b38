use Rattle.std.proofs.Common.{List}
use Rattle.simplex_wire.specs.declared.artifact.Artifact.{Artifact}
use Rattle.simplex_disk.specs.Calls.{Call}
use Rattle.simplex_disk.specs.Ends.{Ends, ended}
use Rattle.simplex_disk.specs.Gates.{Waits, OpensSome}
use Rattle.simplex_disk.specs.Left.{LeavesChain}
use Rattle.simplex_disk.specs.Moments.{AlwaysOf, Then}
use Rattle.simplex_disk.proofs.segment.open_gates.Given as goal

abbrev pub invariant-loop-place : goal.invariant-loop-place
invariant-loop-place g l = record {
  opens : (calls : List Call) → g.D.Disk.StandsFor l.fn.disk calls → (synced pending : List Artifact) → Waits l.file synced pending l.gates calls
      → Then (g.D.Disk.StandsFor l.disk) (AlwaysOf l.file (LeavesChain l.file synced pending) calls) (OpensSome l.file synced pending l.place-index);
  ends : Ends (g.D.Disk.fault_count l.fn.disk) (g.D.Disk.order l.fn.disk) ended (g.D.Disk.fault_count l.disk) (g.D.Disk.order l.disk);
}
