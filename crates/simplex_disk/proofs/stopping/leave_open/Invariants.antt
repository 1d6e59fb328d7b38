use Rattle.std.proofs.Common.{◌≡◌, ◌≤◌, List, length}
use Rattle.simplex_wire.specs.declared.artifact.Artifact.{Artifact}
use Rattle.simplex_disk.specs.Answers.{OrderStands}
use Rattle.simplex_disk.specs.Calls.{Call}
use Rattle.simplex_disk.specs.Contents.{Any}
use Rattle.simplex_disk.specs.Moments.{AlwaysOf, Then}
use Rattle.simplex_disk.specs.Stopping.{WaitsFirst, OpensFirst}
use Rattle.simplex_disk.proofs.stopping.leave_open.Given as goal

abbrev pub invariant-loop-place : goal.invariant-loop-place
invariant-loop-place g l = record {
  opens : (calls : List Call) → g.D.Disk.StandsFor l.fn.disk calls → (synced pending : List Artifact) → WaitsFirst l.file synced pending l.gates calls
      → Then (g.D.Disk.StandsFor l.disk) (AlwaysOf l.file Any calls) (OpensFirst l.file synced pending l.place-index);
  within : l.place-index ≤ length l.gates;
  faults : g.D.Disk.fault_count l.disk ≡ g.D.Disk.fault_count l.fn.disk;
  order : OrderStands (g.D.Disk.order l.fn.disk) (g.D.Disk.order l.disk);
}
