use Rattle.std.proofs.Common.{◌≡◌, ◌++◌, List}
use Rattle.simplex_journal.specs.Journal.{replayed}
use Rattle.simplex_disk.specs.Calls.{Call}
use Rattle.simplex_disk.specs.Ends.{Ends, ended}
use Rattle.simplex_disk.specs.Index.{sections_at}
use Rattle.simplex_disk.proofs.replaying.replay.Given as goal

abbrev pub invariant-loop-number : goal.invariant-loop-number
invariant-loop-number g l = record {
  stays : (calls : List Call) → g.D.Disk.StandsFor l.fn.disk calls → g.D.Disk.StandsFor l.disk calls;
  read : (calls : List Call) → g.D.Disk.StandsFor l.fn.disk calls → l.records.items ++ replayed (sections_at calls l.number-iterator) ≡ replayed (sections_at calls l.index.entries);
  ends : Ends (g.D.Disk.fault_count l.fn.disk) (g.D.Disk.order l.fn.disk) ended (g.D.Disk.fault_count l.disk) (g.D.Disk.order l.disk);
}
