use Rattle.std.proofs.Common.{List, subst}
use Rattle.simplex_journal.specs.Journal.{Section}
use Rattle.simplex_disk.specs.Index.{LeavesJournal}
use Rattle.simplex_disk.proofs.Called.{sections_same}
use Rattle.simplex_disk.proofs.Entries.{LeavesJournal-now}
use Rattle.simplex_disk.proofs.journal.DiskJournal.outlasts_a_crash.Goals as goal

pub returns-clause-left : goal.returns-clause-left
returns-clause-left g c = λ H is.
    let j = c.args.self.now in
    subst (λ (s : List Section). LeavesJournal s j.leaving H H) (sections_same (g.D.Disk.contents j.disk) H j.entries (g.met.D.Disk.reads j.disk H is.0)) (LeavesJournal-now j.entries j.leaving H is.1)

pub returns-clause-back : goal.returns-clause-back
returns-clause-back g c = λ H is. is.1.back
