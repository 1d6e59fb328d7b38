use Rattle.std.proofs.Common.{subst}
use Rattle.simplex_disk.specs.Contents.{HasNoOther}
use Rattle.simplex_disk.proofs.Others.{no_other}
use Rattle.simplex_disk.proofs.journal.DiskJournal.into_disk.Goals as goal

pub returns-clause-rest : goal.returns-clause-rest
returns-clause-rest g c =
    let inside = c.self.inside in
    let inv = c.self.invariant in
    subst (λ j. HasNoOther g.D.Disk.contents j) c.self.view_is
    (no_other (g.D.Disk.contents inside.disk) inside.index.entries inside.leaving inv.0 inv.2 (g.met.D.Disk.reads inside.disk inv.0 inv.1))
