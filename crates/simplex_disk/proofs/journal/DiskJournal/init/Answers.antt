use Rattle.std.proofs.Common.{List, ℕ, sym, subst}
use Rattle.std.specs.Ordering.{nat_cmp}
use Rattle.std.specs.List.Sorted.{IsStrictlySortedBy}
use Rattle.simplex_disk.proofs.Called.{numbers_kept}
use Rattle.simplex_disk.proofs.Obeying.{counts_error, no_fault_error}
use Rattle.simplex_disk.proofs.Segments.{ok_with}
use Rattle.simplex_disk.proofs.journal.DiskJournal.init.Goals as goal

pub returns-in-Ok-clause-rising : goal.returns-in-Ok-clause-rising
returns-in-Ok-clause-rising g c =
    subst (λ (ns : List ℕ). IsStrictlySortedBy nat_cmp ns) (sym (numbers_kept (g.D.Disk.contents c.open_files.new.disk) c.in-Ok.index.entries)) (ok_with _ c.open_files.result _ c.in-Ok.is c.open_files.ensures.rising)

pub returns-in-Ok-clause-quiet : goal.returns-in-Ok-clause-quiet
returns-in-Ok-clause-quiet g c = λ told. (c.open_files.ensures.ends.quiet told).0

pub returns-in-Err-clause-failed : goal.returns-in-Err-clause-failed
returns-in-Err-clause-failed g c = counts_error c.open_files.result c.in-Err.error c.from.result _ _ c.in-Err.is c.from.ensures c.open_files.ensures.ends.counts

pub returns-in-Err-clause-quiet : goal.returns-in-Err-clause-quiet
returns-in-Err-clause-quiet g c = λ told.
    let q = c.open_files.ensures.ends.quiet told in
    (q.0, no_fault_error c.open_files.result c.in-Err.error c.from.result c.in-Err.is c.from.ensures q.1)
