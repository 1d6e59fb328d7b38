use Rattle.std.proofs.Common.{◌∙◌, List, sym, ap, subst}
use Rattle.simplex_journal.specs.Faults.{Counts}
use Rattle.simplex_journal.specs.Order.{Obeys}
use Rattle.simplex_journal.specs.Journal.{replayed}
use Rattle.simplex_disk.specs.Calls.{Call}
use Rattle.simplex_disk.specs.Contents.{sections_kept, IsOf}
use Rattle.simplex_disk.specs.Index.{IsIndexed}
use Rattle.simplex_disk.specs.Orders.{order_told}
use Rattle.simplex_disk.proofs.Called.{sections_same, answer_if_ok, if_weaker}
use Rattle.simplex_disk.proofs.Obeying.{obeys_in, counts_in}
use Rattle.simplex_disk.proofs.journal.DiskJournalJournal.replay.Goals as goal

pub invariant_of-self : goal.invariant_of-self
invariant_of-self g c =
    let inv = c.self.invariant in
    (inv.0, c.end_call.ensures.stands inv.0 (c.replay-records.ensures.stays inv.0 (c.begin_call.ensures.stands inv.0 inv.1)), inv.2)

pub returns-clause-ok : goal.returns-clause-ok
returns-clause-ok g c =
    let K = g.D.Disk.contents in
    let inv = c.self.invariant in
    let es = c.self.inside.index.entries in
    let same = sections_same (K c.self.inside.disk) inv.0 es (g.met.D.Disk.reads c.self.inside.disk inv.0 inv.1) in
    if_weaker _ _ c.end_call.result (λ records read. read inv.0 (c.begin_call.ensures.stands inv.0 inv.1) ∙ ap replayed same ∙ ap (λ j. replayed (sections_kept K j)) c.self.view_is)
    (answer_if_ok _ c.replay-records.result c.end_call.result c.end_call.ensures.answer c.replay-records.ensures.read)

pub returns-clause-stays : goal.returns-clause-stays
returns-clause-stays g c =
    let K = g.D.Disk.contents in
    let inv = c.self.invariant in
    let es = c.self.inside.index.entries in
    let st3 = c.end_call.ensures.stands inv.0 (c.replay-records.ensures.stays inv.0 (c.begin_call.ensures.stands inv.0 inv.1)) in
    sym (sections_same (K c.end_call.new.disk) inv.0 es (g.met.D.Disk.reads c.end_call.new.disk inv.0 st3))
    ∙ sections_same (K c.self.inside.disk) inv.0 es (g.met.D.Disk.reads c.self.inside.disk inv.0 inv.1)
    ∙ ap (λ j. sections_kept K j) c.self.view_is

pub returns-clause-ordered : goal.returns-clause-ordered
returns-clause-ordered g c =
    subst (λ j. Obeys (order_told (g.D.Disk.order j.disk) j.order) c.end_call.result (order_told (g.D.Disk.order c.end_call.new.disk) (record { call = c.end_call.new.failing_call; sections = c.self.inside.failing_sections }))) c.self.view_is
    (obeys_in c.replay-records.result c.end_call.result c.self.inside.failing_call c.self.inside.failing_sections 1 _ _ (g.D.Disk.order c.self.inside.disk) (g.D.Disk.order c.begin_call.new.disk) (g.D.Disk.order c.replay-records.new.disk)
    (g.D.Disk.order c.end_call.new.disk) c.end_call.ensures.answer c.replay-records.ensures.ends c.replay-records.ensures.named c.begin_call.ensures.order c.end_call.ensures.order c.end_call.new.failing_call c.end_call.ensures.counted)

pub returns-clause-faults : goal.returns-clause-faults
returns-clause-faults g c =
    subst (λ j. Counts (g.D.Disk.fault_count j.disk) c.end_call.result (g.D.Disk.fault_count c.end_call.new.disk)) c.self.view_is
    (counts_in c.replay-records.result c.end_call.result _ _ _ _ c.end_call.ensures.answer c.begin_call.ensures.faults c.replay-records.ensures.ends.counts c.end_call.ensures.faults)

pub returns-clause-moments : goal.returns-clause-moments
returns-clause-moments g c =
    let St = g.D.Disk.StandsFor in
    subst (λ j. (calls : List Call) → IsOf St j calls → St c.end_call.new.disk calls × IsIndexed c.self.inside.index.entries c.self.inside.leaving calls) c.self.view_is
    (λ calls is. (c.end_call.ensures.stands calls (c.replay-records.ensures.stays calls (c.begin_call.ensures.stands calls is.0)), is.1))
