use Rattle.std.proofs.Common.{◌∙◌, List, ap, subst}
use Rattle.simplex_journal.specs.Faults.{Counts}
use Rattle.simplex_journal.specs.Order.{Obeys}
use Rattle.simplex_journal.specs.Journal.{appended}
use Rattle.simplex_disk.specs.Calls.{Call}
use Rattle.simplex_disk.specs.Contents.{sections_kept, IsOf, Any}
use Rattle.simplex_disk.specs.Goes.{Changes, LeavesNoMore, LeavesNoneBut}
use Rattle.simplex_disk.specs.Index.{LeavesJournal, IsIndexed}
use Rattle.simplex_disk.specs.Moments.{Always, Then}
use Rattle.simplex_disk.specs.Orders.{order_told}
use Rattle.simplex_disk.proofs.Segments.{on_weaker, err_with}
use Rattle.simplex_disk.proofs.Called.{still, moments, becomes, answer_ok, answer_if_ok, answer_err}
use Rattle.simplex_disk.proofs.Obeying.{obeys_in, counts_in}
use Rattle.simplex_disk.proofs.journal.DiskJournalJournal.append.Goals as goal

pub invariant_of-self : goal.invariant_of-self
invariant_of-self g c = still c.begin_call.ensures.stands c.end_call.ensures.stands c.self.inside.index.entries c.append_to-appended.new.index.entries c.self.inside.leaving c.append_to-appended.new.leaving (λ s. LeavesJournal s c.self.inside.leaving) (Changes c.append_to-appended.result (appended c.args.section c.args.artifact.now)) c.append_to-appended.ensures.goes c.self.invariant

pub returns-clause-ok : goal.returns-clause-ok
returns-clause-ok g c =
    let K = g.D.Disk.contents in
    let all = becomes c.begin_call.ensures.stands c.end_call.ensures.stands c.self.inside.index.entries c.append_to-appended.new.index.entries c.self.inside.leaving c.append_to-appended.new.leaving (λ s. LeavesJournal s c.self.inside.leaving) (Changes c.append_to-appended.result (appended c.args.section c.args.artifact.now)) c.append_to-appended.ensures.goes
    (K c.self.inside.disk) (g.met.D.Disk.reads c.self.inside.disk) (K c.end_call.new.disk) (g.met.D.Disk.reads c.end_call.new.disk) c.self.invariant in
    on_weaker c.end_call.result (λ e. e ∙ ap (λ j. appended c.args.section c.args.artifact.now (sections_kept K j)) c.self.view_is) (answer_ok _ _ c.append_to-appended.result c.end_call.result c.end_call.ensures.answer all)

pub returns-clause-err : goal.returns-clause-err
returns-clause-err g c =
    let K = g.D.Disk.contents in
    let all = becomes c.begin_call.ensures.stands c.end_call.ensures.stands c.self.inside.index.entries c.append_to-appended.new.index.entries c.self.inside.leaving c.append_to-appended.new.leaving (λ s. LeavesJournal s c.self.inside.leaving) (Changes c.append_to-appended.result (appended c.args.section c.args.artifact.now)) c.append_to-appended.ensures.goes
    (K c.self.inside.disk) (g.met.D.Disk.reads c.self.inside.disk) (K c.end_call.new.disk) (g.met.D.Disk.reads c.end_call.new.disk) c.self.invariant in
    err_with c.end_call.result (λ e. e ∙ ap (λ j. sections_kept K j) c.self.view_is) (answer_err _ _ c.append_to-appended.result c.end_call.result c.end_call.ensures.answer all)

pub returns-clause-ordered : goal.returns-clause-ordered
returns-clause-ordered g c =
    subst (λ j. Obeys (order_told (g.D.Disk.order j.disk) j.order) c.end_call.result (order_told (g.D.Disk.order c.end_call.new.disk) (record { call = c.end_call.new.failing_call; sections = c.self.inside.failing_sections }))) c.self.view_is
    (obeys_in c.append_to-appended.result c.end_call.result c.self.inside.failing_call c.self.inside.failing_sections 1 _ _ (g.D.Disk.order c.self.inside.disk) (g.D.Disk.order c.begin_call.new.disk) (g.D.Disk.order c.append_to-appended.new.disk)
    (g.D.Disk.order c.end_call.new.disk) c.end_call.ensures.answer c.append_to-appended.ensures.ends c.append_to-appended.ensures.named c.begin_call.ensures.order c.end_call.ensures.order c.end_call.new.failing_call c.end_call.ensures.counted)

pub returns-clause-faults : goal.returns-clause-faults
returns-clause-faults g c =
    subst (λ j. Counts (g.D.Disk.fault_count j.disk) c.end_call.result (g.D.Disk.fault_count c.end_call.new.disk)) c.self.view_is
    (counts_in c.append_to-appended.result c.end_call.result _ _ _ _ c.end_call.ensures.answer c.begin_call.ensures.faults c.append_to-appended.ensures.ends.counts c.end_call.ensures.faults)

pub returns-clause-moments : goal.returns-clause-moments
returns-clause-moments g c =
    let K = g.D.Disk.contents in
    let St = g.D.Disk.StandsFor in
    subst (λ j. (calls : List Call) → IsOf St j calls → Then (λ now. St c.end_call.new.disk now × IsIndexed c.append_to-appended.new.index.entries c.append_to-appended.new.leaving now) (Always (LeavesJournal (sections_kept K j) j.leaving calls) calls) Any) c.self.view_is
    (moments c.begin_call.ensures.stands c.end_call.ensures.stands c.self.inside.index.entries c.append_to-appended.new.index.entries c.self.inside.leaving c.append_to-appended.new.leaving (λ s. LeavesJournal s c.self.inside.leaving) (Changes c.append_to-appended.result (appended c.args.section c.args.artifact.now)) c.append_to-appended.ensures.goes (K c.self.inside.disk) (g.met.D.Disk.reads c.self.inside.disk))

pub returns-clause-leaving : goal.returns-clause-leaving
returns-clause-leaving g c = subst (λ j. LeavesNoneBut c.args.section j.leaving c.append_to-appended.new.leaving) c.self.view_is c.append_to-appended.ensures.less

pub returns-clause-made : goal.returns-clause-made
returns-clause-made g c = on_weaker c.end_call.result (λ (less : LeavesNoMore c.self.inside.leaving c.append_to-appended.new.leaving). subst (λ j. LeavesNoMore j.leaving c.append_to-appended.new.leaving) c.self.view_is less)
    (answer_if_ok (λ _. LeavesNoMore c.self.inside.leaving c.append_to-appended.new.leaving) c.append_to-appended.result c.end_call.result c.end_call.ensures.answer c.append_to-appended.ensures.made)
