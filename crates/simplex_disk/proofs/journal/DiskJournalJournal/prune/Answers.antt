use Rattle.std.proofs.Common.{◌≡◌, ◌∙◌, ◌≤◌, min, eqb, ℕ, List, Option, None, Some, Result, sym, ap, subst, arith}
use Rattle.std.specs.Result.{MatchResult}
use Rattle.simplex_journal.specs.Faults.{Counts}
use Rattle.simplex_journal.specs.Journal.{Section, pruned}
use Rattle.simplex_journal.specs.Order.{Obeys, PrunesInPart}
use Rattle.simplex_disk.specs.declared.error.DiskError.{DiskError}
use Rattle.simplex_disk.specs.declared.error.DiskError.TheVariants.{Failed}
use Rattle.simplex_disk.specs.declared.segment.Segment.{Segment}
use Rattle.simplex_disk.specs.Calls.{Call, content}
use Rattle.simplex_disk.specs.Contents.{sections_kept, IsOf, Any}
use Rattle.simplex_disk.specs.Index.{IsIndexed, LeavesJournal, sections_at, sections_in}
use Rattle.simplex_disk.specs.Moments.{Always, Then}
use Rattle.simplex_disk.specs.Orders.{order_told, IsOrdered}
use Rattle.simplex_disk.specs.Pruning.{LeavesPruned, LeavesNoneAbove, count_below, failing_disk_call}
use Rattle.simplex_disk.proofs.Moments.{always_weaker}
use Rattle.simplex_disk.proofs.Prunes.{pruned_none}
use Rattle.simplex_disk.proofs.Whole.{moments_no}
use Rattle.simplex_disk.proofs.Segments.{on_weaker}
use Rattle.simplex_disk.proofs.Called.{sections_same, still, moments, becomes, answer_ok, answer_if_ok, answer_failed, answer_memory}
use Rattle.simplex_disk.proofs.Obeying.{obeys_in, counts_in, IsExact, prunes_in_part}
use Rattle.simplex_disk.proofs.Others.{on_both, absent_below}
use Rattle.simplex_disk.proofs.Paces.{match_err, enough_first}
use Rattle.simplex_disk.proofs.journal.DiskJournalJournal.prune.Goals as goal

-- what a prune makes of the sections
abbrev Prunes : Result (Unit {0}) DiskError → ℕ → Option ℕ → Option ℕ → List Section → List Section → Type 0
Prunes r least leaving begun old new = MatchResult r (λ _. new ≡ pruned least old) (λ e. IsExact Failed e (failing_disk_call leaving) begun old new least)

-- the one moment where nothing was called
no_prune : (least : ℕ) (es : List (ℕ × Segment)) (leaving : Option ℕ) (H : List Call) (C : ℕ → Option (List ℕ)) → ((n : ℕ) → content n H ≡ C n) → IsIndexed es leaving H
    → Always (LeavesPruned least (sections_in C es) leaving H) H H
no_prune least es leaving H C reads indexed =
    subst (λ (s : List Section). Always (LeavesPruned least s leaving H) H H) (sections_same C H es reads)
    (always_weaker (LeavesJournal (sections_at H es) leaving H) (LeavesPruned least (sections_at H es) leaving H) (λ l left. pruned_none least (sections_at H es) leaving H l left) H H (moments_no 0 es leaving H indexed))

pub returns-in_default-clause-moments : goal.returns-in_default-clause-moments
returns-in_default-clause-moments g c = λ H is.
    let j = c.args.self.now in
    record {
      now = H;
      stands = is;
      held = no_prune c.args.min j.entries j.leaving H (g.D.Disk.contents j.disk) (g.met.D.Disk.reads j.disk H is.0) is.1;
      holds = tt;
    }

pub invariant_of-self : goal.invariant_of-self
invariant_of-self g c = still c.begin_call.ensures.stands c.end_call.ensures.stands c.self.inside.index.entries c.prune_files-pruned.new.index.entries c.self.inside.leaving c.prune_files-pruned.new.leaving
    (λ s. LeavesPruned c.args.min s c.self.inside.leaving) (Prunes c.prune_files-pruned.result c.args.min c.self.inside.leaving (g.D.Disk.order c.begin_call.new.disk)) c.prune_files-pruned.ensures.stands c.self.invariant

pub returns-clause-ok : goal.returns-clause-ok
returns-clause-ok g c =
    let K = g.D.Disk.contents in
    let all = becomes c.begin_call.ensures.stands c.end_call.ensures.stands c.self.inside.index.entries c.prune_files-pruned.new.index.entries c.self.inside.leaving c.prune_files-pruned.new.leaving
    (λ s. LeavesPruned c.args.min s c.self.inside.leaving) (Prunes c.prune_files-pruned.result c.args.min c.self.inside.leaving (g.D.Disk.order c.begin_call.new.disk)) c.prune_files-pruned.ensures.stands
    (K c.self.inside.disk) (g.met.D.Disk.reads c.self.inside.disk) (K c.end_call.new.disk) (g.met.D.Disk.reads c.end_call.new.disk) c.self.invariant in
    on_weaker c.end_call.result (λ e. e ∙ ap (λ j. pruned c.args.min (sections_kept K j)) c.self.view_is) (answer_ok _ _ c.prune_files-pruned.result c.end_call.result c.end_call.ensures.answer all)

pub returns-clause-in_part : goal.returns-clause-in_part
returns-clause-in_part g c = λ failed.
    let K = g.D.Disk.contents in
    let es = c.self.inside.index.entries in
    let least = c.args.min in
    let count = c.self.inside.failing_sections in
    let all = becomes c.begin_call.ensures.stands c.end_call.ensures.stands c.self.inside.index.entries c.prune_files-pruned.new.index.entries c.self.inside.leaving c.prune_files-pruned.new.leaving
    (λ s. LeavesPruned c.args.min s c.self.inside.leaving) (Prunes c.prune_files-pruned.result c.args.min c.self.inside.leaving (g.D.Disk.order c.begin_call.new.disk)) c.prune_files-pruned.ensures.stands
    (K c.self.inside.disk) (g.met.D.Disk.reads c.self.inside.disk) (K c.end_call.new.disk) (g.met.D.Disk.reads c.end_call.new.disk) c.self.invariant in
    let is = answer_failed c.prune_files-pruned.result c.end_call.result c.end_call.ensures.answer failed in
    let exact = match_err _ _ c.prune_files-pruned.result Failed is all in
    let named = min count (count_below least es) in
    let number_is : c.in-Some.number ≡ failing_disk_call c.self.inside.leaving named = rw c.in-Some.is at c.call_to_fail.ensures.number in
    let given = subst (λ (k : ℕ). IsOrdered (eqb c.self.inside.failing_call 1) k (g.D.Disk.order c.self.inside.disk) (g.D.Disk.order c.begin_call.new.disk)) number_is c.begin_call.ensures.order in
    subst (λ j. PrunesInPart (order_told (g.D.Disk.order j.disk) j.order) least (sections_kept K j) (sections_in (K c.end_call.new.disk) c.prune_files-pruned.new.index.entries)) c.self.view_is
    (prunes_in_part (failing_disk_call c.self.inside.leaving) c.self.inside.failing_call count named least (sections_in (K c.self.inside.disk) es) (sections_in (K c.end_call.new.disk) c.prune_files-pruned.new.index.entries)
    (enough_first count least (K c.self.inside.disk) es c.call_to_fail.ensures.ordered) _ _ (g.D.Disk.order c.begin_call.new.disk) (g.D.Disk.order c.prune_files-pruned.new.disk) c.prune_files-pruned.result is c.prune_files-pruned.ensures.ends exact
    (g.D.Disk.order c.self.inside.disk) given)

pub returns-clause-memory : goal.returns-clause-memory
returns-clause-memory g c = λ memory.
    let K = g.D.Disk.contents in
    let reads = g.met.D.Disk.reads in
    let es = c.self.inside.index.entries in
    let new = c.prune_files-pruned.new.index.entries in
    let inv = c.self.invariant in
    let H = inv.0 in
    let st1 = c.begin_call.ensures.stands H inv.1 in
    let t = c.prune_files-pruned.ensures.stands H st1 inv.2 in
    let st3 = c.end_call.ensures.stands t.now t.stands in
    let same = c.prune_files-pruned.ensures.memory (answer_memory c.prune_files-pruned.result c.end_call.result c.end_call.ensures.answer memory) in
    sym (sections_same (K c.end_call.new.disk) t.now new (reads c.end_call.new.disk t.now st3))
    ∙ sections_same (K c.prune_files-pruned.new.disk) t.now new (reads c.prune_files-pruned.new.disk t.now t.stands)
    ∙ same
    ∙ sym (sections_same (K c.begin_call.new.disk) H es (reads c.begin_call.new.disk H st1))
    ∙ sections_same (K c.self.inside.disk) H es (reads c.self.inside.disk H inv.1)
    ∙ ap (λ j. sections_kept K j) c.self.view_is

pub returns-clause-ordered : goal.returns-clause-ordered
returns-clause-ordered g c =
    let es = c.self.inside.index.entries in
    let named = min c.self.inside.failing_sections (count_below c.args.min es) in
    let few : named ≤ count_below c.args.min es = omega arith in
    let number_is : c.in-Some.number ≡ failing_disk_call c.self.inside.leaving named = rw c.in-Some.is at c.call_to_fail.ensures.number in
    subst (λ j. Obeys (order_told (g.D.Disk.order j.disk) j.order) c.end_call.result (order_told (g.D.Disk.order c.end_call.new.disk) (record { call = c.end_call.new.failing_call; sections = c.self.inside.failing_sections }))) c.self.view_is
    (obeys_in c.prune_files-pruned.result c.end_call.result c.self.inside.failing_call c.self.inside.failing_sections c.in-Some.number _ _ (g.D.Disk.order c.self.inside.disk) (g.D.Disk.order c.begin_call.new.disk)
    (g.D.Disk.order c.prune_files-pruned.new.disk) (g.D.Disk.order c.end_call.new.disk) c.end_call.ensures.answer c.prune_files-pruned.ensures.ends (λ told. c.prune_files-pruned.ensures.named named few (told ∙ ap (λ (k : ℕ). Some k) number_is)) c.begin_call.ensures.order c.end_call.ensures.order c.end_call.new.failing_call c.end_call.ensures.counted)

pub returns-clause-faults : goal.returns-clause-faults
returns-clause-faults g c =
    subst (λ j. Counts (g.D.Disk.fault_count j.disk) c.end_call.result (g.D.Disk.fault_count c.end_call.new.disk)) c.self.view_is
    (counts_in c.prune_files-pruned.result c.end_call.result _ _ _ _ c.end_call.ensures.answer c.begin_call.ensures.faults c.prune_files-pruned.ensures.ends.counts c.end_call.ensures.faults)

pub returns-clause-moments : goal.returns-clause-moments
returns-clause-moments g c =
    let K = g.D.Disk.contents in
    let St = g.D.Disk.StandsFor in
    subst (λ j. (calls : List Call) → IsOf St j calls → Then (λ now. St c.end_call.new.disk now × IsIndexed c.prune_files-pruned.new.index.entries c.prune_files-pruned.new.leaving now) (Always (LeavesPruned c.args.min (sections_kept K j) j.leaving calls) calls) Any) c.self.view_is
    (moments c.begin_call.ensures.stands c.end_call.ensures.stands c.self.inside.index.entries c.prune_files-pruned.new.index.entries c.self.inside.leaving c.prune_files-pruned.new.leaving
    (λ s. LeavesPruned c.args.min s c.self.inside.leaving) (Prunes c.prune_files-pruned.result c.args.min c.self.inside.leaving (g.D.Disk.order c.begin_call.new.disk)) c.prune_files-pruned.ensures.stands (K c.self.inside.disk) (g.met.D.Disk.reads c.self.inside.disk))

pub returns-clause-gone : goal.returns-clause-gone
returns-clause-gone g c = answer_if_ok (λ _. c.prune_files-pruned.new.leaving ≡ None) c.prune_files-pruned.result c.end_call.result c.end_call.ensures.answer c.prune_files-pruned.ensures.gone

pub returns-clause-leaving : goal.returns-clause-leaving
returns-clause-leaving g c = subst (λ j. LeavesNoneAbove c.args.min j.leaving c.prune_files-pruned.new.leaving) c.self.view_is c.prune_files-pruned.ensures.leaves

pub returns-clause-bare : goal.returns-clause-bare
returns-clause-bare g c =
    let K = g.D.Disk.contents in
    let reads = g.met.D.Disk.reads in
    let new = c.prune_files-pruned.new.index.entries in
    let leaving = c.prune_files-pruned.new.leaving in
    let Becomes = Prunes c.prune_files-pruned.result c.args.min c.self.inside.leaving (g.D.Disk.order c.begin_call.new.disk) in
    let all = becomes c.begin_call.ensures.stands c.end_call.ensures.stands c.self.inside.index.entries new c.self.inside.leaving leaving
    (λ s. LeavesPruned c.args.min s c.self.inside.leaving) Becomes c.prune_files-pruned.ensures.stands
    (K c.self.inside.disk) (reads c.self.inside.disk) (K c.end_call.new.disk) (reads c.end_call.new.disk) c.self.invariant in
    let inv = still c.begin_call.ensures.stands c.end_call.ensures.stands c.self.inside.index.entries new c.self.inside.leaving leaving
    (λ s. LeavesPruned c.args.min s c.self.inside.leaving) Becomes c.prune_files-pruned.ensures.stands c.self.invariant in
    let gone = answer_if_ok (λ _. leaving ≡ None) c.prune_files-pruned.result c.end_call.result c.end_call.ensures.answer c.prune_files-pruned.ensures.gone in
    on_both c.end_call.result
    (λ (is : sections_in (K c.end_call.new.disk) new ≡ pruned c.args.min (sections_in (K c.self.inside.disk) c.self.inside.index.entries)) (none : leaving ≡ None). λ n below.
    sym (reads c.end_call.new.disk inv.0 inv.1 n) ∙ (absent_below (K c.end_call.new.disk) new leaving inv.0 inv.2 c.args.min _ is none n below).content)
    (answer_ok _ _ c.prune_files-pruned.result c.end_call.result c.end_call.ensures.answer all) gone

pub returns-clause-bare_for_good : goal.returns-clause-bare_for_good
returns-clause-bare_for_good g c =
    let K = g.D.Disk.contents in
    let reads = g.met.D.Disk.reads in
    let new = c.prune_files-pruned.new.index.entries in
    let leaving = c.prune_files-pruned.new.leaving in
    let all = becomes c.begin_call.ensures.stands c.end_call.ensures.stands c.self.inside.index.entries new c.self.inside.leaving leaving
    (λ s. LeavesPruned c.args.min s c.self.inside.leaving) (Prunes c.prune_files-pruned.result c.args.min c.self.inside.leaving (g.D.Disk.order c.begin_call.new.disk)) c.prune_files-pruned.ensures.stands
    (K c.self.inside.disk) (reads c.self.inside.disk) (K c.end_call.new.disk) (reads c.end_call.new.disk) c.self.invariant in
    let gone = answer_if_ok (λ _. leaving ≡ None) c.prune_files-pruned.result c.end_call.result c.end_call.ensures.answer c.prune_files-pruned.ensures.gone in
    on_both c.end_call.result
    (λ (is : sections_in (K c.end_call.new.disk) new ≡ pruned c.args.min (sections_in (K c.self.inside.disk) c.self.inside.index.entries)) (none : leaving ≡ None). λ H of n below.
    absent_below (K c.end_call.new.disk) new leaving H of.1 c.args.min _ is none n below)
    (answer_ok _ _ c.prune_files-pruned.result c.end_call.result c.end_call.ensures.answer all) gone
