use Rattle.std.proofs.Common.{◌≡◌, ◌∙◌, ◌<◌, ◌+◌, ◌-◌, ◌*◌, ℕ, List, Option, None, Some, Result, Ok, sym, ap, subst, rules, arith, inl, inr}
use Rattle.simplex_journal.specs.Journal.{Section}
use Rattle.simplex_journal.proofs.Entries.{pruned_first-zero}
use Rattle.simplex_disk.specs.Calls.{Call, content}
use Rattle.simplex_disk.specs.Index.{IsIndexed, LeavesJournal, sections_at}
use Rattle.simplex_disk.specs.Moments.{Always}
use Rattle.simplex_disk.specs.declared.error.DiskError.{DiskError}
use Rattle.simplex_disk.specs.declared.error.DiskError.TheVariants.{Failed}
use Rattle.simplex_disk.specs.Answers.{Heeds}
use Rattle.simplex_disk.specs.Pruning.{LeavesPruned, failing_disk_call}
use Rattle.simplex_disk.proofs.Called.{sections_same}
use Rattle.simplex_disk.proofs.Listings.{listed_keys}
use Rattle.simplex_disk.proofs.Paces.{heeded_ok, heeded_err, match_ok, match_err, err_on, listing_fails, listing_passes}
use Rattle.simplex_disk.proofs.Moments.{always_join, always_weaker}
use Rattle.simplex_disk.proofs.Segments.{ok_of}
use Rattle.simplex_disk.proofs.Entries.{numbered-none}
use Rattle.simplex_disk.proofs.Prunes.{pruned_none, pruned_but, pruned_or}
use Rattle.simplex_disk.proofs.pruning.prune_files.Goals as goal

-- the moments before the first section is dropped
before : (least : ℕ) (s : List Section) (leaving : Option ℕ) (H0 H1 : List Call) → Always (LeavesJournal s leaving H0) H0 H1 → Always (LeavesPruned least s leaving H0) H0 H1
before least s leaving H0 H1 h = always_weaker (LeavesJournal s leaving H0) (LeavesPruned least s leaving H0) (λ l left. pruned_none least s leaving H0 l left) H0 H1 h

pub returns-in_err-finish_removal-clause-stands : goal.returns-in_err-finish_removal-clause-stands
returns-in_err-finish_removal-clause-stands g c = λ H st indexed.
    let es = c.args.index.now.entries in
    let least = c.args.least in
    let s = sections_at H es in
    let l0 = c.args.leaving.now in
    let t = c.finish_removal.ensures.goes es H st indexed in
    record {
      now = t.now;
      stands = t.stands;
      held = before least s l0 H t.now t.held;
      holds = (
        t.holds.0,
        err_on _ _ c.finish_removal.result _ c.from_residual.result c.in_err-finish_removal.was (search rules)
            (λ e was. (
              0,
              t.holds.1 ∙ sym (pruned_first-zero least s),
              λ failed named told. absurd (match_err _ _ c.finish_removal.result e was (c.finish_removal.ensures.spared (1 + 2 * named) (omega arith) told)),
            )),
      );
    }

pub returns-in_err-finish_removal-clause-leaves : goal.returns-in_err-finish_removal-clause-leaves
returns-in_err-finish_removal-clause-leaves g c = λ n leaves. inl (c.finish_removal.ensures.less n leaves)

pub returns-in_err-numbers-clause-stands : goal.returns-in_err-numbers-clause-stands
returns-in_err-numbers-clause-stands g c = λ H st indexed.
    let es = c.args.index.now.entries in
    let least = c.args.least in
    let s = sections_at H es in
    let l0 = c.args.leaving.now in
    let t = c.finish_removal.ensures.goes es H st indexed in
    record {
      now = t.now;
      stands = c.files.ensures.stays t.now t.stands;
      held = before least s l0 H t.now t.held;
      holds = (
        t.holds.0,
        err_on _ _ c.files.result _ c.from_residual-in_err-numbers.result c.in_err-numbers.was (search rules)
            (λ e was. (
              0,
              t.holds.1 ∙ sym (pruned_first-zero least s),
              λ failed named told.
                  let on = match_ok _ _ c.finish_removal.result _ c.in_ok-finish_removal.was (c.finish_removal.ensures.spared (1 + 2 * named) (omega arith) told) in
                  listing_fails named (heeded_err c.files.result e _ _ (1 + 2 * named) was failed c.files.ensures.heeds on),
            )),
      );
    }

pub returns-in_err-numbers-clause-leaves : goal.returns-in_err-numbers-clause-leaves
returns-in_err-numbers-clause-leaves g c = λ n leaves. inl (c.finish_removal.ensures.less n leaves)

pub returns-in_err-numbers-clause-memory : goal.returns-in_err-numbers-clause-memory
returns-in_err-numbers-clause-memory g c = λ is.
    let es = c.args.index.now.entries in
    let H = c.requires.0 in
    let st = c.requires.1 in
    let t = c.finish_removal.ensures.goes es H st c.requires.2 in
    let reads = g.met.D.Disk.reads in
    sym (sections_same (g.D.Disk.contents c.files.new.self) t.now es (reads c.files.new.self t.now (c.files.ensures.stays t.now t.stands)))
    ∙ t.holds.1
    ∙ sections_same (g.D.Disk.contents c.args.disk.now) H es (reads c.args.disk.now H st)

-- The listing passed, and a section is to be dropped.
listed : {T : Type 0} (r : Result T DiskError) (x : T) (o now : Option ℕ) (named : ℕ) → r ≡ Ok x → Heeds o r now → o ≡ Some (1 + 2 * named)
    → (0 < named) × (now ≡ Some (2 * named))
listed r x o now named is heeds told =
    let on = heeded_ok r x o now (1 + 2 * named) is heeds told in
    (listing_passes named on.0, on.1 ∙ ap (λ (k : ℕ). Some k) (let e : 1 + 2 * named - 1 ≡ 2 * named = omega arith in e))

pub drop_listed-requires : goal.drop_listed-requires
drop_listed-requires g c =
    let es = c.args.index.now.entries in
    let t = c.finish_removal.ensures.goes es c.requires.0 c.requires.1 c.requires.2 in
    let gone = ok_of c.finish_removal.result _ c.in_ok-finish_removal.was c.finish_removal.ensures.gone in
    let none = subst (λ (l : Option ℕ). IsIndexed es l t.now) gone t.holds.0 in
    c.deref.ensures.value
    ∙ listed_keys (g.D.Disk.contents c.finish_removal.new.disk) c.in_ok-numbers.numbers.items es t.now c.in_ok-numbers.ensures.listed (g.met.D.Disk.reads c.finish_removal.new.disk t.now t.stands) none c.len-ordered.ensures.ordered

pub returns-clause-stands : goal.returns-clause-stands
returns-clause-stands g c = λ H st indexed.
    let es = c.args.index.now.entries in
    let least = c.args.least in
    let s = sections_at H es in
    let l0 = c.args.leaving.now in
    let t = c.finish_removal.ensures.goes es H st indexed in
    let gone = ok_of c.finish_removal.result _ c.in_ok-finish_removal.was c.finish_removal.ensures.gone in
    let none = subst (λ (l : Option ℕ). IsIndexed es l t.now) gone t.holds.0 in
    let u = c.drop_listed.ensures.stands t.now (c.files.ensures.stays t.now t.stands) none gone in
    let also : (e : DiskError) (d : ℕ) → ((named : ℕ) → 0 < named → g.D.Disk.order c.files.new.self ≡ Some (2 * named) → d ≡ named)
    → e ≡ Failed → (named : ℕ) → g.D.Disk.order c.args.disk.now ≡ Some (failing_disk_call l0 named) → d ≡ named = λ e d exact failed named told.
    let on = listed c.files.result _ _ _ named c.in_ok-numbers.was c.files.ensures.heeds (match_ok _ _ c.finish_removal.result _ c.in_ok-finish_removal.was (c.finish_removal.ensures.spared (1 + 2 * named) (omega arith) told)) in
    exact named on.0 on.1 in
    record {
      now = u.now;
      stands = u.stands;
      held = always_join (LeavesPruned least s l0 H) H t.now u.now (before least s l0 H t.now t.held)
          (always_weaker (LeavesPruned least (sections_at t.now es) None t.now) (LeavesPruned least s l0 H)
          (λ l left. pruned_but least s (sections_at t.now es) l0 H t.now l t.holds.1 (λ n leaves. numbered-none (λ m. content m H) n es (indexed.gone n leaves)) left) t.now u.now u.held);
      holds = (u.holds.0, pruned_or c.drop_listed.result least s (sections_at t.now es) (sections_at u.now c.drop_listed.new.index.entries) c.drop_listed.new.leaving _ _ t.holds.1 also u.holds.1);
    }

pub returns-clause-named : goal.returns-clause-named
returns-clause-named g c = λ named few told.
    let on = listed c.files.result _ _ _ named c.in_ok-numbers.was c.files.ensures.heeds (match_ok _ _ c.finish_removal.result _ c.in_ok-finish_removal.was (c.finish_removal.ensures.spared (1 + 2 * named) (omega arith) told)) in
    c.drop_listed.ensures.named named on.0 few on.1

pub returns-clause-gone : goal.returns-clause-gone
returns-clause-gone g c = c.drop_listed.ensures.gone (ok_of c.finish_removal.result _ c.in_ok-finish_removal.was c.finish_removal.ensures.gone)

pub returns-clause-leaves : goal.returns-clause-leaves
returns-clause-leaves g c = λ n leaves.
    let gone = ok_of c.finish_removal.result _ c.in_ok-finish_removal.was c.finish_removal.ensures.gone in
    elim (c.drop_listed.ensures.leaves gone n leaves) [ inl never ↦ absurd never | inr below ↦ inr below ]
