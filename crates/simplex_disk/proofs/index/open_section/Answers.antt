use Rattle.std.proofs.Common.{◌≡◌, ◌∙◌, ℕ, List, [], ◌∷◌, None, Some, ap, subst, sym, rules, inl, inr}
use Rattle.simplex_journal.specs.Journal.{Section, appended}
use Rattle.simplex_disk.specs.declared.segment.Segment.{Segment}
use Rattle.simplex_disk.specs.Index.{sections_at, IsIndexed}
use Rattle.simplex_disk.specs.Segments.{IsSegment}
use Rattle.simplex_disk.proofs.Segments.{ok_of, ok_with}
use Rattle.simplex_disk.proofs.Whole.{shut_of, moments_new, same_none, indexed_new, appended_new, indexed_making, goes_join}
use Rattle.simplex_disk.proofs.index.open_section.Goals as goal

pub returns-in_err-finish_removal-clause-goes : goal.returns-in_err-finish_removal-clause-goes
returns-in_err-finish_removal-clause-goes g c = λ a reads spelled H st indexed.
    let t = c.finish_removal.ensures.goes c.args.index.now.entries H st indexed in
    let same = t.holds.1 in
    record { now = t.now; stands = t.stands; held = t.held; holds = (t.holds.0, search rules) }

pub returns-in_err-finish_removal-clause-less : goal.returns-in_err-finish_removal-clause-less
returns-in_err-finish_removal-clause-less g c = λ n leaves. inl (c.finish_removal.ensures.less n leaves)

pub first_record-requires : goal.first_record-requires
first_record-requires g c =
    let n = c.args.number in
    let es = c.args.index.now.entries in
    let q = c.requires.indexed in
    let t = c.finish_removal.ensures.goes es q.0 q.1 q.2 in
    let gone = ok_of c.finish_removal.result _ c.in_ok-finish_removal.was c.finish_removal.ensures.gone in
    let none = subst (λ (l : _). IsIndexed es l t.now) gone t.holds.0 in
    (t.now, t.stands, shut_of n es None t.now none (λ h. h) c.requires.absent)

pub returns-in_err-segment-clause-goes : goal.returns-in_err-segment-clause-goes
returns-in_err-segment-clause-goes g c = λ a reads spelled H st indexed.
    let n = c.args.number in
    let es = c.args.index.now.entries in
    let absent = c.requires.absent in
    let t = c.finish_removal.ensures.goes es H st indexed in
    let gone = ok_of c.finish_removal.result _ c.in_ok-finish_removal.was c.finish_removal.ensures.gone in
    let none = subst (λ (l : _). IsIndexed es l t.now) gone t.holds.0 in
    let u = c.first_record.ensures.stands t.now t.stands (shut_of n es None t.now none (λ h. h) absent) in
    let read : sections_at u.now es ≡ sections_at H es = same_none n es None t.now none (λ h. h) absent u.now u.held ∙ t.holds.1 in
    record {
      now = u.now;
      stands = u.stands;
      held = goes_join es c.args.leaving.now None H t.now u.now (λ m leaves. absurd leaves) indexed.gone t.held t.holds.1 (moments_new n es None t.now none (λ h. h) absent u.now u.held);
      holds = (indexed_making n es t.now none absent u.now u.held u.holds.0, search rules);
    }

pub returns-in_err-put-clause-goes : goal.returns-in_err-put-clause-goes
returns-in_err-put-clause-goes g c = λ a reads spelled H st indexed.
    let n = c.args.number in
    let es = c.args.index.now.entries in
    let absent = c.requires.absent in
    let t = c.finish_removal.ensures.goes es H st indexed in
    let gone = ok_of c.finish_removal.result _ c.in_ok-finish_removal.was c.finish_removal.ensures.gone in
    let none = subst (λ (l : _). IsIndexed es l t.now) gone t.holds.0 in
    let u = c.first_record.ensures.stands t.now t.stands (shut_of n es None t.now none (λ h. h) absent) in
    let same : c.put.new.index.entries ≡ es = c.in_err-put.ensures.err in
    let read : sections_at u.now c.put.new.index.entries ≡ sections_at H es =
    ap (λ (l : List (ℕ × Segment)). sections_at u.now l) same ∙ same_none n es None t.now none (λ h. h) absent u.now u.held ∙ t.holds.1 in
    record {
      now = u.now;
      stands = u.stands;
      held = goes_join es c.args.leaving.now None H t.now u.now (λ m leaves. absurd leaves) indexed.gone t.held t.holds.1 (moments_new n es None t.now none (λ h. h) absent u.now u.held);
      holds = (subst (λ (l : List (ℕ × Segment)). IsIndexed l (Some n) u.now) (sym same) (indexed_making n es t.now none absent u.now u.held u.holds.0), search rules);
    }

pub returns-clause-goes : goal.returns-clause-goes
returns-clause-goes g c = λ a reads spelled H st indexed.
    let n = c.args.number in
    let es = c.args.index.now.entries in
    let absent = c.requires.absent in
    let t = c.finish_removal.ensures.goes es H st indexed in
    let gone = ok_of c.finish_removal.result _ c.in_ok-finish_removal.was c.finish_removal.ensures.gone in
    let none = subst (λ (l : _). IsIndexed es l t.now) gone t.holds.0 in
    let u = c.first_record.ensures.stands t.now t.stands (shut_of n es None t.now none (λ h. h) absent) in
    let new = c.put.new.index.entries in
    let w = c.in_ok-segment.segment in
    let is = c.in_ok-put.ensures.ok in
    let seg : IsSegment n w [] (a ∷ []) u.now = (ok_with _ c.first_record.result _ c.in_ok-segment.was u.holds.1) a reads spelled in
    record {
      now = u.now;
      stands = u.stands;
      held = goes_join es c.args.leaving.now None H t.now u.now (λ m leaves. absurd leaves) indexed.gone t.held t.holds.1 (moments_new n es None t.now none (λ h. h) absent u.now u.held);
      holds = (
        indexed_new n es None t.now none (λ h. h) absent u.now u.held new w is [] (a ∷ []) seg,
        appended_new n es None t.now none (λ h. h) absent u.now u.held new w is a seg ∙ ap (λ (s : List Section). appended n a s) t.holds.1,
      );
    }

pub returns-in_err-segment-clause-less : goal.returns-in_err-segment-clause-less
returns-in_err-segment-clause-less g c = λ n leaves. inr (sym leaves)

pub returns-in_err-put-clause-less : goal.returns-in_err-put-clause-less
returns-in_err-put-clause-less g c = λ n leaves. inr (sym leaves)

pub returns-clause-less : goal.returns-clause-less
returns-clause-less g c = λ n leaves. absurd leaves
