use Rattle.std.proofs.Common.{◌≡◌, ◌∙◌, ◌+◌, ◌-◌, ◌*◌, ◌<◌, ◌≤◌, [], ℕ, List, Option, None, Some, length, drop, get_or, sym, ap, subst, arith, rules, inl, inr}
use Rattle.std.proofs.lemmas.List.{drop_all}
use Rattle.std.specs.List.Sorted.{IsStrictlySortedBy}
use Rattle.std.specs.Map.{keys_of}
use Rattle.std.specs.Ordering.{nat_cmp}
use Rattle.simplex_journal.specs.Journal.{Section, pruned_first}
use Rattle.simplex_journal.proofs.Entries.{pruned_first-zero}
use Rattle.simplex_disk.specs.declared.segment.Segment.{Segment}
use Rattle.simplex_disk.specs.Calls.{Call}
use Rattle.simplex_disk.specs.Index.{IsIndexed, IsLeaving, sections_at}
use Rattle.simplex_disk.specs.Moments.{Always}
use Rattle.simplex_disk.specs.Pruning.{LeavesPruned}
use Rattle.simplex_disk.proofs.Moments.{always_join, always_weaker}
use Rattle.simplex_disk.proofs.Segments.{ok_of}
use Rattle.simplex_disk.proofs.Prunes.{pruned_start, pruned_on, pruned_first-more, all_left}
use Rattle.simplex_disk.proofs.Listings.{next_of, first_of, behind_of, none_of_next, none_of_end, rising_behind}
use Rattle.simplex_disk.proofs.Paces.{match_ok, match_err, below_none}
use Rattle.simplex_disk.proofs.pruning.drop_listed.Goals as goal

pub loop-number-init : goal.loop-number-init
loop-number-init g c = record {
  so_far = λ H st indexed none.
      let es = c.args.index.now.entries in
      record { now = H; stands = st; held = pruned_start c.args.least es H indexed; holds = (indexed, none, sym (pruned_first-zero c.args.least (sections_at H es))) };
  none = λ is. is;
  left = c.requires;
  rising = c.len-ordered.ensures.ordered;
  fewer = omega arith;
  paced = λ named pos told. (pos, told ∙ ap (λ (k : ℕ). Some (2 * k)) (let e : named ≡ named - 0 = omega arith in e));
  ends = search rules;
}

-- behind the two calls of the next one
two_on : (named i : ℕ) → i < named → 2 * (named - i) ≡ 2 + 2 * (named - (i + 1))
two_on named i lt = omega (arith, lt)

pub drop_section-requires : goal.drop_section-requires
drop_section-requires g c =
    first_of c.loop-number.index.entries _ _ (next_of c.args.numbers.now c.loop-number.number-index c.loop-number.index.entries c.loop-number-test.true c.loop-number.invariant.left)

pub returns-then-number-least-clause-stands : goal.returns-then-number-least-clause-stands
returns-then-number-least-clause-stands g c = λ H st indexed none.
    let least = c.args.least in
    let i = c.loop-number.number-index in
    let es = c.loop-number.index.entries in
    let t = c.loop-number.invariant.so_far H st indexed none in
    let next = next_of c.args.numbers.now i es c.loop-number-test.true c.loop-number.invariant.left in
    let nothing = none_of_next es _ least _ next (omega arith) in
    record {
      now = t.now;
      stands = t.stands;
      held = t.held;
      holds = (
        subst (λ (l : Option ℕ). IsIndexed es l t.now) (sym t.holds.1) t.holds.0,
        (t.holds.1, all_left i least H t.now c.args.index.now.entries es c.loop-number.invariant.rising nothing t.holds.2),
      );
    }

-- the moments of one prune more
on : (least k : ℕ) (s0 s1 : List Section) (H0 H1 H2 : List Call) → s1 ≡ pruned_first k least s0 → Always (LeavesPruned least s0 None H0) H0 H1 → Always (LeavesPruned least s1 None H1) H1 H2 → Always (LeavesPruned least s0 None H0) H0 H2
on least k s0 s1 H0 H1 H2 is first second =
    always_join (LeavesPruned least s0 None H0) H0 H1 H2 first (always_weaker (LeavesPruned least s1 None H1) (LeavesPruned least s0 None H0) (λ l left. pruned_on k least s0 s1 H0 H1 l is left) H1 H2 second)

pub returns-in_err-drop_section-clause-stands : goal.returns-in_err-drop_section-clause-stands
returns-in_err-drop_section-clause-stands g c = λ H st indexed none.
    let least = c.args.least in
    let i = c.loop-number.number-index in
    let es = c.loop-number.index.entries in
    let t = c.loop-number.invariant.so_far H st indexed none in
    let below : get_or c.args.numbers.now i 0 < least = omega arith in
    let u = c.drop_section.ensures.stands t.now t.stands t.holds.0 t.holds.1 least below in
    let s0 = sections_at H c.args.index.now.entries in
    let dropped : sections_at u.now c.drop_section.new.index.entries ≡ pruned_first (i + 1) least s0 = u.holds.1 ∙ ap (λ (q : List Section). pruned_first 1 least q) t.holds.2 ∙ pruned_first-more 1 i least s0 in
    let exact : (named : ℕ) → 0 < named → g.D.Disk.order c.args.disk.now ≡ Some (2 * named) → i + 1 ≡ named = λ named pos told.
    let p = c.loop-number.invariant.paced named pos told in
    let now : g.D.Disk.order c.loop-number.disk ≡ Some (2 + 2 * (named - (i + 1))) = p.1 ∙ ap (λ (j : ℕ). Some j) (two_on named i p.0) in
    let last : 2 * (named - (i + 1)) ≡ 0 = match_err _ _ c.drop_section.result _ c.in_err-drop_section.was (c.drop_section.ensures.paced (2 * (named - (i + 1))) now) in
    omega (arith, last, p.0) in
    let some : (d : ℕ) × (sections_at u.now c.drop_section.new.index.entries ≡ pruned_first d least s0) × ((named : ℕ) → 0 < named → g.D.Disk.order c.args.disk.now ≡ Some (2 * named) → d ≡ named) = (i + 1, dropped, exact) in
    record {
      now = u.now;
      stands = u.stands;
      held = on least i s0 (sections_at t.now es) H t.now u.now t.holds.2 t.held u.held;
      holds = (u.holds.0, search rules);
    }

pub loop-number-preserved : goal.loop-number-preserved
loop-number-preserved g c =
    let least = c.args.least in
    let i = c.loop-number.number-index in
    let es = c.loop-number.index.entries in
    let below : get_or c.args.numbers.now i 0 < least = omega arith in
    let next = next_of c.args.numbers.now i es c.loop-number-test.true c.loop-number.invariant.left in
    let kept = c.drop_section.ensures.kept in
    record {
      so_far = λ H st indexed none.
          let t = c.loop-number.invariant.so_far H st indexed none in
          let u = c.drop_section.ensures.stands t.now t.stands t.holds.0 t.holds.1 least below in
          let s0 = sections_at H c.args.index.now.entries in
          let dropped : sections_at u.now c.drop_section.new.index.entries ≡ pruned_first (i + 1) least s0 = u.holds.1 ∙ ap (λ (q : List Section). pruned_first 1 least q) t.holds.2 ∙ pruned_first-more 1 i least s0 in
          let gone = ok_of c.drop_section.result _ c.in_ok-drop_section.was c.drop_section.ensures.gone in
          record {
            now = u.now;
            stands = u.stands;
            held = on least i s0 (sections_at t.now es) H t.now u.now t.holds.2 t.held u.held;
            holds = (subst (λ (l : Option ℕ). IsIndexed c.drop_section.new.index.entries l u.now) gone u.holds.0, gone, dropped);
          };
      none = λ was. ok_of c.drop_section.result _ c.in_ok-drop_section.was c.drop_section.ensures.gone;
      left = sym (ap (λ (l : List (ℕ × Segment)). keys_of l) kept ∙ behind_of es _ _ next);
      rising = subst (λ (l : List (ℕ × Segment)). IsStrictlySortedBy nat_cmp (keys_of l)) (sym kept) (rising_behind es c.loop-number.invariant.rising);
      fewer = omega (arith, c.loop-number.invariant.fewer, c.drop_section.ensures.fewer least below);
      paced = λ named pos told.
          let p = c.loop-number.invariant.paced named pos told in
          let now : g.D.Disk.order c.loop-number.disk ≡ Some (2 + 2 * (named - (i + 1))) = p.1 ∙ ap (λ (j : ℕ). Some j) (two_on named i p.0) in
          let on = match_ok _ _ c.drop_section.result _ c.in_ok-drop_section.was (c.drop_section.ensures.paced (2 * (named - (i + 1))) now) in
          (omega (arith, on.0), on.1);
      ends = search rules;
    }

pub returns-then-number-least-clause-named : goal.returns-then-number-least-clause-named
returns-then-number-least-clause-named g c = λ named pos below told.
    let es = c.loop-number.index.entries in
    let p = c.loop-number.invariant.paced named pos told in
    let next = next_of c.args.numbers.now c.loop-number.number-index es c.loop-number-test.true c.loop-number.invariant.left in
    let none = below_none es c.args.least (none_of_next es _ c.args.least _ next (omega arith)) in
    absurd (omega (arith, p.0, none, below, c.loop-number.invariant.fewer))

-- behind the last number
ends_of : (numbers : List ℕ) (i : ℕ) (es : List (ℕ × Segment)) → length numbers ≤ i → drop i numbers ≡ keys_of es → keys_of es ≡ []
ends_of numbers i es all left = sym left ∙ drop_all i numbers all

pub returns-clause-named : goal.returns-clause-named
returns-clause-named g c = λ named pos below told.
    let es = c.loop-number.index.entries in
    let p = c.loop-number.invariant.paced named pos told in
    let none = below_none es c.args.least (none_of_end es c.args.least (ends_of c.args.numbers.now c.loop-number.number-index es (omega arith) c.loop-number.invariant.left)) in
    absurd (omega (arith, p.0, none, below, c.loop-number.invariant.fewer))

pub returns-clause-stands : goal.returns-clause-stands
returns-clause-stands g c = λ H st indexed none.
    let least = c.args.least in
    let i = c.loop-number.number-index in
    let es = c.loop-number.index.entries in
    let t = c.loop-number.invariant.so_far H st indexed none in
    let nothing = none_of_end es least (ends_of c.args.numbers.now i es (omega arith) c.loop-number.invariant.left) in
    record {
      now = t.now;
      stands = t.stands;
      held = t.held;
      holds = (
        subst (λ (l : Option ℕ). IsIndexed es l t.now) (sym t.holds.1) t.holds.0,
        (t.holds.1, all_left i least H t.now c.args.index.now.entries es c.loop-number.invariant.rising nothing t.holds.2),
      );
    }

pub returns-in_err-drop_section-clause-leaves : goal.returns-in_err-drop_section-clause-leaves
returns-in_err-drop_section-clause-leaves g c = λ was n leaves.
    let below : get_or c.args.numbers.now c.loop-number.number-index 0 < c.args.least = omega arith in
    inr (subst (λ (k : ℕ). k < c.args.least) (c.drop_section.ensures.leaves n leaves) below)

pub returns-then-number-least-clause-leaves : goal.returns-then-number-least-clause-leaves
returns-then-number-least-clause-leaves g c = λ was n leaves. inl (subst (λ (l : Option ℕ). IsLeaving l n) (c.loop-number.invariant.none was) leaves)

pub returns-clause-leaves : goal.returns-clause-leaves
returns-clause-leaves g c = λ was n leaves. inl (subst (λ (l : Option ℕ). IsLeaving l n) (c.loop-number.invariant.none was) leaves)
