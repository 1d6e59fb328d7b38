-- Evidence that is put last in a list.
use Rattle.std.proofs.Common.{◌≡◌, ◌==◌, ◌&&◌, ℕ, Bool, true, false, cond, List, Some, arith, refl, sym, ap, subst, ◌∙◌, if◌then◌else◌}
use Rattle.std.proofs.lemmas.Grind.{common_steps}
use Rattle.std.specs.Global.{Vec}
use Rattle.std.specs.BTreeMap.{BTreeMap, is_at}
use Rattle.std.specs.BTreeMap as tree
use Rattle.simplex_types.specs.declared.activity.Activity.{Activity}
use Rattle.simplex_recording.specs.Kept.{pair_cmp, evidence_in}
use Rattle.simplex_recording.specs.Recording.{with_evidence}
use Rattle.simplex_recording.proofs.Keys.{pair_at}

evidence_found : (lists : BTreeMap (ℕ × ℕ) (Vec Activity)) (view member : ℕ) (was : Vec Activity)
    → tree.get_by (pair_cmp (view, member)) lists ≡ Some was → evidence_in lists view member ≡ was.items
unfolding evidence_in
evidence_found lists view member was e = rw e refl

evidence_at : (lists : BTreeMap (ℕ × ℕ) (Vec Activity)) (view member v m : ℕ) (was : List Activity)
    → evidence_in lists view member ≡ was → (view == v && member == m) ≡ true → evidence_in lists v m ≡ was
evidence_at lists view member v m was there here =
    let a : view ≡ v = grind (arith, common_steps) in
    let b : member ≡ m = grind (arith, common_steps) in
    cc

evidence_after : (old new : BTreeMap (ℕ × ℕ) (Vec Activity)) (view member v m : ℕ) (is : Vec Activity)
    → tree.get pair_cmp new (v, m) ≡ cond (is_at (pair_cmp (view, member)) (v, m)) (Some is) (tree.get pair_cmp old (v, m))
    → evidence_in new v m ≡ (if view == v && member == m then is.items else evidence_in old v m)
unfolding evidence_in
evidence_after old new view member v m is put = grind (arith, common_steps, put, pair_at view member (v, m))

either_changed : (here : Bool) (change : List Activity → List Activity) (old new was is : List Activity)
    → (here ≡ true → old ≡ was) → new ≡ (if here then is else old) → is ≡ change was → new ≡ (if here then change old else old)
either_changed true change old new was is same put e = put ∙ (e ∙ sym (ap change (same refl)))
either_changed false change old new was is same put e = put

either_same : (here : Bool) (old new was is : List Activity)
    → (here ≡ true → old ≡ was) → new ≡ (if here then is else old) → is ≡ was → new ≡ old
either_same true old new was is same put e = put ∙ (e ∙ sym (same refl))
either_same false old new was is same put e = put

pushed_at : (old new : BTreeMap (ℕ × ℕ) (Vec Activity)) (view member : ℕ) (was is : Vec Activity) (evidence : Activity)
    → tree.get_by (pair_cmp (view, member)) old ≡ Some was
    → ((q : ℕ × ℕ) → tree.get pair_cmp new q ≡ cond (is_at (pair_cmp (view, member)) q) (Some is) (tree.get pair_cmp old q))
    → is.items ≡ with_evidence evidence was.items
    → (v m : ℕ) → evidence_in new v m ≡ (if view == v && member == m then with_evidence evidence (evidence_in old v m) else evidence_in old v m)
pushed_at old new view member was is evidence there put pushed v m =
    either_changed (view == v && member == m) (with_evidence evidence) (evidence_in old v m) (evidence_in new v m) was.items is.items
    (evidence_at old view member v m was.items (evidence_found old view member was there))
    (evidence_after old new view member v m is (put (v, m)))
    pushed

-- the evidence was put last
pub evidence_pushed : (old new : BTreeMap (ℕ × ℕ) (Vec Activity)) (first second view member : ℕ) (was is : Vec Activity) (evidence : Activity)
    → first ≡ view → second ≡ member
    → tree.get_by (pair_cmp (first, second)) old ≡ Some was
    → ((q : ℕ × ℕ) → tree.get pair_cmp new q ≡ cond (is_at (pair_cmp (first, second)) q) (Some is) (tree.get pair_cmp old q))
    → is.items ≡ with_evidence evidence was.items
    → (v m : ℕ) → evidence_in new v m ≡ (if view == v && member == m then with_evidence evidence (evidence_in old v m) else evidence_in old v m)
evidence_pushed old new first second view member was is evidence a b there put pushed v m =
    subst (λ (x : ℕ). evidence_in new v m ≡ (if x == v && member == m then with_evidence evidence (evidence_in old v m) else evidence_in old v m)) a
    (subst (λ (y : ℕ). evidence_in new v m ≡ (if first == v && y == m then with_evidence evidence (evidence_in old v m) else evidence_in old v m)) b
    (pushed_at old new first second was is evidence there put pushed v m))

-- the list stayed
pub evidence_kept : (old new : BTreeMap (ℕ × ℕ) (Vec Activity)) (view member : ℕ) (was is : Vec Activity)
    → tree.get_by (pair_cmp (view, member)) old ≡ Some was
    → ((q : ℕ × ℕ) → tree.get pair_cmp new q ≡ cond (is_at (pair_cmp (view, member)) q) (Some is) (tree.get pair_cmp old q))
    → is.items ≡ was.items
    → (v m : ℕ) → evidence_in new v m ≡ evidence_in old v m
evidence_kept old new view member was is there put kept v m =
    either_same (view == v && member == m) (evidence_in old v m) (evidence_in new v m) was.items is.items
    (evidence_at old view member v m was.items (evidence_found old view member was there))
    (evidence_after old new view member v m is (put (v, m)))
    kept
