-- A certificate that is recorded at its view.
use Rattle.std.proofs.Common.{◌≡◌, ◌==◌, ℕ, Bool, true, false, cond, [], ◌∷◌, List, Some, None, arith, refl, sym, subst}
use Rattle.std.proofs.lemmas.Grind.{common_steps}
use Rattle.std.specs.Cmp.{unsigned_tied}
use Rattle.std.specs.Ordering.{nat_cmp}
use Rattle.std.specs.BTreeMap.{BTreeMap, is_at}
use Rattle.std.specs.BTreeMap as tree
use Rattle.simplex_values.specs.Maps.{found}
use Rattle.simplex_types.specs.declared.activity.Activity.{Activity}
use Rattle.simplex_types.specs.Evidence.{was_verified, activity_round}
use Rattle.simplex_recording.specs.declared.at_view.AtView.{AtView}
use Rattle.simplex_recording.specs.declared.certificates.Certificates.{Certificates}
use Rattle.simplex_recording.specs.Kept.{kept_at, nothing}
use Rattle.simplex_recording.specs.Recording.{certifies_view, has_certificate, notarization_at, certification_at, nullification_at, finalization_at, finalizations_at}
use Rattle.simplex_recording.specs.Stands.{AtViewOf, CertificatesOf}
use Rattle.simplex_recording.proofs.Apart.{view_apart}

-- what is kept of a view is what stands there
kept_some : (views : BTreeMap ℕ AtView) (view : ℕ) (kept : AtView) → found views view ≡ Some kept → kept_at views view ≡ kept
unfolding kept_at
kept_some views view kept e = rw e refl

kept_none : (views : BTreeMap ℕ AtView) (view : ℕ) → found views view ≡ None → kept_at views view ≡ nothing
unfolding kept_at
kept_none views view e = rw e refl

nothing_stands : (view : ℕ) → AtViewOf nothing [] view
unfolding has_certificate notarization_at certification_at nullification_at finalization_at finalizations_at
nothing_stands view = record { certified_is = refl; notarization_is = refl; certification_is = refl; nullification_is = refl; finalization_is = refl; count_is = refl }

-- a view that does not stand there
pub none_at : (views : BTreeMap ℕ AtView) (view : ℕ) → found views view ≡ None → AtViewOf (kept_at views view) [] view
none_at views view e = subst (λ (kept : AtView). AtViewOf kept [] view) (sym (kept_none views view e)) (nothing_stands view)

kept_same : (old new : BTreeMap ℕ AtView) (view : ℕ) → found new view ≡ found old view → kept_at new view ≡ kept_at old view
unfolding kept_at
kept_same old new view e = rw e refl

entered_here : (old new : BTreeMap ℕ AtView) (was is : AtView) (activity : Activity) (all : List Activity) (view : ℕ)
    → found old view ≡ Some was → found new view ≡ Some is → certifies_view view activity ≡ true
    → (AtViewOf was all view → AtViewOf is (activity ∷ all) view)
    → AtViewOf (kept_at old view) all view → AtViewOf (kept_at new view) (activity ∷ all) view
entered_here old new was is activity all view before after certifies step stands =
    subst (λ (kept : AtView). AtViewOf kept (activity ∷ all) view) (sym (kept_some new view is after))
    (step (subst (λ (kept : AtView). AtViewOf kept all view) (kept_some old view was before) stands))

entered_elsewhere : (old new : BTreeMap ℕ AtView) (activity : Activity) (all : List Activity) (view : ℕ)
    → found new view ≡ found old view → certifies_view view activity ≡ false
    → AtViewOf (kept_at old view) all view → AtViewOf (kept_at new view) (activity ∷ all) view
entered_elsewhere old new activity all view same certifies stands =
    view_apart (kept_at new view) activity all view certifies
    (subst (λ (kept : AtView). AtViewOf kept all view) (sym (kept_same old new view same)) stands)

entered_by : (old new : BTreeMap ℕ AtView) (was is : AtView) (activity : Activity) (all : List Activity) (view : ℕ)
    → (here : Bool) → ((activity_round activity).view == view) ≡ here
    → found old (activity_round activity).view ≡ Some was
    → found new view ≡ cond here (Some is) (found old view)
    → was_verified activity ≡ true
    → (certifies_view view activity ≡ true → AtViewOf was all view → AtViewOf is (activity ∷ all) view)
    → AtViewOf (kept_at old view) all view → AtViewOf (kept_at new view) (activity ∷ all) view
entered_by old new was is activity all view true e before after verified step stands =
    let at : found old view ≡ Some was = grind (arith, common_steps) in
    let certifies : certifies_view view activity ≡ true = grind (arith, common_steps) in
    entered_here old new was is activity all view at after certifies (step certifies) stands
entered_by old new was is activity all view false e before after verified step stands =
    let certifies : certifies_view view activity ≡ false = grind (arith, common_steps) in
    entered_elsewhere old new activity all view after certifies stands

entered_at : (old new : BTreeMap ℕ AtView) (was is : AtView) (activity : Activity) (all : List Activity) (view : ℕ)
    → found old (activity_round activity).view ≡ Some was
    → found new view ≡ cond ((activity_round activity).view == view) (Some is) (found old view)
    → was_verified activity ≡ true
    → (certifies_view view activity ≡ true → AtViewOf was all view → AtViewOf is (activity ∷ all) view)
    → AtViewOf (kept_at old view) all view → AtViewOf (kept_at new view) (activity ∷ all) view
entered_at old new was is activity all view = entered_by old new was is activity all view ((activity_round activity).view == view) refl

found_there : (views : BTreeMap ℕ AtView) (key view : ℕ) (was : AtView) → key ≡ view → tree.get nat_cmp views key ≡ Some was → found views view ≡ Some was
unfolding found
found_there views key view was same there = rw (← same) there

found_after : (old new : BTreeMap ℕ AtView) (is : AtView) (key view q : ℕ) → key ≡ view
    → tree.get nat_cmp new q ≡ cond (is_at (nat_cmp key) q) (Some is) (tree.get nat_cmp old q)
    → found new q ≡ cond (view == q) (Some is) (found old q)
unfolding found
found_after old new is key view q same put = grind (arith, common_steps, unsigned_tied key q)

-- what a certificate makes of all views, where its view stands there
pub certificates_entered : (old new : BTreeMap ℕ AtView) (was is : AtView) (activity : Activity) (all : List Activity) (key : ℕ)
    → key ≡ (activity_round activity).view
    → tree.get nat_cmp old key ≡ Some was
    → ((q : ℕ) → tree.get nat_cmp new q ≡ cond (is_at (nat_cmp key) q) (Some is) (tree.get nat_cmp old q))
    → was_verified activity ≡ true
    → ((q : ℕ) → certifies_view q activity ≡ true → AtViewOf was all q → AtViewOf is (activity ∷ all) q)
    → ((q : ℕ) → AtViewOf (kept_at old q) all q) → (q : ℕ) → AtViewOf (kept_at new q) (activity ∷ all) q
certificates_entered old new was is activity all key at there put verified step stands q =
    entered_at old new was is activity all q
    (found_there old key (activity_round activity).view was at there)
    (found_after old new is key (activity_round activity).view q at (put q))
    verified (step q) (stands q)

-- room means nothing
pub certificates_same : (old new : Certificates) (all : List Activity) → ((view : ℕ) → kept_at new.views view ≡ kept_at old.views view) → CertificatesOf old all → CertificatesOf new all
certificates_same old new all same are = record { views_are = λ view. subst (λ (kept : AtView). AtViewOf kept all view) (sym (same view)) (are.views_are view) }
