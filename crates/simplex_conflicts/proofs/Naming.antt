-- One more subject, which conflicts with none of those that are known.
use Rattle.std.proofs.Common.{◌≡◌, ℕ, ◌<◌, ◌==◌, ◌&&◌, ◌||◌, Bool, true, false, not, List, ◌∷◌, Option, Some, None, if◌then◌else◌, refl, sym, ap, subst, ◌∙◌, eqb-true, eq-eqb, inl, inr}
use Rattle.std.specs.BTreeSet.{BTreeSet}
use Rattle.std.specs.List.{list_any}
use Rattle.simplex_values.specs.declared.proposal.Proposal.{Proposal}
use Rattle.simplex_values.specs.declared.proposal.Subject.{Subject}
use Rattle.simplex_values.specs.declared.proposal.Subject.TheVariants.{Notarize, Nullify, Finalize}
use Rattle.simplex_values.specs.declared.round.Round.{Round}
use Rattle.simplex_values.specs.Maps.{found, has}
use Rattle.simplex_values.specs.Proposal.{is_same_proposal}
use Rattle.simplex_values.proofs.Same.{proposals_same}
use Rattle.law_agreement.specs.World.{view_of}
use Rattle.model_audit.specs.Conflicts.{are_rivals, conflicts}
use Rattle.simplex_conflicts.specs.declared.index.Index.{Index}
use Rattle.simplex_conflicts.specs.Stairs.{StairsStand, is_between}
use Rattle.simplex_conflicts.specs.Indexes.{Indexes, is_other, is_named_rival, is_named_across, is_final_between, is_given_up_by}
use Rattle.simplex_conflicts.proofs.Tests.{either, never, or_false, or_first}
use Rattle.simplex_conflicts.proofs.Asking.{notarize_conflicts, finalize_conflicts}

-- ---- no rival

pub no_rival_notarized : (length : ℕ) (p : Proposal) (known : List Subject) → list_any (conflicts length (Notarize p)) known ≡ false
    → list_any (is_named_rival p) known ≡ false
no_rival_notarized length p known none =
    or_first (list_any (is_named_rival p) known) (list_any (is_final_between p) known) (sym (notarize_conflicts length p known) ∙ none)

pub no_rival_finalized : (length : ℕ) (p : Proposal) (known : List Subject) → list_any (conflicts length (Finalize p)) known ≡ false
    → list_any (is_named_rival p) known ≡ false
no_rival_finalized length p known none =
    let rival = list_any (is_named_rival p) known in
    let across = list_any (is_named_across (view_of p)) known in
    let between = list_any (is_final_between p) known in
    let given = list_any (is_given_up_by length (view_of p)) known in
    or_first rival across (or_first (rival || across) (between || given) (sym (finalize_conflicts length p known) ∙ none))

-- ---- the proposals that are named

-- where the kept one of a view is no other than one, it is this one or none
kept_is : (p : Proposal) (kept : Option Proposal) (q : Proposal) → is_other p kept ≡ false
    → (not (is_same_proposal q p) || is_other q kept) ≡ not (is_same_proposal q p)
kept_is p None q none = or_false (not (is_same_proposal q p))
kept_is p (Some r) q none =
    let same : p ≡ r = proposals_same p r (not_not (is_same_proposal p r) none) in
    ap (λ (x : Proposal). not (is_same_proposal q p) || not (is_same_proposal q x)) (sym same) ∙ or_itself (not (is_same_proposal q p))
  where
    not_not : (b : Bool) → not b ≡ false → b ≡ true
    not_not true e = refl
    not_not false e = cc

    or_itself : (b : Bool) → (b || b) ≡ b
    or_itself true = refl
    or_itself false = refl

apart : (p q : Proposal) → (view_of p == view_of q) ≡ false → are_rivals q p ≡ false
apart p q e = rw (turned (view_of q) (view_of p) e) refl
  where
    turned : (m n : ℕ) → (n == m) ≡ false → (m == n) ≡ false
    turned m n e = never (m == n) (λ same. (let eq : n ≡ m = sym (eqb-true m n same) in let is = eq-eqb n m eq in cc))

pub named_more : (p : Proposal) (known : List Subject) (kept next : ℕ → Option Proposal)
    → ((q : Proposal) → is_other q (kept (view_of q)) ≡ list_any (is_named_rival q) known)
    → ((view : ℕ) → next view ≡ (if view_of p == view then Some p else kept view))
    → list_any (is_named_rival p) known ≡ false
    → (q : Proposal) → is_other q (next (view_of q)) ≡ (are_rivals q p || list_any (is_named_rival q) known)
named_more p known kept next are is none q = elim (either (view_of p == view_of q)) [
  | inl same ↦ (
      let views : view_of q ≡ view_of p = sym (eqb-true (view_of p) (view_of q) same) in
      let here : kept (view_of q) ≡ kept (view_of p) = ap kept views in
      let nothing : is_other p (kept (view_of p)) ≡ false = are p ∙ none in
      let rival : are_rivals q p ≡ not (is_same_proposal q p) =
      ap (λ (t : Bool). t && not (is_same_proposal q p)) (eq-eqb (view_of q) (view_of p) views) in
      let taken : next (view_of q) ≡ Some p = is (view_of q) ∙ rw same refl in
      ap (is_other q) taken
      ∙ sym (kept_is p (kept (view_of p)) q nothing)
      ∙ ap (λ (o : Option Proposal). not (is_same_proposal q p) || is_other q o) (sym here)
      ∙ ap (λ (t : Bool). not (is_same_proposal q p) || t) (are q)
      ∙ ap (λ (t : Bool). t || list_any (is_named_rival q) known) (sym rival))
  | inr differ ↦ (
      let left : next (view_of q) ≡ kept (view_of q) = is (view_of q) ∙ rw differ refl in
      ap (is_other q) left ∙ are q
      ∙ ap (λ (t : Bool). t || list_any (is_named_rival q) known) (sym (apart p q differ)))
]

-- ---- the index

-- what naming a proposal leaves
pub record Named (old new : Index) (p : Proposal) : Type 0 where
  pub length : new.length ≡ old.length
  pub nullified : new.nullified ≡ old.nullified
  pub named : (q : ℕ) → found new.named q ≡ (if view_of p == q then Some p else found old.named q)
  pub stairs : (spanned : ℕ → Bool) → StairsStand old.stairs spanned → StairsStand new.stairs (λ view. is_between p.parent (view_of p) view || spanned view)

notarized : (length : ℕ) (old new : Index) (p : Proposal) (known : List Subject) → Named old new p → new.finals ≡ old.finals → Indexes old known
    → list_any (conflicts length (Notarize p)) known ≡ false → Indexes new (Notarize p ∷ known)
notarized length old new p known named finals index none = record {
  some_length = subst (λ n. 0 < n) (sym named.length) index.some_length;
  named_are = named_more p known (λ view. found old.named view) (λ view. found new.named view) index.named_are named.named
      (no_rival_notarized length p known none);
  finals_are = λ view. ap (λ views. has views view) finals ∙ index.finals_are view;
  nullified_are = λ view. ap (λ views. has views view) named.nullified ∙ index.nullified_are view;
  stairs_are = named.stairs (λ view. list_any (is_named_across view) known) index.stairs_are;
}

finalized : (length : ℕ) (old new : Index) (p : Proposal) (known : List Subject) → Named old new p
    → ((q : ℕ) → has new.finals q ≡ (view_of p == q || has old.finals q)) → Indexes old known
    → list_any (conflicts length (Finalize p)) known ≡ false → Indexes new (Finalize p ∷ known)
finalized length old new p known named finals index none = record {
  some_length = subst (λ n. 0 < n) (sym named.length) index.some_length;
  named_are = named_more p known (λ view. found old.named view) (λ view. found new.named view) index.named_are named.named
      (no_rival_finalized length p known none);
  finals_are = λ view. finals view ∙ ap (λ (t : Bool). view_of p == view || t) (index.finals_are view);
  nullified_are = λ view. ap (λ views. has views view) named.nullified ∙ index.nullified_are view;
  stairs_are = named.stairs (λ view. list_any (is_named_across view) known) index.stairs_are;
}

nullified_too : (old new : Index) (r : Round) (known : List Subject) → new.length ≡ old.length → new.named ≡ old.named
    → new.finals ≡ old.finals → new.stairs ≡ old.stairs
    → ((q : ℕ) → has new.nullified q ≡ (r.view == q || has old.nullified q)) → Indexes old known → Indexes new (Nullify r ∷ known)
nullified_too old new r known length named finals stairs nullified index = record {
  some_length = subst (λ n. 0 < n) (sym length) index.some_length;
  named_are = λ p. ap (λ kept. is_other p (found kept (view_of p))) named ∙ index.named_are p;
  finals_are = λ view. ap (λ views. has views view) finals ∙ index.finals_are view;
  nullified_are = λ view. nullified view ∙ ap (λ (t : Bool). r.view == view || t) (index.nullified_are view);
  stairs_are = rw stairs index.stairs_are;
}

-- a view that is put into a set
pub added : (new between old : BTreeSet ℕ) (number view : ℕ) → number ≡ view → between ≡ old
    → ((q : ℕ) → has new q ≡ (number == q || has between q)) → (q : ℕ) → has new q ≡ (view == q || has old q)
added new between old number view same sets is q = is q ∙ rw (same, sets) refl

-- ---- a subject, by its case

module _ (old new : Index) (subject : Subject) (known : List Subject) (index : Indexes old known)
    (none : list_any (conflicts old.length subject) known ≡ false) where
  pub notarize_more : (p : Proposal) → subject ≡ Notarize p → Named old new p → new.finals ≡ old.finals → Indexes new (subject ∷ known)
  notarize_more p is named finals =
      subst (λ (s : Subject). Indexes new (s ∷ known)) (sym is)
      (notarized old.length old new p known named finals index (subst (λ (s : Subject). list_any (conflicts old.length s) known ≡ false) is none))

  pub finalize_more : (p : Proposal) → subject ≡ Finalize p → Named old new p → ((q : ℕ) → has new.finals q ≡ (view_of p == q || has old.finals q))
      → Indexes new (subject ∷ known)
  finalize_more p is named finals =
      subst (λ (s : Subject). Indexes new (s ∷ known)) (sym is)
      (finalized old.length old new p known named finals index (subst (λ (s : Subject). list_any (conflicts old.length s) known ≡ false) is none))

  pub nullify_more : (r : Round) → subject ≡ Nullify r → new.length ≡ old.length → new.named ≡ old.named → new.finals ≡ old.finals
      → new.stairs ≡ old.stairs → ((q : ℕ) → has new.nullified q ≡ (r.view == q || has old.nullified q)) → Indexes new (subject ∷ known)
  nullify_more r is length named finals stairs nullified =
      subst (λ (s : Subject). Indexes new (s ∷ known)) (sym is) (nullified_too old new r known length named finals stairs nullified index)
