-- Votes that are in order do not conflict.
use Rattle.std.proofs.Common.{◌≡◌, ℕ, ◌⊎◌, Bool, true, false, List, [], ◌∷◌, get_or, AllPairs, Contains, refl, sym, ap, subst₂, ◌∙◌, inl, inr, arith}
use Rattle.std.specs.Prelude.{◌==◌, ◌&&◌, not}
use Rattle.std.specs.Str.{bytes_eq}
use Rattle.std.proofs.lemmas.Bool.{cases_order, eq-eqb}
use Rattle.std.proofs.lemmas.Slice.Eq.{bytes_eq-Decides}
use Rattle.std.proofs.lemmas.List.{get_or_default}
use Rattle.simplex_values.specs.declared.proposal.Proposal.{Proposal}
use Rattle.simplex_values.specs.declared.proposal.Subject.{Subject}
use Rattle.simplex_values.specs.Proposal.{is_same_round, is_same_proposal}
use Rattle.simplex_values.specs.Terms.{term_index}
use Rattle.simplex_wire.specs.declared.vote.Vote.{Vote}
use Rattle.simplex_wire.specs.declared.vote.Vote.TheVariants as votes
use Rattle.simplex_wire.specs.Fields.{vote_subject}
use Rattle.model_steps.specs.Batcher.{vote_view}
use Rattle.law_member.specs.Reports.{conflict}
use Rattle.law_agreement.specs.World.{Certificate, Sent, KnowsFinalized, MayFollow, view_of}
use Rattle.law_agreement.proofs.ListFacts.{not_in_empty, Contains-here, Contains-there, Contains-cons_cases}
use Rattle.law_member.specs.Evidence.{subjects_of, AreInOrder}

and_true : (a b : Bool) → a ≡ true → b ≡ true → (a && b) ≡ true
and_true true b e f = f
and_true false b e f = cc

-- a proposal is the same as itself
same_itself : (p : Proposal) → is_same_proposal p p ≡ true
same_itself p =
    and_true (is_same_round p.round p.round && p.parent == p.parent) (bytes_eq p.payload p.payload)
    (and_true (is_same_round p.round p.round) (p.parent == p.parent)
    (and_true (p.round.epoch == p.round.epoch) (p.round.view == p.round.view) (eq-eqb p.round.epoch p.round.epoch refl) (eq-eqb p.round.view p.round.view refl))
    (eq-eqb p.parent p.parent refl)) ((bytes_eq-Decides p.payload p.payload).1 refl)

differ : (p q : Proposal) → p ≡ q → not (is_same_proposal p q) ≡ true → ⊥
differ p q e d =
    let same : is_same_proposal p q ≡ true = ap (λ (r : Proposal). is_same_proposal p r) (sym e) ∙ same_itself p in
    cc

module _ (length : ℕ) (known : List Certificate) where
  -- what conflicts with an earlier vote may not follow it
  later : (a b : Vote) → vote_view a ≡ vote_view b → conflict a b ≡ true → MayFollow length (vote_subject a) (vote_subject b) known → ⊥
  later (votes.Notarize a) (votes.Notarize b) e c h = differ a.proposal b.proposal (h e) c
  later (votes.Notarize a) (votes.Nullify b) e c h = absurd cc
  later (votes.Notarize a) (votes.Finalize b) e c h = absurd cc
  later (votes.Nullify a) (votes.Notarize b) e c h = absurd cc
  later (votes.Nullify a) (votes.Nullify b) e c h = absurd cc
  later (votes.Nullify a) (votes.Finalize b) e c h =
      let final : KnowsFinalized known a.round.view (view_of b.proposal) = h (ap (λ (v : ℕ). term_index length v) e, omega (arith, e)) in
      omega (arith, e, final.2, final.3)
  later (votes.Finalize a) (votes.Notarize b) e c h = absurd cc
  later (votes.Finalize a) (votes.Nullify b) e c h = absurd cc
  later (votes.Finalize a) (votes.Finalize b) e c h = differ a.proposal b.proposal (h e) c

  -- nor may it come before it
  earlier : (a b : Vote) → vote_view a ≡ vote_view b → conflict a b ≡ true → MayFollow length (vote_subject b) (vote_subject a) known → ⊥
  earlier (votes.Notarize a) (votes.Notarize b) e c h = differ a.proposal b.proposal (sym (h (sym e))) c
  earlier (votes.Notarize a) (votes.Nullify b) e c h = absurd cc
  earlier (votes.Notarize a) (votes.Finalize b) e c h = absurd cc
  earlier (votes.Nullify a) (votes.Notarize b) e c h = absurd cc
  earlier (votes.Nullify a) (votes.Nullify b) e c h = absurd cc
  earlier (votes.Nullify a) (votes.Finalize b) e c h = h (ap (λ (v : ℕ). term_index length v) e, omega (arith, e))
  earlier (votes.Finalize a) (votes.Notarize b) e c h = absurd cc
  earlier (votes.Finalize a) (votes.Nullify b) e c h = absurd cc
  earlier (votes.Finalize a) (votes.Finalize b) e c h = differ a.proposal b.proposal (sym (h (sym e))) c

-- votes on one subject do not conflict
alike : (a b : Vote) → vote_subject a ≡ vote_subject b → conflict a b ≡ true → ⊥
alike (votes.Notarize a) (votes.Notarize b) e c = let same : a.proposal ≡ b.proposal = cc in differ a.proposal b.proposal same c
alike (votes.Notarize a) (votes.Nullify b) e c = cc
alike (votes.Notarize a) (votes.Finalize b) e c = cc
alike (votes.Nullify a) (votes.Notarize b) e c = cc
alike (votes.Nullify a) (votes.Nullify b) e c = cc
alike (votes.Nullify a) (votes.Finalize b) e c = cc
alike (votes.Finalize a) (votes.Notarize b) e c = cc
alike (votes.Finalize a) (votes.Nullify b) e c = cc
alike (votes.Finalize a) (votes.Finalize b) e c = let same : a.proposal ≡ b.proposal = cc in differ a.proposal b.proposal same c

-- two elements are the same, or one stands before the other
pairs_cases : {X : Type 0} (R : X → X → Type 0) (xs : List X) (x y : X) → AllPairs R xs → Contains xs x → Contains xs y → (x ≡ y) ⊎ (R x y ⊎ R y x)
pairs_cases R xs x y h cx cy =
    let here : get_or xs cy.0 x ≡ y = get_or_default xs cy.0 x y cy.1 ∙ cy.2 in
    elim (cases_order cx.0 cy.0) [
      | inl e ↦ inl (sym cx.2 ∙ ap (λ k. get_or xs k x) e ∙ here)
      | inr (inl lt) ↦ inr (inl (subst₂ R cx.2 here (h cx.0 cy.0 x lt cy.1)))
      | inr (inr gt) ↦ inr (inr (subst₂ R here cx.2 (h cy.0 cx.0 x gt cx.1)))
    ]

-- a vote that was sent on a subject
sent_on : (sent : List Sent) (s : Subject) → Contains (subjects_of sent) s → (x : Sent) × Contains sent x × (x.subject ≡ s)
sent_on [] s c = absurd (not_in_empty s c)
sent_on (x ∷ rest) s c =
    elim (Contains-cons_cases x.subject (subjects_of rest) s c) [
      | inl here ↦ (x, Contains-here x rest, here)
      | inr there ↦ let y = sent_on rest s there in (y.0, Contains-there x rest y.0 y.1, y.2)
    ]

pub none_conflict : (length : ℕ) (sent : List Sent) → AreInOrder length sent → (a b : Vote)
    → Contains (subjects_of sent) (vote_subject a) → Contains (subjects_of sent) (vote_subject b)
    → vote_view a ≡ vote_view b → conflict a b ≡ true → ⊥
none_conflict length sent order a b ca cb e c =
    let x = sent_on sent (vote_subject a) ca in
    let y = sent_on sent (vote_subject b) cb in
    elim (pairs_cases (λ (s : Sent) (t : Sent). MayFollow length s.subject t.subject t.known) sent x.0 y.0 order x.1 y.1) [
      | inl same ↦ alike a b (sym x.2 ∙ ap (λ (s : Sent). s.subject) same ∙ y.2) c
      | inr (inl follows) ↦ later length y.0.known a b e c (subst₂ (λ (s : Subject) (t : Subject). MayFollow length s t y.0.known) x.2 y.2 follows)
      | inr (inr follows) ↦ earlier length x.0.known a b e c (subst₂ (λ (s : Subject) (t : Subject). MayFollow length s t x.0.known) y.2 x.2 follows)
    ]
