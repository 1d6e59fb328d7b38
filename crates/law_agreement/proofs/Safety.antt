-- Why no two backed certificates conflict.
use Rattle.std.proofs.Common.{◌≡◌, ℕ, zero, suc, ◌<◌, ◌⊎◌, List, get_or, All, AllPairs, Contains, ap, sym, subst₂, ◌∙◌, inl, inr, arith, le_refl}
use Rattle.std.proofs.lemmas.Bool.{cases_order}
use Rattle.std.proofs.lemmas.List.{get_or_default}
use Rattle.std.proofs.lemmas.List.Elements.{All-contains}
use Rattle.simplex_values.specs.declared.proposal.Proposal.{Proposal}
use Rattle.simplex_values.specs.declared.proposal.Subject.{Subject}
use Rattle.simplex_values.specs.declared.proposal.Subject.TheVariants.{Notarize, Nullify, Finalize}
use Rattle.simplex_values.specs.declared.round.Round.{Round}
use Rattle.law_agreement.specs.Terms.{Covers}
use Rattle.law_agreement.specs.World.{World, Certificate, Sent, HasSent, IsBacked, Knows, KnowsFinalized, KnowsNullified, MayStand, MayFollow, IsHonest, IsLawful, view_of}
use Rattle.law_agreement.specs.Conflict.{AreRivals, IsSkipped, Conflict}
use Rattle.law_agreement.proofs.TermFacts.{Covers-front}
use Rattle.law_agreement.proofs.Meeting.{Meets, quorums_meet}

-- two elements are the same, or one stands before the other
pairs_cases : {X : Type 0} (R : X → X → Type 0) (xs : List X) (x y : X) → AllPairs R xs → Contains xs x → Contains xs y → (x ≡ y) ⊎ (R x y ⊎ R y x)
pairs_cases R xs x y h cx cy =
    let here : get_or xs cy.0 x ≡ y = get_or_default xs cy.0 x y cy.1 ∙ cy.2 in
    elim (cases_order cx.0 cy.0) [
      | inl e ↦ inl (sym cx.2 ∙ ap (λ k. get_or xs k x) e ∙ here)
      | inr (inl lt) ↦ inr (inl (subst₂ R cx.2 here (h cx.0 cy.0 x lt cy.1)))
      | inr (inr gt) ↦ inr (inr (subst₂ R here cx.2 (h cy.0 cx.0 x gt cx.1)))
    ]

abbrev cert : Subject → List ℕ → Certificate
cert s signers = record { subject = s; signers = signers }

-- a member that is not faulty, and sent both
record SentBoth (w : World) (s t : Subject) : Type 0 where
  member : ℕ
  honest : IsHonest w (w.history member)
  first : HasSent w member s
  second : HasSent w member t

module _ (w : World) (law : IsLawful w) where
  sent_by : (s : Subject) (signers : List ℕ) → IsBacked w (cert s signers) → (i : ℕ) → Contains signers i → ¬ (Contains w.faulty i) → HasSent w i s
  sent_by s signers b i c good =
      elim (All-contains (λ k. Contains w.faulty k ⊎ HasSent w k s) signers i b.signed c) [ inl f ↦ absurd (good f) | inr sent ↦ sent ]

  both_sent : (s t : Subject) (a b : List ℕ) → IsBacked w (cert s a) → IsBacked w (cert t b) → SentBoth w s t
  both_sent s t a b ba bb =
      let m : Meets w.members w.faulty a b = quorums_meet w.members w.faulty a b law.members law.faulty ba.quorum bb.quorum in
      record {
        member = m.member;
        honest = law.honest m.member m.below m.good;
        first = sent_by s a ba m.member m.first m.good;
        second = sent_by t b bb m.member m.second m.good;
      }

  -- what an honest member must know where it sends this, and that it is backed
  stands : (sent : List Sent) → IsHonest w sent → (s : Subject) (known : List Certificate) → Contains sent (record { subject = s; known = known }) → MayStand w.term_length s known
  stands sent h s known c = All-contains (λ x. MayStand w.term_length x.subject x.known) sent (record { subject = s; known = known }) h.alone c

  backed_known : (sent : List Sent) → IsHonest w sent → (s : Subject) (known : List Certificate) → Contains sent (record { subject = s; known = known }) → (c : Certificate) → Contains known c → IsBacked w c
  backed_known sent h s known c d k = All-contains (IsBacked w) known d (All-contains (λ x. All (IsBacked w) x.known) sent (record { subject = s; known = known }) h.backed c) k

  one_notarized : (p q : Proposal) (a b : List ℕ) → IsBacked w (cert (Notarize p) a) → IsBacked w (cert (Notarize q) b) → view_of p ≡ view_of q → p ≡ q
  one_notarized p q a b ba bb e =
      let m : SentBoth w (Notarize p) (Notarize q) = both_sent (Notarize p) (Notarize q) a b ba bb in
      elim (pairs_cases (λ s t. MayFollow w.term_length s.subject t.subject t.known) (w.history m.member) (record { subject = Notarize p; known = m.first.0 }) (record { subject = Notarize q; known = m.second.0 }) m.honest.order m.first.1 m.second.1) [
        | inl same ↦ let one : Notarize p ≡ Notarize q = ap (λ (s : Sent). s.subject) same in cc
        | inr (inl r) ↦ r e
        | inr (inr r) ↦ sym (r (sym e))
      ]

  finalized_notarized : (p : Proposal) (a : List ℕ) → IsBacked w (cert (Finalize p) a) → (b : List ℕ) × IsBacked w (cert (Notarize p) b)
  finalized_notarized p a ba =
      let m : SentBoth w (Finalize p) (Finalize p) = both_sent (Finalize p) (Finalize p) a a ba ba in
      let k : Knows m.first.0 (Notarize p) = stands (w.history m.member) m.honest (Finalize p) m.first.0 m.first.1 in
      (k.0, backed_known (w.history m.member) m.honest (Finalize p) m.first.0 m.first.1 (cert (Notarize p) k.0) k.1)

  -- the descent: a nullification against the least finalized view that it covers
  never_nullified : (bound : ℕ) (r : Round) (p : Proposal) (a b : List ℕ) → IsBacked w (cert (Nullify r) a) → IsBacked w (cert (Finalize p) b) → Covers w.term_length r.view (view_of p) → view_of p < bound → ⊥
  never_nullified zero r p a b ba bb c lt = omega (arith, lt)
  never_nullified (suc bound) r p a b ba bb c lt =
      let m : SentBoth w (Nullify r) (Finalize p) = both_sent (Nullify r) (Finalize p) a b ba bb in
      elim (pairs_cases (λ s t. MayFollow w.term_length s.subject t.subject t.known) (w.history m.member) (record { subject = Nullify r; known = m.first.0 }) (record { subject = Finalize p; known = m.second.0 }) m.honest.order m.first.1 m.second.1) [
        | inl same ↦ let one : Nullify r ≡ Finalize p = ap (λ (s : Sent). s.subject) same in cc
        | inr (inl h) ↦
            let f : KnowsFinalized m.second.0 r.view (view_of p) = h c in
            never_nullified bound r f.0 a f.1.0 ba
            (backed_known (w.history m.member) m.honest (Finalize p) m.second.0 m.second.1 (cert (Finalize f.0) f.1.0) f.1.1)
            (Covers-front w.term_length r.view (view_of p) (view_of f.0) law.term_length c f.2 (omega (arith, f.3)))
            (omega (arith, f.3, lt))
        | inr (inr h) ↦ absurd (h c)
      ]

  never_skipped : (p q : Proposal) (a b : List ℕ) → IsBacked w (cert (Finalize p) a) → IsBacked w (cert (Notarize q) b) → IsSkipped p q → ⊥
  never_skipped p q a b ba bb skip =
      let m : SentBoth w (Notarize q) (Notarize q) = both_sent (Notarize q) (Notarize q) b b bb bb in
      let s : MayStand w.term_length (Notarize q) m.first.0 = stands (w.history m.member) m.honest (Notarize q) m.first.0 m.first.1 in
      let n : KnowsNullified w.term_length m.first.0 (view_of p) = s (view_of p) skip.1 skip.0 in
      never_nullified (suc (view_of p)) n.0 p n.1.0 a (backed_known (w.history m.member) m.honest (Notarize q) m.first.0 m.first.1 (cert (Nullify n.0) n.1.0) n.1.1) ba n.2 (le_refl _)

  same_named : (p q : Proposal) (a b : List ℕ) → IsBacked w (cert (Notarize p) a) → IsBacked w (cert (Notarize q) b) → AreRivals p q → ⊥
  same_named p q a b ba bb n = n.1 (one_notarized p q a b ba bb n.0)

  pub no_conflict : (s t : Subject) (a b : List ℕ) → IsBacked w (cert s a) → IsBacked w (cert t b) → ¬ (Conflict w.term_length s t)
  no_conflict (Notarize p) (Notarize q) a b ba bb h = same_named p q a b ba bb h
  no_conflict (Notarize p) (Nullify s) a b ba bb h = h
  no_conflict (Notarize p) (Finalize q) a b ba bb h =
      let n : (d : List ℕ) × IsBacked w (cert (Notarize q) d) = finalized_notarized q b bb in
      elim h [ inl x ↦ same_named p q a n.0 ba n.1 x | inr x ↦ never_skipped q p b a bb ba x ]
  no_conflict (Nullify r) (Notarize q) a b ba bb h = h
  no_conflict (Nullify r) (Nullify s) a b ba bb h = h
  no_conflict (Nullify r) (Finalize q) a b ba bb h = never_nullified (suc (view_of q)) r q a b ba bb h (le_refl _)
  no_conflict (Finalize p) (Notarize q) a b ba bb h =
      let n : (d : List ℕ) × IsBacked w (cert (Notarize p) d) = finalized_notarized p a ba in
      elim h [ inl x ↦ same_named p q n.0 b n.1 bb x | inr x ↦ never_skipped p q a b ba bb x ]
  no_conflict (Finalize p) (Nullify s) a b ba bb h = never_nullified (suc (view_of p)) s p b a bb ba h (le_refl _)
  no_conflict (Finalize p) (Finalize q) a b ba bb h =
      let n : (d : List ℕ) × IsBacked w (cert (Notarize p) d) = finalized_notarized p a ba in
      let m : (d : List ℕ) × IsBacked w (cert (Notarize q) d) = finalized_notarized q b bb in
      elim h [
        | inl x ↦ same_named p q n.0 m.0 n.1 m.1 x
        | inr (inl x) ↦ never_skipped p q a m.0 ba m.1 x
        | inr (inr x) ↦ never_skipped q p b n.0 bb n.1 x
      ]
