-- The test of a conflict.
use Rattle.std.proofs.Common.{◌≡◌, ℕ, ◌⊎◌, ◌↔◌, ◌==◌, ◌&&◌, ◌||◌, nat_lt, Bool, true, false, not, refl, sym, ap, ◌∙◌, inl, inr, eqb-true, eq-eqb, ltb-true, lt-ltb, leb, leb-true, le-leb, List}
use Rattle.std.specs.Str.{bytes_eq}
use Rattle.std.proofs.lemmas.Slice.Eq.{bytes_eq-Decides}
use Rattle.std.proofs.lemmas.Bool.{and_parts, or_cases, or_left, or_right}
use Rattle.simplex_values.specs.declared.proposal.Proposal.{Proposal}
use Rattle.simplex_values.specs.declared.proposal.Subject.{Subject}
use Rattle.simplex_values.specs.declared.proposal.Subject.TheVariants.{Notarize, Nullify, Finalize}
use Rattle.simplex_values.specs.Covers.{covers}
use Rattle.simplex_values.specs.Terms.{term_index}
use Rattle.simplex_values.specs.Proposal.{is_same_round, is_same_proposal}
use Rattle.law_agreement.specs.Terms.{Covers}
use Rattle.law_agreement.specs.World.{view_of}
use Rattle.law_agreement.specs.Conflict.{Conflict, AreRivals, IsSkipped}
use Rattle.model_audit.specs.Conflicts.{are_rivals, is_skipped, conflicts}

and_true : (a b : Bool) → a ≡ true → b ≡ true → (a && b) ≡ true
and_true true b e f = f
and_true false b e f = cc

same_itself : (p : Proposal) → is_same_proposal p p ≡ true
same_itself p =
    and_true (is_same_round p.round p.round && p.parent == p.parent) (bytes_eq p.payload p.payload)
    (and_true (is_same_round p.round p.round) (p.parent == p.parent)
    (and_true (p.round.epoch == p.round.epoch) (p.round.view == p.round.view) (eq-eqb p.round.epoch p.round.epoch refl) (eq-eqb p.round.view p.round.view refl))
    (eq-eqb p.parent p.parent refl)) ((bytes_eq-Decides p.payload p.payload).1 refl)

same_proposals : (p q : Proposal) → is_same_proposal p q ≡ true → p ≡ q
same_proposals p q e =
    let outer = and_parts (is_same_round p.round q.round && p.parent == q.parent) (bytes_eq p.payload q.payload) e in
    let inner = and_parts (is_same_round p.round q.round) (p.parent == q.parent) outer.0 in
    let rounds = and_parts (p.round.epoch == q.round.epoch) (p.round.view == q.round.view) inner.0 in
    whole p.round.epoch q.round.epoch p.round.view q.round.view p.parent q.parent p.payload q.payload
    (eqb-true p.round.epoch q.round.epoch rounds.0) (eqb-true p.round.view q.round.view rounds.1) (eqb-true p.parent q.parent inner.1) ((bytes_eq-Decides p.payload q.payload).0 outer.1)
  where
    whole : (a b v w e f : ℕ) (x y : List ℕ) → a ≡ b → v ≡ w → e ≡ f → x ≡ y
        → ◌≡◌ {A = Proposal} (record { round = record { epoch = a; view = v }; parent = e; payload = x }) (record { round = record { epoch = b; view = w }; parent = f; payload = y })
    whole a b v w e f x y i j k l = rw (i, j, k, l) refl

not_if : (b : Bool) → (b ≡ true → ⊥) → not b ≡ true
not_if true n = absurd (n refl)
not_if false n = refl

no_if : (b : Bool) → not b ≡ true → b ≡ true → ⊥
no_if true n e = cc
no_if false n e = cc

rivals : (p q : Proposal) → (are_rivals p q ≡ true) ↔ AreRivals p q
rivals p q = (
  λ e. let k = and_parts (view_of p == view_of q) (not (is_same_proposal p q)) e in
      (eqb-true (view_of p) (view_of q) k.0, λ same. no_if (is_same_proposal p q) k.1 (ap (λ (r : Proposal). is_same_proposal p r) (sym same) ∙ same_itself p)),
  λ r. and_true (view_of p == view_of q) (not (is_same_proposal p q)) (eq-eqb (view_of p) (view_of q) r.0)
      (not_if (is_same_proposal p q) (λ e. r.1 (same_proposals p q e))),
)

skipped : (p q : Proposal) → (is_skipped p q ≡ true) ↔ IsSkipped p q
skipped p q = (
  λ e. let k = and_parts (nat_lt (view_of p) (view_of q)) (nat_lt q.parent (view_of p)) e in
      (ltb-true (view_of p) (view_of q) k.0, ltb-true q.parent (view_of p) k.1),
  λ r. and_true (nat_lt (view_of p) (view_of q)) (nat_lt q.parent (view_of p)) (lt-ltb (view_of p) (view_of q) r.0) (lt-ltb q.parent (view_of p) r.1),
)

either : (a b : Bool) {A B : Type 0} → (a ≡ true) ↔ A → (b ≡ true) ↔ B → ((a || b) ≡ true) ↔ (A ⊎ B)
either a b f g = (
  λ e. elim (or_cases a b e) [ inl h ↦ inl (f.0 h) | inr h ↦ inr (g.0 h) ],
  λ s. elim s [ inl h ↦ or_left a b (f.1 h) | inr h ↦ or_right a b (g.1 h) ],
)

covered : (length u w : ℕ) → (covers length u w ≡ true) ↔ Covers length u w
unfolding covers
covered length u w = (
  λ e. let k = and_parts (term_index length u == term_index length w) (leb u w) e in (eqb-true (term_index length u) (term_index length w) k.0, leb-true u w k.1),
  λ c. and_true (term_index length u == term_index length w) (leb u w) (eq-eqb (term_index length u) (term_index length w) c.0) (le-leb u w c.1),
)

nothing : (false ≡ true) ↔ ⊥
nothing = (λ e. cc, λ a. absurd a)

pub tested : (length : ℕ) (s t : Subject) → (conflicts length s t ≡ true) ↔ Conflict length s t
tested length (Notarize p) (Notarize q) = rivals p q
tested length (Notarize p) (Nullify s) = nothing
tested length (Notarize p) (Finalize q) = either (are_rivals p q) (is_skipped q p) (rivals p q) (skipped q p)
tested length (Nullify r) (Notarize q) = nothing
tested length (Nullify r) (Nullify s) = nothing
tested length (Nullify r) (Finalize q) = covered length r.view (view_of q)
tested length (Finalize p) (Notarize q) = either (are_rivals p q) (is_skipped p q) (rivals p q) (skipped p q)
tested length (Finalize p) (Nullify s) = covered length s.view (view_of p)
tested length (Finalize p) (Finalize q) =
    either (are_rivals p q) (is_skipped p q || is_skipped q p) (rivals p q) (either (is_skipped p q) (is_skipped q p) (skipped p q) (skipped q p))

turned : (p q : Proposal) → AreRivals p q → AreRivals q p
turned p q r = (sym r.0, λ e. r.1 (sym e))

-- a conflict is one the other way round
pub turned_round : (length : ℕ) (s t : Subject) → Conflict length s t → Conflict length t s
turned_round length (Notarize p) (Notarize q) c = turned p q c
turned_round length (Notarize p) (Nullify s) c = absurd c
turned_round length (Notarize p) (Finalize q) (inl r) = inl (turned p q r)
turned_round length (Notarize p) (Finalize q) (inr k) = inr k
turned_round length (Nullify r) (Notarize q) c = absurd c
turned_round length (Nullify r) (Nullify s) c = absurd c
turned_round length (Nullify r) (Finalize q) c = c
turned_round length (Finalize p) (Notarize q) (inl r) = inl (turned p q r)
turned_round length (Finalize p) (Notarize q) (inr k) = inr k
turned_round length (Finalize p) (Nullify s) c = c
turned_round length (Finalize p) (Finalize q) (inl r) = inl (turned p q r)
turned_round length (Finalize p) (Finalize q) (inr (inl k)) = inr (inr k)
turned_round length (Finalize p) (Finalize q) (inr (inr k)) = inr (inl k)
