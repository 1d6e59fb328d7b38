-- Where a start stands: at genesis, or at a finalization that was reported.
use Rattle.std.proofs.Common.{◌≡◌, ℕ, ◌<◌, ◌==◌, ◌&&◌, Bool, true, false, List, [], ◌∷◌, refl, ap, ◌∙◌, subst, inl, inr, eqb-true, Option, Some, None, Ok}
use Rattle.std.specs.Str.{bytes_eq}
use Rattle.std.proofs.lemmas.Slice.Eq.{bytes_eq-Decides}
use Rattle.simplex_values.specs.declared.proposal.Proposal.{Proposal}
use Rattle.simplex_values.specs.declared.round.Round.{Round}
use Rattle.simplex_values.specs.Proposal.{is_same_round, is_same_proposal}
use Rattle.simplex_wire.specs.declared.attestation.Attestation.{Attestation}
use Rattle.simplex_wire.specs.declared.certificate.Finalization.{Finalization}
use Rattle.model_run.specs.Setting.{Setting}
use Rattle.model_run.specs.Entries.{is_same_attestation, are_same_attestations, was_reported, is_own_floor, entry_of}
use Rattle.law_run.specs.Saying.{InStart}
use Rattle.model_rules.specs.Known.{view_of}
use Rattle.simplex_messages.specs.declared.step.Stop.{Stop}
use Rattle.simplex_transcript.specs.declared.event.Event.{Event}
use Rattle.simplex_transcript.specs.declared.event.Event.TheVariants as events
use Rattle.simplex_transcript.specs.declared.node.Node.{Node}
use Rattle.simplex_transcript.specs.declared.setup.Setup.{Setup}
use Rattle.model_run.specs.Life.{Noted}
use Rattle.law_run.specs.Histories.{IsStartAbove}
use Rattle.law_run.proofs.Turns.{entry_turn}

pub both : (a b : Bool) → (a && b) ≡ true → (a ≡ true) × (b ≡ true)
both true b e = (refl, e)
both false b e = cc

rounds_same : (r s : Round) → is_same_round r s ≡ true → r ≡ s
rounds_same r s e =
    let parts = both (r.epoch == s.epoch) (r.view == s.view) e in
    ap (λ n. record { epoch = n; view = r.view }) (eqb-true r.epoch s.epoch parts.0) ∙ ap (λ n. record { epoch = s.epoch; view = n }) (eqb-true r.view s.view parts.1)

proposals_same : (p q : Proposal) → is_same_proposal p q ≡ true → p ≡ q
proposals_same p q e =
    let outer = both (is_same_round p.round q.round && p.parent == q.parent) (bytes_eq p.payload q.payload) e in
    let inner = both (is_same_round p.round q.round) (p.parent == q.parent) outer.0 in
    whole p.round q.round p.parent q.parent p.payload q.payload (rounds_same p.round q.round inner.0)
    (eqb-true p.parent q.parent inner.1) ((bytes_eq-Decides p.payload q.payload).0 outer.1)
  where
    whole : (a b : Round) (e f : ℕ) (x y : List ℕ) → a ≡ b → e ≡ f → x ≡ y
        → ◌≡◌ {A = Proposal} (record { round = a; parent = e; payload = x }) (record { round = b; parent = f; payload = y })
    whole a b e f x y i k l = rw (i, k, l) refl

attestations_same : (xs ys : List Attestation) → are_same_attestations xs ys ≡ true → xs ≡ ys
attestations_same [] [] e = refl
attestations_same [] (y ∷ ys) e = cc
attestations_same (x ∷ xs) [] e = cc
attestations_same (x ∷ xs) (y ∷ ys) e =
    let outer = both (is_same_attestation x y) (are_same_attestations xs ys) e in
    let inner = both (x.signer == y.signer) (bytes_eq x.signature y.signature) outer.0 in
    let first = one x.signer y.signer x.signature y.signature (eqb-true x.signer y.signer inner.0) ((bytes_eq-Decides x.signature y.signature).0 inner.1) in
    cc (first, attestations_same xs ys outer.1)
  where
    one : (m n : ℕ) (a b : List ℕ) → m ≡ n → a ≡ b → ◌≡◌ {A = Attestation} (record { signer = m; signature = a }) (record { signer = n; signature = b })
    one m n a b i j = rw (i, j) refl

pub finals_same : (f g : Finalization) → (is_same_proposal f.proposal g.proposal && are_same_attestations f.certificate g.certificate) ≡ true → f ≡ g
finals_same f g e =
    let parts = both (is_same_proposal f.proposal g.proposal) (are_same_attestations f.certificate g.certificate) e in
    whole f.proposal g.proposal f.certificate g.certificate (proposals_same f.proposal g.proposal parts.0) (attestations_same f.certificate g.certificate parts.1)
  where
    whole : (p q : Proposal) (a b : List Attestation) → p ≡ q → a ≡ b → ◌≡◌ {A = Finalization} (record { proposal = p; certificate = a }) (record { proposal = q; certificate = b })
    whole p q a b i j = rw (i, j) refl

-- ---- no start is at view 0, where no such finalization was reported

-- each finalization that was reported is of a view above 0
abbrev pub IsReportedAbove : Setup → List Noted → Type 0
IsReportedAbove setup before = (f : Finalization) → was_reported setup before f ≡ true → 0 < view_of f.proposal

floor_above : (setup : Setup) (before : List Noted) (at : Node) (floor : Option Finalization) (stop : Stop) → IsReportedAbove setup before → is_own_floor setup before floor ≡ true → IsStartAbove (events.Start at floor stop)
floor_above setup before at None stop above e = tt
floor_above setup before at (Some f) stop above e = above f e

no_start : (event : Event) → InStart (λ c. ⊥) event → IsStartAbove event
no_start (events.Start node (Some floor) stop) h = absurd h
no_start (events.Start node None stop) h = tt
no_start (events.Tick ms) h = tt
no_start (events.Deliver at ref) h = tt
no_start (events.Step at source stop) h = tt
no_start (events.Answer at ref answer) h = tt
no_start (events.Crash at) h = tt
no_start (events.Inject who channel to bytes) h = tt

pub start_above : (setting : Setting) (before : List Noted) (event : Event) (noted : Noted) → IsReportedAbove setting.setup before → entry_of setting before event ≡ Ok noted → IsStartAbove noted.event
start_above setting before event noted above e = elim (entry_turn setting before event noted e) [
  | inl b ↦ subst (λ (n : Noted). IsStartAbove n.event) b.is (floor_above setting.setup before b.at b.floor b.stop above b.own)
  | inr other ↦ elim other [
    | inl g ↦ subst (λ (n : Noted). IsStartAbove n.event) g.is (no_start event g.start)
    | inr rest ↦ elim rest [
      | inl c ↦ subst (λ (n : Noted). IsStartAbove n.event) c.is tt
      | inr last ↦ elim last [
        | inl t ↦ subst (λ (n : Noted). IsStartAbove n.event) t.is tt
        | inr a ↦ no_start noted.event a.start
      ]
    ]
  ]
]
