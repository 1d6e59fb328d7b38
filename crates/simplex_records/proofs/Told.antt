-- The finalizations of one call more.
use Rattle.std.proofs.Common.{◌≡◌, ℕ, List, [], ◌∷◌, ◌++◌, Bool, true, false, arith, refl, sym, ap, ◌∙◌, if◌then◌else◌, Decides}
use Rattle.std.specs.Prelude.{◌==◌, ◌&&◌, ◌||◌}
use Rattle.std.specs.List.{list_any}
use Rattle.std.specs.Option.{unwrap_or}
use Rattle.std.specs.Ordering.{nat_cmp}
use Rattle.std.specs.BTreeMap as tree
use Rattle.std.specs.Str.{bytes_eq}
use Rattle.std.proofs.lemmas.Grind.{common_steps}
use Rattle.std.proofs.lemmas.List.Folds.{list_any-append}
use Rattle.std.proofs.lemmas.Slice.Eq.{slice_eq-Decides, bytes_eq-Decides}
use Rattle.std.proofs.lemmas.Bool.Decides.{Decides-like, Decides-and, Decides-eqb}
use Rattle.simplex_values.specs.declared.proposal.Proposal.{Proposal}
use Rattle.simplex_values.specs.Proposal.{is_same_round, is_same_proposal}
use Rattle.simplex_wire.specs.declared.attestation.Attestation.{Attestation}
use Rattle.simplex_wire.specs.declared.certificate.Finalization.{Finalization}
use Rattle.model_run.specs.Life.{Noted}
use Rattle.simplex_transcript.specs.declared.setup.Setup.{Setup}
use Rattle.model_run.specs.Entries.{is_same_attestation, are_same_attestations, reports, is_of_honest, was_reported}
use Rattle.simplex_records.specs.declared.reported.Reported.{Reported}
use Rattle.simplex_records.specs.Reported.{is_same, at_view, has_reported}

-- ---- what is the same is equal

both : (a b : Bool) → (a && b) ≡ true → (a ≡ true) × (b ≡ true)
both true true e = (refl, refl)
both true false e = absurd (cc)
both false b e = absurd (cc)

attestation_of : (s t : ℕ) (x y : List ℕ) → s ≡ t → x ≡ y → ◌≡◌ {A = Attestation} (record { signer = s; signature = x }) (record { signer = t; signature = y })
attestation_of s t x y e f = rw (e, f) refl

attestations-decide : (a b : Attestation) → Decides (is_same_attestation a b) (a ≡ b)
attestations-decide a b =
    Decides-like (is_same_attestation a b) (λ parts. attestation_of a.signer b.signer a.signature b.signature parts.0 parts.1)
    (λ (e : a ≡ b). (ap (λ (x : Attestation). x.signer) e, ap (λ (x : Attestation). x.signature) e))
    (Decides-and (a.signer == b.signer) (bytes_eq a.signature b.signature) (Decides-eqb a.signer b.signer) (bytes_eq-Decides a.signature b.signature))

certificates-same : (xs ys : List Attestation) → are_same_attestations xs ys ≡ true → xs ≡ ys
certificates-same xs ys e = (slice_eq-Decides attestations-decide xs ys (are_same_attestations xs ys) refl).0 e

proposals-same : (p q : Proposal) → is_same_proposal p q ≡ true → p ≡ q
proposals-same p q e =
    let outer = both (is_same_round p.round q.round && p.parent == q.parent) (bytes_eq p.payload q.payload) e in
    let inner = both (is_same_round p.round q.round) (p.parent == q.parent) outer.0 in
    let rounds = both (p.round.epoch == q.round.epoch) (p.round.view == q.round.view) inner.0 in
    proposal_of p q ((Decides-eqb p.round.epoch q.round.epoch).0 rounds.0) ((Decides-eqb p.round.view q.round.view).0 rounds.1)
    ((Decides-eqb p.parent q.parent).0 inner.1) ((bytes_eq-Decides p.payload q.payload).0 outer.1)
  where
    whole : (a b c d e f : ℕ) (x y : List ℕ) → a ≡ b → c ≡ d → e ≡ f → x ≡ y
        → ◌≡◌ {A = Proposal} (record { round = record { epoch = a; view = c }; parent = e; payload = x }) (record { round = record { epoch = b; view = d }; parent = f; payload = y })
    whole a b c d e f x y i j k l = rw (i, j, k, l) refl

    proposal_of : (p q : Proposal) → p.round.epoch ≡ q.round.epoch → p.round.view ≡ q.round.view → p.parent ≡ q.parent → p.payload ≡ q.payload → p ≡ q
    proposal_of p q i j k l = whole p.round.epoch q.round.epoch p.round.view q.round.view p.parent q.parent p.payload q.payload i j k l

finalization_of : (p q : Proposal) (x y : List Attestation) → p ≡ q → x ≡ y → ◌≡◌ {A = Finalization} (record { proposal = p; certificate = x }) (record { proposal = q; certificate = y })
finalization_of p q x y e f = rw (e, f) refl

same-is : (f g : Finalization) → is_same f g ≡ true → f ≡ g
same-is f g e =
    let parts = both (is_same_proposal f.proposal g.proposal) (are_same_attestations f.certificate g.certificate) e in
    finalization_of f.proposal g.proposal f.certificate g.certificate (proposals-same f.proposal g.proposal parts.0) (certificates-same f.certificate g.certificate parts.1)

view-same : (f g : Finalization) → is_same f g ≡ true → f.proposal.round.view ≡ g.proposal.round.view
view-same f g e = ap (λ (h : Finalization). h.proposal.round.view) (same-is f g e)

-- ---- one finalization

had_at : (reported : Reported) (f g : Finalization) (b : Bool) → is_same f g ≡ b → has_reported reported g ≡ true
    → has_reported reported f ≡ (b || has_reported reported f)
had_at reported f g true e had = ap (λ h. has_reported reported h) (same-is f g e) ∙ had
had_at reported f g false e had = refl

-- one that was there
pub told-had : (reported : Reported) (f g : Finalization) → has_reported reported g ≡ true → has_reported reported f ≡ (is_same f g || has_reported reported f)
told-had reported f g had = had_at reported f g (is_same f g) refl had

swapped : (a b : Bool) → (a || (b || false)) ≡ (b || a)
swapped true true = refl
swapped true false = refl
swapped false true = refl
swapped false false = refl

added_at : (olds news : List Finalization) (f g : Finalization) (b : Bool) → (g.proposal.round.view == f.proposal.round.view) ≡ b
    → news ≡ (if b then olds ++ g ∷ [] else olds) → list_any (is_same f) news ≡ (is_same f g || list_any (is_same f) olds)
added_at olds news f g true e is =
    ap (λ all. list_any (is_same f) all) is ∙ list_any-append (is_same f) olds (g ∷ []) ∙ swapped (list_any (is_same f) olds) (is_same f g)
added_at olds news f g false e is =
    ap (λ all. list_any (is_same f) all) is ∙ sym (other (is_same f g) refl)
  where
    other : (c : Bool) → is_same f g ≡ c → (c || list_any (is_same f) olds) ≡ list_any (is_same f) olds
    other true s = absurd (grind (arith, common_steps, e, view-same f g s))
    other false s = refl

-- one that is put behind those of its view
pub told-added : (old new : Reported) (g : Finalization)
    → ((q : ℕ) → unwrap_or (tree.get nat_cmp new.by_view q) [] ≡ (if g.proposal.round.view == q then unwrap_or (tree.get nat_cmp old.by_view q) [] ++ g ∷ [] else unwrap_or (tree.get nat_cmp old.by_view q) []))
    → (f : Finalization) → has_reported new f ≡ (is_same f g || has_reported old f)
unfolding has_reported at_view
told-added old new g puts f =
    added_at (unwrap_or (tree.get nat_cmp old.by_view f.proposal.round.view) []) (unwrap_or (tree.get nat_cmp new.by_view f.proposal.round.view) []) f g
    (g.proposal.round.view == f.proposal.round.view) refl (puts f.proposal.round.view)

-- ---- one entry more

pub told-entry : (setup : Setup) (old new : Reported) (before : List Noted) (noted : Noted)
    → ((f : Finalization) → has_reported old f ≡ was_reported setup before f)
    → ((f : Finalization) → has_reported new f ≡ (is_of_honest setup noted.entry.who && list_any (reports f) noted.entry.calls || has_reported old f))
    → (f : Finalization) → has_reported new f ≡ was_reported setup (noted ∷ before) f
unfolding was_reported
told-entry setup old new before noted stand adds f =
    adds f ∙ ap (λ b. is_of_honest setup noted.entry.who && list_any (reports f) noted.entry.calls || b) (stand f)
