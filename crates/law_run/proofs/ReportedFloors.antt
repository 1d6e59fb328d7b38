-- Floors that were reported.
use Rattle.std.proofs.Common.{◌≡◌, ℕ, ◌==◌, ◌&&◌, Bool, true, List, [], ◌∷◌, Contains, Option, Some, None, IfSome, refl, sym, ap, subst, eqb-true}
use Rattle.std.specs.List.{list_any}
use Rattle.std.specs.Str.{bytes_eq}
use Rattle.std.proofs.lemmas.List.Folds.{Any-from_list_any, list_any-from_Any}
use Rattle.std.proofs.lemmas.Slice.Eq.{bytes_eq-Decides}
use Rattle.simplex_values.specs.declared.round.Round.{Round}
use Rattle.simplex_values.specs.declared.proposal.Proposal.{Proposal}
use Rattle.simplex_values.specs.Proposal.{is_same_round, is_same_proposal}
use Rattle.simplex_wire.specs.declared.attestation.Attestation.{Attestation}
use Rattle.simplex_wire.specs.declared.certificate.Finalization.{Finalization}
use Rattle.simplex_types.specs.declared.activity.Activity.TheVariants as activities
use Rattle.simplex_messages.specs.declared.call.Call.{Call}
use Rattle.simplex_messages.specs.declared.call.Call.TheVariants as calls
use Rattle.simplex_transcript.specs.declared.setup.Setup.{Setup}
use Rattle.model_run.specs.Life.{Noted}
use Rattle.model_run.specs.Entries.{is_same_attestation, are_same_attestations, reports, is_of_honest, was_reported, is_own_floor}
use Rattle.law_run.specs.Earlier.{IsReported}
use Rattle.law_run.proofs.Tests.{both, and_true, number_is}

-- ---- one finalization

same_bytes : (xs ys : List ℕ) → bytes_eq xs ys ≡ true → xs ≡ ys
same_bytes xs ys e = (bytes_eq-Decides xs ys).0 e

self_bytes : (xs : List ℕ) → bytes_eq xs xs ≡ true
self_bytes xs = (bytes_eq-Decides xs xs).1 refl

pub same_rounds : (r s : Round) → is_same_round r s ≡ true → r ≡ s
same_rounds r s e =
    let parts = both (r.epoch == s.epoch) (r.view == s.view) e in
    whole r.epoch s.epoch r.view s.view (eqb-true r.epoch s.epoch parts.0) (eqb-true r.view s.view parts.1)
  where
    whole : (a b v w : ℕ) → a ≡ b → v ≡ w → ◌≡◌ {A = Round} (record { epoch = a; view = v }) (record { epoch = b; view = w })
    whole a b v w i k = rw (i, k) refl

pub same_proposals : (p q : Proposal) → is_same_proposal p q ≡ true → p ≡ q
same_proposals p q e =
    let outer = both (is_same_round p.round q.round && p.parent == q.parent) (bytes_eq p.payload q.payload) e in
    let inner = both (is_same_round p.round q.round) (p.parent == q.parent) outer.0 in
    whole p.round q.round p.parent q.parent p.payload q.payload (same_rounds p.round q.round inner.0) (eqb-true p.parent q.parent inner.1)
    (same_bytes p.payload q.payload outer.1)
  where
    whole : (a b : Round) (e f : ℕ) (x y : List ℕ) → a ≡ b → e ≡ f → x ≡ y
        → ◌≡◌ {A = Proposal} (record { round = a; parent = e; payload = x }) (record { round = b; parent = f; payload = y })
    whole a b e f x y i k l = rw (i, k, l) refl

pub self_round : (r : Round) → is_same_round r r ≡ true
self_round r = and_true (r.epoch == r.epoch) (r.view == r.view) (number_is r.epoch r.epoch refl) (number_is r.view r.view refl)

pub self_proposal : (p : Proposal) → is_same_proposal p p ≡ true
self_proposal p =
    and_true (is_same_round p.round p.round && p.parent == p.parent) (bytes_eq p.payload p.payload)
    (and_true (is_same_round p.round p.round) (p.parent == p.parent) (self_round p.round) (number_is p.parent p.parent refl)) (self_bytes p.payload)

same_attestation : (x y : Attestation) → is_same_attestation x y ≡ true → x ≡ y
same_attestation x y e =
    let parts = both (x.signer == y.signer) (bytes_eq x.signature y.signature) e in
    whole x.signer y.signer x.signature y.signature (eqb-true x.signer y.signer parts.0) (same_bytes x.signature y.signature parts.1)
  where
    whole : (a b : ℕ) (v w : List ℕ) → a ≡ b → v ≡ w → ◌≡◌ {A = Attestation} (record { signer = a; signature = v }) (record { signer = b; signature = w })
    whole a b v w i k = rw (i, k) refl

same_attestations : (xs ys : List Attestation) → are_same_attestations xs ys ≡ true → xs ≡ ys
same_attestations [] [] e = refl
same_attestations [] (y ∷ ys) e = cc
same_attestations (x ∷ xs) [] e = cc
same_attestations (x ∷ xs) (y ∷ ys) e =
    let parts = both (is_same_attestation x y) (are_same_attestations xs ys) e in
    cc (same_attestation x y parts.0, same_attestations xs ys parts.1)

self_attestations : (xs : List Attestation) → are_same_attestations xs xs ≡ true
self_attestations [] = refl
self_attestations (x ∷ xs) =
    and_true (is_same_attestation x x) (are_same_attestations xs xs)
    (and_true (x.signer == x.signer) (bytes_eq x.signature x.signature) (number_is x.signer x.signer refl) (self_bytes x.signature)) (self_attestations xs)

-- ---- one report

reports_it : (f : Finalization) (c : Call) → reports f c ≡ true → c ≡ calls.Report (activities.Finalization f)
reports_it f (calls.Report (activities.Finalization g)) e =
    let parts = both (is_same_proposal f.proposal g.proposal) (are_same_attestations f.certificate g.certificate) e in
    let same : f ≡ g =
    whole f.proposal g.proposal f.certificate g.certificate (same_proposals f.proposal g.proposal parts.0) (same_attestations f.certificate g.certificate parts.1) in
    ap (λ h. calls.Report (activities.Finalization h)) (sym same)
  where
    whole : (p q : Proposal) (v w : List Attestation) → p ≡ q → v ≡ w → ◌≡◌ {A = Finalization} (record { proposal = p; certificate = v }) (record { proposal = q; certificate = w })
    whole p q v w i k = rw (i, k) refl
reports_it f (calls.Report (activities.Notarize v)) e = cc
reports_it f (calls.Report (activities.Notarization v)) e = cc
reports_it f (calls.Report (activities.Certification v)) e = cc
reports_it f (calls.Report (activities.Nullify v)) e = cc
reports_it f (calls.Report (activities.Nullification v)) e = cc
reports_it f (calls.Report (activities.Finalize v)) e = cc
reports_it f (calls.Report (activities.ConflictingNotarize v)) e = cc
reports_it f (calls.Report (activities.ConflictingFinalize v)) e = cc
reports_it f (calls.Report (activities.NullifyFinalize v)) e = cc
reports_it f (calls.Append n a) e = cc
reports_it f (calls.Sync n) e = cc
reports_it f (calls.Prune n) e = cc
reports_it f (calls.Send channel to bytes) e = cc
reports_it f (calls.Relay payload plan) e = cc
reports_it f (calls.Block who why) e = cc

reports_self : (f : Finalization) → reports f (calls.Report (activities.Finalization f)) ≡ true
reports_self f =
    and_true (is_same_proposal f.proposal f.proposal) (are_same_attestations f.certificate f.certificate) (self_proposal f.proposal) (self_attestations f.certificate)

-- ---- a report among the entries

abbrev has_report : Setup → Finalization → Noted → Bool
has_report setup f noted = is_of_honest setup noted.entry.who && list_any (reports f) noted.entry.calls

was_so : (setup : Setup) (before : List Noted) (f : Finalization) → IsReported setup before f → was_reported setup before f ≡ true
unfolding was_reported
was_so setup before f r =
    let report = calls.Report (activities.Finalization f) in
    let found = list_any-from_Any (reports f) r.noted.entry.calls (r.reports.0, report, r.reports.1, r.reports.2, reports_self f) in
    let holds = and_true (is_of_honest setup r.noted.entry.who) (list_any (reports f) r.noted.entry.calls) r.honest found in
    list_any-from_Any (has_report setup f) before (r.stands.0, r.noted, r.stands.1, r.stands.2, holds)

is_so : (setup : Setup) (before : List Noted) (f : Finalization) → was_reported setup before f ≡ true → IsReported setup before f
unfolding was_reported
is_so setup before f e =
    let entry = Any-from_list_any (has_report setup f) before e in
    let holds = both (is_of_honest setup entry.1.entry.who) (list_any (reports f) entry.1.entry.calls) entry.4 in
    let call = Any-from_list_any (reports f) entry.1.entry.calls holds.1 in
    record {
      noted = entry.1;
      stands = (entry.0, entry.2, entry.3);
      honest = holds.0;
      reports = subst (Contains entry.1.entry.calls) (reports_it f call.1 call.4) (call.0, call.2, call.3);
    }

pub own_floor : (setup : Setup) (before : List Noted) (floor : Option Finalization) → IfSome floor (IsReported setup before) → is_own_floor setup before floor ≡ true
own_floor setup before None r = refl
own_floor setup before (Some f) r = was_so setup before f r

pub floor_reported : (setup : Setup) (before : List Noted) (floor : Option Finalization) → is_own_floor setup before floor ≡ true → IfSome floor (IsReported setup before)
floor_reported setup before None e = tt
floor_reported setup before (Some f) e = is_so setup before f e
