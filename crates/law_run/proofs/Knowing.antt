-- What a member knows came from answers, and stands on the genesis digest.
use Rattle.std.proofs.Common.{◌≡◌, ℕ, ◌<◌, ◌≤◌, ◌||◌, not, Bool, true, false, List, [], ◌∷◌, ◌++◌, map, Option, Some, None, ◌⊎◌, refl, ap, subst, ◌∙◌, inl, inr, arith, if◌then◌else◌}
use Rattle.std.specs.List.{list_any}
use Rattle.std.specs.Option.{IfSome, option_map_or}
use Rattle.std.specs.Str.{bytes_eq}
use Rattle.std.proofs.lemmas.Slice.Eq.{bytes_eq-Decides}
use Rattle.std.proofs.lemmas.Grind.{common_steps}
use Rattle.simplex_values.specs.declared.proposal.Proposal.{Proposal}
use Rattle.simplex_values.specs.declared.timeout.TimeoutReason.{TimeoutReason}
use Rattle.simplex_values.specs.declared.timeout.TimeoutReason.TheVariants.{FailedCertification}
use Rattle.simplex_values.specs.Proposal.{is_same_proposal}
use Rattle.simplex_wire.specs.declared.artifact.Artifact.{Artifact}
use Rattle.simplex_wire.specs.declared.artifact.Artifact.TheVariants as artifacts
use Rattle.simplex_wire.specs.declared.certificate.Certificate.TheVariants as certificates
use Rattle.simplex_wire.specs.declared.vote.Notarize.{Notarize}
use Rattle.simplex_wire.specs.declared.vote.Nullify.{Nullify}
use Rattle.simplex_wire.specs.declared.vote.Finalize.{Finalize}
use Rattle.simplex_wire.specs.declared.vote.Vote.TheVariants as votes
use Rattle.simplex_types.specs.declared.floor.Floor.{Floor}
use Rattle.simplex_types.specs.declared.floor.Floor.TheVariants as floors
use Rattle.model_rules.specs.declared.request.ProposalRequest.{ProposalRequest}
use Rattle.model_rules.specs.declared.request.Verify.{Verify}
use Rattle.model_rules.specs.declared.request.Verify.TheVariants.{Ready, Resolve, Wait}
use Rattle.model_rules.specs.declared.request.CertificateFetch.{CertificateFetch}
use Rattle.model_rules.specs.Lists.{first_of}
use Rattle.model_rules.specs.Known.{Made, Fact, Added, Taken, Answered, Approved, Judged, Voted, Expired, Failed, ProposalAsked, CertifyAsked, ParentAsked, Pruned, view_of, own_notarize, was_answered, was_approved, has_nullified, is_answer_in, is_approval_in}
use Rattle.model_rules.specs.Views.{finalized_view, last_finalized}
use Rattle.model_rules.specs.Slot.{slot_of, records_proposal, records_answer}
use Rattle.model_rules.specs.Ancestry.{has_ancestry, floor_in, payload_at}
use Rattle.model_rules.specs.Votes.{notarizes, is_checked, is_vouched, notarize_at, finalize_at, nullify_at}
use Rattle.model_rules.specs.Deadline.{expires, fails, triggered}
use Rattle.model_rules.specs.Requests.{proposal_request, verify_asked, verify_request, certify_requests, parent_fetches}
use Rattle.model_rules.specs.Calls as state
use Rattle.model_rules.specs.Calls.{facts_of, only_if, fact_of, judged, takes_verdict, replay_facts, request_context, verify_facts, prune_answer, adds_notarization, adds_nullification, adds_finalization}
use Rattle.model_rules.proofs.Soundness.{notarize_parts, slot_view}
use Rattle.law_run.specs.Sayings.{Each}
use Rattle.law_run.proofs.Speaking.{Each-append, Each-map}
use Rattle.law_run.proofs.AskedListing.{first_more, greatest_more}

-- the payload of what was answered or approved is such
abbrev pub FactFrom : (List ℕ → Type 0) → Fact → Type 0
FactFrom P (Answered p) = P p.payload
FactFrom P (Approved p) = P p.payload
FactFrom P _ = Unit {0}

abbrev pub AllFrom : (List ℕ → Type 0) → List Fact → Type 0
AllFrom P known = Each (FactFrom P) known

-- the payload of view 0 is known to be this one, or a later view is final
abbrev pub StandsOn : List ℕ → List Fact → Type 0
StandsOn genesis known = (first_of (floor_in 0) known ≡ Some genesis) ⊎ (0 < last_finalized known)

pub stands_more : (genesis : List ℕ) (new known : List Fact) → StandsOn genesis known → StandsOn genesis (new ++ known)
unfolding last_finalized
stands_more genesis new known (inl e) = inl (first_more (floor_in 0) new known genesis e)
stands_more genesis new known (inr lt) = inr (omega (arith, lt, greatest_more finalized_view new known))

-- ---- a notarize is of a payload that was answered or approved

same_payload : (P : List ℕ → Type 0) (q p : Proposal) → is_same_proposal q p ≡ true → P q.payload → P p.payload
same_payload P q p e h = (let t : bytes_eq q.payload p.payload ≡ true = grind (arith, common_steps, e) in subst P ((bytes_eq-Decides q.payload p.payload).0 t) h)

either_true : (a b : Bool) → (a || b) ≡ true → (a ≡ true) ⊎ (b ≡ true)
either_true true b e = inl refl
either_true false b e = inr e

answered_from : (P : List ℕ → Type 0) (known : List Fact) (p : Proposal) → AllFrom P known → list_any (is_answer_in p) known ≡ true → P p.payload
answered_from P [] p n e = cc
answered_from P (fact ∷ known) p n e = elim (either_true (is_answer_in p fact) (list_any (is_answer_in p) known) e) [
  | inl h ↦ one fact n.0 h
  | inr r ↦ answered_from P known p n.1 r
]
  where
    one : (fact : Fact) → FactFrom P fact → is_answer_in p fact ≡ true → P p.payload
    one (Answered q) h t = same_payload P q p t h
    one _ h t = cc

approved_from : (P : List ℕ → Type 0) (known : List Fact) (p : Proposal) → AllFrom P known → list_any (is_approval_in p) known ≡ true → P p.payload
approved_from P [] p n e = cc
approved_from P (fact ∷ known) p n e = elim (either_true (is_approval_in p fact) (list_any (is_approval_in p) known) e) [
  | inl h ↦ one fact n.0 h
  | inr r ↦ approved_from P known p n.1 r
]
  where
    one : (fact : Fact) → FactFrom P fact → is_approval_in p fact ≡ true → P p.payload
    one (Approved q) h t = same_payload P q p t h
    one _ h t = cc

-- who notarizes made the proposal or had it verified
vouched_parts : (made : Made) (known : List Fact) (view : ℕ) (p : Proposal) → slot_of known view ≡ Some p → notarizes made known p ≡ true
    → (was_answered known p || was_approved known p) ≡ true
unfolding notarizes is_checked is_vouched
vouched_parts made known view p e n =
    let v = slot_view known view p e in
    let at : slot_of known (view_of p) ≡ Some p = ap (slot_of known) v ∙ e in
    parts (own_notarize known (view_of p)) refl at
  where
    parts : (o : Option Notarize) → own_notarize known (view_of p) ≡ o → slot_of known (view_of p) ≡ Some p → (was_answered known p || was_approved known p) ≡ true
    parts None h at = grind (arith, common_steps, n, h, at)
    parts (Some v) h at = grind (arith, common_steps, n, h, at)

pub notarize_from : (P : List ℕ → Type 0) (made : Made) (known : List Fact) (view : ℕ) → AllFrom P known → IfSome (notarize_at made known view) (λ v. P v.proposal.payload)
unfolding was_answered was_approved
notarize_from P made known view n = at (notarize_at made known view) refl
  where
    at : (o : Option Notarize) → notarize_at made known view ≡ o → IfSome o (λ v. P v.proposal.payload)
    at None e = tt
    at (Some v) e =
        let parts = notarize_parts made known view v e in
        elim (either_true (was_answered known v.proposal) (was_approved known v.proposal) (vouched_parts made known view v.proposal parts.0 parts.1)) [
          | inl h ↦ answered_from P known v.proposal n h
          | inr h ↦ approved_from P known v.proposal n h
        ]

-- ---- what a call on the state adds

only_from : (P : List ℕ → Type 0) (b : Bool) (fact : Fact) → FactFrom P fact → AllFrom P (only_if b fact)
only_from P true fact n = (n, tt)
only_from P false fact n = tt

one_from : {A : Type 0} (P : List ℕ → Type 0) (f : A → Fact) (o : Option A) → IfSome o (λ a. FactFrom P (f a)) → AllFrom P (fact_of f o)
one_from P f None n = tt
one_from P f (Some a) n = (n, tt)

any_some : {A : Type 0} (Q : A → Type 0) (o : Option A) → ((a : A) → Q a) → IfSome o Q
any_some Q None every = tt
any_some Q (Some a) every = every a

triggered_from : (P : List ℕ → Type 0) (made : Made) (known : List Fact) (view : ℕ) (reason : TimeoutReason) (now : ℕ) → AllFrom P (triggered made known view reason now)
unfolding triggered
triggered_from P made known view reason now = at (expires made known view reason) (fails made known view reason)
  where
    at : (a b : Bool) → AllFrom P (if a then Expired view reason now ∷ [] else if b then Failed view reason ∷ [] else [])
    at true b = (tt, tt)
    at false true = (tt, tt)
    at false false = tt

judged_from : (P : List ℕ → Type 0) (made : Made) (known : List Fact) (view : ℕ) (good : Bool) (now : ℕ) → AllFrom P (judged made known view good now)
unfolding judged
judged_from P made known view good now = at (takes_verdict known view) good
  where
    failed : List Fact
    failed = triggered made known view FailedCertification now

    at : (t b : Bool) → AllFrom P (if t then (if b then [] else failed) ++ Judged view good now ∷ [] else [])
    at false b = tt
    at true true = (tt, tt)
    at true false = Each-append (FactFrom P) failed (Judged view good now ∷ []) (triggered_from P made known view FailedCertification now) (tt, tt)

verify_from : (P : List ℕ → Type 0) (v : Verify) → AllFrom P (verify_facts v)
verify_from P (Ready context proposal) = (tt, tt)
verify_from P (Resolve proposal view kind target) = (tt, tt)
verify_from P Wait = tt

floor_from : (P : List ℕ → Type 0) (made : Made) (known : List Fact) (f : Floor) (now : ℕ) → AllFrom P (facts_of made known (state.SetFloor f now))
unfolding facts_of
floor_from P made known (floors.Genesis payload) now = (tt, tt)
floor_from P made known (floors.Finalized f) now = (tt, (tt, (tt, tt)))

record_from : (P : List ℕ → Type 0) (made : Made) (known : List Fact) (a : Artifact) (now : ℕ) → AllFrom P (replay_facts made known a now)
record_from P made known (artifacts.Notarize v) now = (tt, tt)
record_from P made known (artifacts.Nullify v) now = (tt, tt)
record_from P made known (artifacts.Finalize v) now = (tt, tt)
record_from P made known (artifacts.Notarization c) now = (tt, (tt, tt))
record_from P made known (artifacts.Nullification c) now = (tt, (tt, tt))
record_from P made known (artifacts.Finalization c) now = (tt, (tt, tt))
record_from P made known (artifacts.Certification round good) now = judged_from P made known round.view good now

nullify_from : (P : List ℕ → Type 0) (made : Made) (known : List Fact) (view now : ℕ) (o : Option Nullify) → AllFrom P (option_map_or (state.nullify_facts known view now) o [])
nullify_from P made known view now None = tt
nullify_from P made known view now (Some v) = (tt, only_from P (not (has_nullified known view)) (Voted (votes.Nullify v)) tt)

-- what a call brings is such: an answer's payload, and the proposal that a good verdict is on
abbrev pub ToldFrom : (List ℕ → Type 0) → List Fact → state.Call → Type 0
ToldFrom P known (state.Proposed context payload) = P payload
ToldFrom P known (state.Verified view) = IfSome (verify_asked known view) (λ p. P p.payload)
ToldFrom P known _ = Unit {0}

new_from : (P : List ℕ → Type 0) (made : Made) (known : List Fact) (call : state.Call) → ToldFrom P known call → AllFrom P (facts_of made known call)
unfolding facts_of
new_from P made known (state.SetFloor floor now) t = floor_from P made known floor now
new_from P made known (state.Replay artifact now) t = record_from P made known artifact now
new_from P made known (state.SetProposal view proposal) t = only_from P (records_proposal made known proposal) (Taken proposal) tt
new_from P made known (state.Proposed context payload) t = only_from P (records_answer made known context.round.view) (Answered (state.proposal_on context payload)) t
new_from P made known (state.Verified view) t = one_from P Approved (verify_asked known view) t
new_from P made known (state.VerificationFailed view reason now) t = triggered_from P made known view reason now
new_from P made known (state.Certified view good now) t = judged_from P made known view good now
new_from P made known (state.AddNotarization c now) t = only_from P (adds_notarization made known c) (Added (certificates.Notarization c) now) tt
new_from P made known (state.AddNullification c now) t = only_from P (adds_nullification made known c) (Added (certificates.Nullification c) now) tt
new_from P made known (state.AddFinalization c now) t = only_from P (adds_finalization made known c) (Added (certificates.Finalization c) now) tt
new_from P made known (state.TriggerTimeout view reason now) t = triggered_from P made known view reason now
new_from P made known (state.ConstructNotarize view) t = one_from P (λ v. Voted (votes.Notarize v)) (notarize_at made known view) (any_some (λ (v : Notarize). Unit {0}) (notarize_at made known view) (λ a. tt))
new_from P made known (state.ConstructNullify view reason now) t = nullify_from P made known view now (nullify_at made view)
new_from P made known (state.ConstructFinalize view) t = one_from P (λ v. Voted (votes.Finalize v)) (finalize_at made known view) (any_some (λ (v : Finalize). Unit {0}) (finalize_at made known view) (λ a. tt))
new_from P made known (state.BroadcastNotarization view) t = only_from P _ _ tt
new_from P made known (state.BroadcastNullification view) t = only_from P _ _ tt
new_from P made known (state.BroadcastFinalization view) t = only_from P _ _ tt
new_from P made known state.TryPropose t = one_from P (λ r. ProposalAsked (request_context r).round.view) (proposal_request made known) (any_some (λ (r : ProposalRequest). Unit {0}) (proposal_request made known) (λ a. tt))
new_from P made known state.TryVerify t = verify_from P (verify_request made known)
new_from P made known state.CertifyCandidates t =
    Each-append (FactFrom P) (map (λ (f : CertificateFetch). ParentAsked f.proposal) (parent_fetches known)) _
    (Each-map (FactFrom P) (λ (f : CertificateFetch). ParentAsked f.proposal) (parent_fetches known) (λ a. tt))
    (Each-map (FactFrom P) (λ p. CertifyAsked (view_of p)) (certify_requests known) (λ a. tt))
new_from P made known (state.ReleaseProposalRequest view) t = (tt, tt)
new_from P made known state.Prune t = one_from P Pruned (prune_answer made known) (any_some (λ (v : ℕ). Unit {0}) (prune_answer made known) (λ a. tt))

pub told_from : (P : List ℕ → Type 0) (made : Made) (known : List Fact) (call : state.Call) → ToldFrom P known call → AllFrom P known → AllFrom P (facts_of made known call ++ known)
told_from P made known call t n = Each-append (FactFrom P) (facts_of made known call) known (new_from P made known call t) n

-- ---- the payload of view 0

-- a parent that may be stood on and is view 0 has the genesis digest
pub parent_rooted : (genesis : List ℕ) (made : Made) (known : List Fact) (parent view : ℕ) → made.genesis ≡ genesis → StandsOn genesis known → has_ancestry made known parent view ≡ true
    → parent ≡ 0 → payload_at made known parent ≡ genesis
unfolding payload_at has_ancestry
parent_rooted genesis made known parent view g (inl e) h z =
    let at : first_of (floor_in parent) known ≡ Some genesis = ap (λ (v : ℕ). first_of (floor_in v) known) z ∙ e in
    rw at refl
parent_rooted genesis made known parent view g (inr lt) h z = absurd (low (grind (arith, common_steps, h)))
  where
    low : last_finalized known ≤ parent → ⊥
    low le = omega (arith, lt, le, z)
