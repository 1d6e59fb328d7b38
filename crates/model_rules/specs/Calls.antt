-- What each call of a state adds to what is known, and what it answers.
use Rattle.std.specs.Prelude.{ℕ, ◌&&◌, nat_lt, not, Bool, true, false, List, [], ◌∷◌, ◌++◌, map, option_to_list, Option, Some, None, if◌then◌else◌}
use Rattle.std.specs.Option.{option_map, option_map_or, is_some, is_none}
use Rattle.simplex_values.specs.declared.proposal.Proposal.{Proposal}
use Rattle.simplex_wire.specs.declared.vote.Nullify.{Nullify}
use Rattle.simplex_wire.specs.declared.vote.Vote.TheVariants as votes
use Rattle.simplex_wire.specs.declared.certificate.Notarization.{Notarization}
use Rattle.simplex_wire.specs.declared.certificate.Nullification.{Nullification}
use Rattle.simplex_wire.specs.declared.certificate.Finalization.{Finalization}
use Rattle.simplex_wire.specs.declared.certificate.Certificate.TheVariants as certificates
use Rattle.simplex_wire.specs.declared.artifact.Artifact.{Artifact}
use Rattle.simplex_wire.specs.declared.artifact.Artifact.TheVariants as artifacts
use Rattle.simplex_values.specs.declared.timeout.TimeoutReason.{TimeoutReason}
use Rattle.simplex_values.specs.declared.timeout.TimeoutReason.TheVariants.{FailedCertification}
use Rattle.simplex_wire.specs.declared.certificate.CertificateKind.TheVariants as kinds
use Rattle.simplex_values.specs.declared.round.Context.{Context}
use Rattle.simplex_types.specs.declared.floor.Floor.{Floor}
use Rattle.simplex_types.specs.declared.floor.Floor.TheVariants.{Genesis, Finalized}
use Rattle.model_rules.specs.declared.request.ProposalRequest.{ProposalRequest}
use Rattle.model_rules.specs.declared.request.ProposalRequest.TheVariants.{Prepare, Propose}
use Rattle.model_rules.specs.declared.request.Verify.{Verify}
use Rattle.model_rules.specs.declared.request.Verify.TheVariants.{Ready, Resolve, Wait}
use Rattle.model_rules.specs.declared.request.CertificateFetch.{CertificateFetch}
use Rattle.model_rules.specs.Lists.{greatest_of}
use Rattle.model_rules.specs.Known.{Made, Fact, FloorAt, Added, Taken, Answered, Approved, Judged, Voted, Published, Broadcast, ProposalAsked, ProposalFreed, VerifyAsked, CertifyAsked, MissingAsked, ParentAsked, Pruned, view_of, notarization_of, nullification_of, finalization_of, verdict_of, has_nullified, was_broadcast}
use Rattle.model_rules.specs.Views.{last_finalized, least_active, admits_certificate}
use Rattle.model_rules.specs.Slot.{records_proposal, records_answer, is_contradicted}
use Rattle.model_rules.specs.Votes.{notarize_at, nullify_at, finalize_at}
use Rattle.model_rules.specs.Deadline.{triggered}
use Rattle.model_rules.specs.Requests.{leader_of, proposal_request, verify_asked, verify_request, certify_requests, parent_fetches}

-- a call that changes a state, as it was made. A history is a list of calls, the newest first
pub data Call : Type 0 where
  SetFloor : (floor : Floor) → (now : ℕ) → Call
  Replay : (artifact : Artifact) → (now : ℕ) → Call
  SetProposal : (view : ℕ) → (proposal : Proposal) → Call
  Proposed : (context : Context) → (payload : List ℕ) → Call
  Verified : (view : ℕ) → Call
  VerificationFailed : (view : ℕ) → (reason : TimeoutReason) → (now : ℕ) → Call
  Certified : (view : ℕ) → (good : Bool) → (now : ℕ) → Call
  AddNotarization : (notarization : Notarization) → (now : ℕ) → Call
  AddNullification : (nullification : Nullification) → (now : ℕ) → Call
  AddFinalization : (finalization : Finalization) → (now : ℕ) → Call
  TriggerTimeout : (view : ℕ) → (reason : TimeoutReason) → (now : ℕ) → Call
  ConstructNotarize : (view : ℕ) → Call
  ConstructNullify : (view : ℕ) → (reason : TimeoutReason) → (now : ℕ) → Call
  ConstructFinalize : (view : ℕ) → Call
  BroadcastNotarization : (view : ℕ) → Call
  BroadcastNullification : (view : ℕ) → Call
  BroadcastFinalization : (view : ℕ) → Call
  TryPropose : Call
  TryVerify : Call
  CertifyCandidates : Call
  ReleaseProposalRequest : (view : ℕ) → Call
  Prune : Call

-- ---- answers, from what was known before the call

-- the floor's finalization
abbrev pub set_floor_answer : Floor → Option Finalization
set_floor_answer (Genesis payload) = None
set_floor_answer (Finalized f) = Some f

-- the leader of the proposal's view, where the slot named another proposal
unfoldable pub contradicted_leader : Made → List Fact → Proposal → Option ℕ
contradicted_leader made known proposal =
    if is_contradicted known proposal then Some (leader_of made (view_of proposal)) else None

-- the leader to blame for a replayed certificate
abbrev pub replay_answer : Made → List Fact → Artifact → Option ℕ
replay_answer made known (artifacts.Notarization n) = contradicted_leader made known n.proposal
replay_answer made known (artifacts.Finalization f) = contradicted_leader made known f.proposal
replay_answer made known _ = None

-- whether a certificate is added: its view is active, and none of its view and kind is known
unfoldable pub adds_notarization : Made → List Fact → Notarization → Bool
adds_notarization made known n =
    admits_certificate made known (view_of n.proposal) && is_none (notarization_of known (view_of n.proposal))

unfoldable pub adds_nullification : Made → List Fact → Nullification → Bool
adds_nullification made known n =
    admits_certificate made known n.round.view && is_none (nullification_of known n.round.view)

unfoldable pub adds_finalization : Made → List Fact → Finalization → Bool
adds_finalization made known f =
    admits_certificate made known (view_of f.proposal) && is_none (finalization_of known (view_of f.proposal))

-- whether it is added, and then the leader that it contradicts
unfoldable pub add_notarization_answer : Made → List Fact → Notarization → Bool × Option ℕ
add_notarization_answer made known n =
    if adds_notarization made known n then (true, contradicted_leader made known n.proposal) else (false, None)

unfoldable pub add_finalization_answer : Made → List Fact → Finalization → Bool × Option ℕ
add_finalization_answer made known f =
    if adds_finalization made known f then (true, contradicted_leader made known f.proposal) else (false, None)

-- whether a verdict is taken: its view is above the last final one, notarized, and without verdict
unfoldable pub takes_verdict : List Fact → ℕ → Bool
takes_verdict known view =
    nat_lt (last_finalized known) view && is_some (notarization_of known view) && is_none (verdict_of known view)

-- the notarization that a taken verdict is on
unfoldable pub certified_answer : List Fact → ℕ → Option Notarization
certified_answer known view = if takes_verdict known view then notarization_of known view else None

-- whether the nullify is a repeat, and the nullify
unfoldable pub construct_nullify_answer : Made → List Fact → ℕ → Option (Bool × Nullify)
construct_nullify_answer made known view = option_map (λ n. (has_nullified known view, n)) (nullify_at made view)

-- the certificate of the view, where it has still to be sent
unfoldable pub unsent_notarization : List Fact → ℕ → Option Notarization
unsent_notarization known view =
    if was_broadcast known kinds.Notarization view then None else notarization_of known view

unfoldable pub unsent_nullification : List Fact → ℕ → Option Nullification
unsent_nullification known view =
    if was_broadcast known kinds.Nullification view then None else nullification_of known view

unfoldable pub unsent_finalization : List Fact → ℕ → Option Finalization
unsent_finalization known view =
    if was_broadcast known kinds.Finalization view then None else finalization_of known view

abbrev pub pruned_view : Fact → ℕ
pruned_view (Pruned view) = view
pruned_view _ = 0

-- the least active view, where it rose since the last prune
unfoldable pub prune_answer : Made → List Fact → Option ℕ
prune_answer made known =
    if nat_lt (greatest_of pruned_view known) (least_active made known) then Some (least_active made known) else None

-- ---- what a call adds, the newest first

-- a fact, where the test holds
abbrev pub only_if : Bool → Fact → List Fact
only_if test fact = if test then fact ∷ [] else []

-- a fact of the value, where there is one
abbrev pub fact_of : {A : Type 0} → (A → Fact) → Option A → List Fact
fact_of fact value = option_to_list (option_map fact value)

-- a certificate that is known and need not be sent
abbrev pub kept_notarization : Notarization → ℕ → List Fact
kept_notarization n now =
    Broadcast kinds.Notarization (view_of n.proposal) ∷ Added (certificates.Notarization n) now ∷ []

abbrev pub kept_nullification : Nullification → ℕ → List Fact
kept_nullification n now = Broadcast kinds.Nullification n.round.view ∷ Added (certificates.Nullification n) now ∷ []

abbrev pub kept_finalization : Finalization → ℕ → List Fact
kept_finalization f now =
    Broadcast kinds.Finalization (view_of f.proposal) ∷ Added (certificates.Finalization f) now ∷ []

abbrev pub floor_facts : Floor → ℕ → List Fact
floor_facts (Genesis payload) now = FloorAt 0 payload ∷ []
floor_facts (Finalized f) now = kept_finalization f now ++ FloorAt (view_of f.proposal) f.proposal.payload ∷ []

-- a verdict that is taken, and the failure that a false one is
unfoldable pub judged : Made → List Fact → ℕ → Bool → ℕ → List Fact
judged made known view good now =
    if takes_verdict known view
    then (if good then [] else triggered made known view FailedCertification now) ++ Judged view good now ∷ []
    else []

abbrev pub replay_facts : Made → List Fact → Artifact → ℕ → List Fact
replay_facts made known (artifacts.Notarize v) now = Voted (votes.Notarize v) ∷ []
replay_facts made known (artifacts.Nullify v) now = Voted (votes.Nullify v) ∷ []
replay_facts made known (artifacts.Finalize v) now = Voted (votes.Finalize v) ∷ []
replay_facts made known (artifacts.Notarization n) now = kept_notarization n now
replay_facts made known (artifacts.Nullification n) now = kept_nullification n now
replay_facts made known (artifacts.Finalization f) now = kept_finalization f now
replay_facts made known (artifacts.Certification round good) now = judged made known round.view good now

-- the proposal that an answer to the context is
abbrev pub proposal_on : Context → List ℕ → Proposal
proposal_on context payload = record { round = context.round; parent = context.parent.view; payload = payload }

-- an own nullify goes out, the first time as a new vote
abbrev pub nullify_facts : List Fact → ℕ → ℕ → Nullify → List Fact
nullify_facts known view now n =
    Published view now ∷ only_if (not (has_nullified known view)) (Voted (votes.Nullify n))

-- what the application is told with a request for a proposal, and whether it is for the next term
abbrev pub request_context : ProposalRequest → Context
request_context (Prepare context) = context
request_context (Propose context) = context

abbrev pub is_prepare : ProposalRequest → Bool
is_prepare (Prepare context) = true
is_prepare (Propose context) = false

abbrev pub verify_facts : Verify → List Fact
verify_facts (Ready context proposal) = VerifyAsked proposal ∷ []
verify_facts (Resolve proposal view kind target) = MissingAsked proposal view kind ∷ []
verify_facts Wait = []

unfoldable pub facts_of : Made → List Fact → Call → List Fact
facts_of made known (SetFloor floor now) = floor_facts floor now
facts_of made known (Replay artifact now) = replay_facts made known artifact now
facts_of made known (SetProposal view proposal) = only_if (records_proposal made known proposal) (Taken proposal)
facts_of made known (Proposed context payload) =
    only_if (records_answer made known context.round.view) (Answered (proposal_on context payload))
facts_of made known (Verified view) = fact_of Approved (verify_asked known view)
facts_of made known (VerificationFailed view reason now) = triggered made known view reason now
facts_of made known (Certified view good now) = judged made known view good now
facts_of made known (AddNotarization n now) =
    only_if (adds_notarization made known n) (Added (certificates.Notarization n) now)
facts_of made known (AddNullification n now) =
    only_if (adds_nullification made known n) (Added (certificates.Nullification n) now)
facts_of made known (AddFinalization f now) =
    only_if (adds_finalization made known f) (Added (certificates.Finalization f) now)
facts_of made known (TriggerTimeout view reason now) = triggered made known view reason now
facts_of made known (ConstructNotarize view) = fact_of (λ v. Voted (votes.Notarize v)) (notarize_at made known view)
facts_of made known (ConstructNullify view reason now) =
    option_map_or (nullify_facts known view now) (nullify_at made view) []
facts_of made known (ConstructFinalize view) = fact_of (λ v. Voted (votes.Finalize v)) (finalize_at made known view)
facts_of made known (BroadcastNotarization view) =
    only_if (is_some (unsent_notarization known view)) (Broadcast kinds.Notarization view)
facts_of made known (BroadcastNullification view) =
    only_if (is_some (unsent_nullification known view)) (Broadcast kinds.Nullification view)
facts_of made known (BroadcastFinalization view) =
    only_if (is_some (unsent_finalization known view)) (Broadcast kinds.Finalization view)
facts_of made known TryPropose =
    fact_of (λ r. ProposalAsked (request_context r).round.view) (proposal_request made known)
facts_of made known TryVerify = verify_facts (verify_request made known)
facts_of made known CertifyCandidates =
    map (λ (f : CertificateFetch). ParentAsked f.proposal) (parent_fetches known)
    ++ map (λ p. CertifyAsked (view_of p)) (certify_requests known)
facts_of made known (ReleaseProposalRequest view) = ProposalFreed view ∷ []
facts_of made known Prune = fact_of Pruned (prune_answer made known)

-- what is known after the calls
unfoldable pub known_of : Made → List Call → List Fact
known_of made [] = []
known_of made (call ∷ calls) = facts_of made (known_of made calls) call ++ known_of made calls
