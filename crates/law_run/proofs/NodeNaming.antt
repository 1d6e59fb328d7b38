-- What a voter knows, appends and hands on names its epoch.
use Rattle.std.proofs.Common.{◌≡◌, ℕ, ◌==◌, ◌&&◌, ◌||◌, not, Bool, true, false, nat_lt, List, [], ◌∷◌, ◌++◌, map, fold, Option, Some, None, refl, if◌then◌else◌}
use Rattle.std.specs.Option.{IfSome, is_none, option_map, option_map_or, option_and_then}
use Rattle.simplex_values.specs.declared.proposal.Proposal.{Proposal}
use Rattle.simplex_values.specs.declared.proposal.Subject.TheVariants as subjects
use Rattle.simplex_wire.specs.declared.attestation.Attestation.{Attestation}
use Rattle.simplex_values.specs.declared.timeout.TimeoutReason.{TimeoutReason}
use Rattle.simplex_values.specs.declared.timeout.TimeoutReason.TheVariants.{MissingProposal, FailedCertification}
use Rattle.simplex_wire.specs.declared.artifact.Artifact.{Artifact}
use Rattle.simplex_wire.specs.declared.artifact.Artifact.TheVariants as artifacts
use Rattle.simplex_wire.specs.declared.certificate.Certificate.TheVariants as certificates
use Rattle.simplex_wire.specs.declared.certificate.Notarization.{Notarization}
use Rattle.simplex_wire.specs.declared.certificate.Finalization.{Finalization}
use Rattle.simplex_wire.specs.declared.vote.Vote.TheVariants as votes
use Rattle.simplex_wire.specs.declared.vote.Notarize.{Notarize}
use Rattle.simplex_wire.specs.declared.vote.Nullify.{Nullify}
use Rattle.simplex_wire.specs.declared.vote.Finalize.{Finalize}
use Rattle.simplex_wire.specs.Fields.{vote_subject, certificate_subject, subject_round}
use Rattle.simplex_types.specs.declared.floor.Floor.{Floor}
use Rattle.simplex_types.specs.declared.floor.Floor.TheVariants as floors
use Rattle.model_rules.specs.declared.request.ProposalRequest.{ProposalRequest}
use Rattle.model_rules.specs.declared.request.ProposalRequest.TheVariants.{Prepare, Propose}
use Rattle.model_rules.specs.declared.request.ProposalState.TheVariants.{Waiting}
use Rattle.model_rules.specs.declared.request.Verify.{Verify}
use Rattle.model_rules.specs.declared.request.Verify.TheVariants.{Ready, Resolve, Wait}
use Rattle.model_rules.specs.declared.request.CertificateFetch.{CertificateFetch}
use Rattle.model_rules.specs.Lists.{first_of}
use Rattle.model_rules.specs.Known.{Made, Fact, Added, Taken, Answered, Approved, Judged, Voted, Expired, Failed, ProposalAsked, CertifyAsked, ParentAsked, Pruned, view_of, notarization_in, notarization_of, finalization_in, finalization_of, proposal_in, proposal_of, notarize_in, own_notarize, has_nullified}
use Rattle.model_rules.specs.Views.{current_of}
use Rattle.model_rules.specs.Slot.{slot_of, records_proposal, records_answer}
use Rattle.model_rules.specs.Ancestry.{is_certified, greatest_parent}
use Rattle.model_rules.specs.Votes.{notarizes, finalizes, signed_notarize, signed_nullify, signed_finalize, notarize_at, finalize_at, nullify_at}
use Rattle.model_rules.specs.Deadline.{expires, fails, triggered}
use Rattle.model_rules.specs.Requests.{needs_handoff, context_at, request_on, request_at, proposal_request, proposal_view, verify_asked, verify_request, certify_requests, parent_fetches, is_superseded, is_abandoned}
use Rattle.model_rules.specs.Calls as state
use Rattle.model_rules.specs.Calls.{facts_of, only_if, fact_of, judged, takes_verdict, replay_facts, request_context, verify_facts, prune_answer, adds_notarization, adds_nullification, adds_finalization}
use Rattle.model_rules.specs.Pending.{Desk, Pending, Opened, told, is_open, is_preparing, is_waiting, is_closed, pending_view, pending_parent, drop_request, drop_number, drop_proposal, drop_verify, abandon_handoff, end_waiting, with_request, open_proposal, with_verify, open_verify, reconciled, drop_certify, open_certify, seek_parent, certifying, iterated}
use Rattle.simplex_messages.specs.declared.call.Call.{Call}
use Rattle.simplex_messages.specs.declared.call.Call.TheVariants as calls
use Rattle.simplex_messages.specs.declared.handed.Handed.{Handed}
use Rattle.simplex_messages.specs.declared.handed.Handed.TheVariants as handed
use Rattle.simplex_messages.specs.declared.batcher.Message.TheVariants as batcher
use Rattle.simplex_messages.specs.declared.voter.Message.TheVariants as mail
use Rattle.simplex_messages.specs.declared.voter.VoterInput.{VoterInput}
use Rattle.simplex_messages.specs.declared.voter.VoterInput.TheVariants as inputs
use Rattle.law_member.proofs.Choices.{either_case, map_case}
use Rattle.law_run.specs.Sayings.{Each}
use Rattle.law_run.proofs.Speaking.{Each-append, Each-map}

-- ---- what names an epoch

abbrev pub NamesFact : ℕ → Fact → Type 0
NamesFact epoch (Added c now) = (subject_round (certificate_subject c)).epoch ≡ epoch
NamesFact epoch (Voted v) = (subject_round (vote_subject v)).epoch ≡ epoch
NamesFact epoch (Taken p) = p.round.epoch ≡ epoch
NamesFact epoch (Answered p) = p.round.epoch ≡ epoch
NamesFact epoch _ = Unit {0}

abbrev pub Names : ℕ → List Fact → Type 0
Names epoch known = Each (NamesFact epoch) known

abbrev pub NamesRecord : ℕ → Artifact → Type 0
NamesRecord epoch (artifacts.Notarize v) = v.proposal.round.epoch ≡ epoch
NamesRecord epoch (artifacts.Nullify v) = v.round.epoch ≡ epoch
NamesRecord epoch (artifacts.Finalize v) = v.proposal.round.epoch ≡ epoch
NamesRecord epoch (artifacts.Notarization c) = c.proposal.round.epoch ≡ epoch
NamesRecord epoch (artifacts.Nullification c) = c.round.epoch ≡ epoch
NamesRecord epoch (artifacts.Finalization c) = c.proposal.round.epoch ≡ epoch
NamesRecord epoch (artifacts.Certification round good) = Unit {0}

abbrev pub NamesCall : ℕ → Call → Type 0
NamesCall epoch (calls.Append section artifact) = NamesRecord epoch artifact
NamesCall epoch _ = Unit {0}

-- an own vote names it, and the voter hands itself nothing
abbrev pub NamesHanded : ℕ → Handed → Type 0
NamesHanded epoch (handed.Batcher (batcher.Constructed v)) = (subject_round (vote_subject v)).epoch ≡ epoch
NamesHanded epoch (handed.Batcher (batcher.Update current leader finalized proposal)) = Unit {0}
NamesHanded epoch (handed.Voter message) = ⊥
NamesHanded epoch _ = Unit {0}

abbrev pub NamesPending : ℕ → Option Pending → Type 0
NamesPending epoch o = IfSome o (λ p. p.context.round.epoch ≡ epoch)

abbrev pub NamesInput : ℕ → VoterInput → Type 0
NamesInput epoch (inputs.Mail (mail.Verified c)) = (subject_round (certificate_subject c)).epoch ≡ epoch
NamesInput epoch (inputs.Mail (mail.Proposal p)) = p.round.epoch ≡ epoch
NamesInput epoch _ = Unit {0}

abbrev pub NamesFloor : ℕ → Floor → Type 0
NamesFloor epoch (floors.Genesis payload) = Unit {0}
NamesFloor epoch (floors.Finalized f) = f.proposal.round.epoch ≡ epoch

-- ---- lists of facts

pub only_named : (epoch : ℕ) (b : Bool) (fact : Fact) → NamesFact epoch fact → Names epoch (only_if b fact)
only_named epoch true fact n = (n, tt)
only_named epoch false fact n = tt

fact_named : {A : Type 0} (epoch : ℕ) (f : A → Fact) (o : Option A) → IfSome o (λ a. NamesFact epoch (f a)) → Names epoch (fact_of f o)
fact_named epoch f None n = tt
fact_named epoch f (Some a) n = (n, tt)

pub any_some : {A : Type 0} (P : A → Type 0) (o : Option A) → ((a : A) → P a) → IfSome o P
any_some P None every = tt
any_some P (Some a) every = every a

triggered_named : (epoch : ℕ) (made : Made) (known : List Fact) (view : ℕ) (reason : TimeoutReason) (now : ℕ) → Names epoch (triggered made known view reason now)
unfolding triggered
triggered_named epoch made known view reason now = at (expires made known view reason) (fails made known view reason)
  where
    at : (a b : Bool) → Names epoch (if a then Expired view reason now ∷ [] else if b then Failed view reason ∷ [] else [])
    at true b = (tt, tt)
    at false true = (tt, tt)
    at false false = tt

judged_named : (epoch : ℕ) (made : Made) (known : List Fact) (view : ℕ) (good : Bool) (now : ℕ) → Names epoch (judged made known view good now)
unfolding judged
judged_named epoch made known view good now = at (takes_verdict known view) good
  where
    failed : List Fact
    failed = triggered made known view FailedCertification now

    at : (t b : Bool) → Names epoch (if t then (if b then [] else failed) ++ Judged view good now ∷ [] else [])
    at false b = tt
    at true true = (tt, tt)
    at true false = Each-append (NamesFact epoch) failed (Judged view good now ∷ []) (triggered_named epoch made known view FailedCertification now) (tt, tt)

verify_named : (epoch : ℕ) (v : Verify) → Names epoch (verify_facts v)
verify_named epoch (Ready context proposal) = (tt, tt)
verify_named epoch (Resolve proposal view kind target) = (tt, tt)
verify_named epoch Wait = tt

-- ---- what is looked up

pub first_named : {A : Type 0} (epoch : ℕ) (P : A → Type 0) (pick : Fact → Option A) (known : List Fact) → ((fact : Fact) → NamesFact epoch fact → IfSome (pick fact) P) → Names epoch known → IfSome (first_of pick known) P
unfolding first_of
first_named epoch P pick [] each n = tt
first_named epoch P pick (fact ∷ known) each n = either_case P (first_of pick known) (pick fact) (first_named epoch P pick known each n.1) (each fact n.0)

if_some : {A : Type 0} (P : A → Type 0) (b : Bool) (a : A) → P a → IfSome (if b then Some a else None) P
if_some P true a p = p
if_some P false a p = tt

notarization_named : (epoch view : ℕ) (fact : Fact) → NamesFact epoch fact → IfSome (notarization_in view fact) (λ n. n.proposal.round.epoch ≡ epoch)
notarization_named epoch view (Added (certificates.Notarization m) now) n = if_some (λ (x : Notarization). x.proposal.round.epoch ≡ epoch) (view_of m.proposal == view) m n
notarization_named epoch view _ n = tt

finalization_named : (epoch view : ℕ) (fact : Fact) → NamesFact epoch fact → IfSome (finalization_in view fact) (λ n. n.proposal.round.epoch ≡ epoch)
finalization_named epoch view (Added (certificates.Finalization m) now) n = if_some (λ (x : Finalization). x.proposal.round.epoch ≡ epoch) (view_of m.proposal == view) m n
finalization_named epoch view _ n = tt

own_named : (epoch view : ℕ) (fact : Fact) → NamesFact epoch fact → IfSome (notarize_in view fact) (λ n. n.proposal.round.epoch ≡ epoch)
own_named epoch view (Voted (votes.Notarize m)) n = if_some (λ (x : Notarize). x.proposal.round.epoch ≡ epoch) (view_of m.proposal == view) m n
own_named epoch view _ n = tt

proposal_named : (epoch view : ℕ) (fact : Fact) → NamesFact epoch fact → IfSome (proposal_in view fact) (λ p. p.round.epoch ≡ epoch)
proposal_named epoch view (Taken p) n = if_some (λ (x : Proposal). x.round.epoch ≡ epoch) (view_of p == view) p n
proposal_named epoch view (Answered p) n = if_some (λ (x : Proposal). x.round.epoch ≡ epoch) (view_of p == view) p n
proposal_named epoch view _ n = tt

pub known_notarization : (epoch : ℕ) (known : List Fact) (view : ℕ) → Names epoch known → IfSome (notarization_of known view) (λ n. n.proposal.round.epoch ≡ epoch)
unfolding notarization_of
known_notarization epoch known view n = first_named epoch (λ (x : Notarization). x.proposal.round.epoch ≡ epoch) (notarization_in view) known (notarization_named epoch view) n

slot_named : (epoch : ℕ) (known : List Fact) (view : ℕ) → Names epoch known → IfSome (slot_of known view) (λ p. p.round.epoch ≡ epoch)
unfolding slot_of finalization_of own_notarize proposal_of
slot_named epoch known view n =
    let P = λ (x : Proposal). x.round.epoch ≡ epoch in
    either_case P (option_map (λ (m : Notarization). m.proposal) (notarization_of known view)) _
    (map_case (λ (x : Notarization). x.proposal.round.epoch ≡ epoch) P (λ (m : Notarization). m.proposal) (notarization_of known view) (λ x p. p) (known_notarization epoch known view n))
    (either_case P (option_map (λ (m : Finalization). m.proposal) (first_of (finalization_in view) known)) _
    (map_case (λ (x : Finalization). x.proposal.round.epoch ≡ epoch) P (λ (m : Finalization). m.proposal) (first_of (finalization_in view) known) (λ x p. p)
    (first_named epoch (λ (x : Finalization). x.proposal.round.epoch ≡ epoch) (finalization_in view) known (finalization_named epoch view) n))
    (either_case P (option_map (λ (m : Notarize). m.proposal) (first_of (notarize_in view) known)) _
    (map_case (λ (x : Notarize). x.proposal.round.epoch ≡ epoch) P (λ (m : Notarize). m.proposal) (first_of (notarize_in view) known) (λ x p. p)
    (first_named epoch (λ (x : Notarize). x.proposal.round.epoch ≡ epoch) (notarize_in view) known (own_named epoch view) n))
    (first_named epoch P (proposal_in view) known (proposal_named epoch view) n)))

-- ---- the votes

signed_named : (epoch : ℕ) (made : Made) (p : Proposal) → p.round.epoch ≡ epoch → IfSome (signed_notarize made p) (λ v. v.proposal.round.epoch ≡ epoch)
unfolding signed_notarize
signed_named epoch made p n = at (made.signs (subjects.Notarize p))
  where
    at : (o : Option Attestation) → IfSome (option_map (λ a. record { proposal = p; attestation = a }) o) (λ (v : Notarize). v.proposal.round.epoch ≡ epoch)
    at None = tt
    at (Some a) = n

signed_final_named : (epoch : ℕ) (made : Made) (p : Proposal) → p.round.epoch ≡ epoch → IfSome (signed_finalize made p) (λ v. v.proposal.round.epoch ≡ epoch)
unfolding signed_finalize
signed_final_named epoch made p n = at (made.signs (subjects.Finalize p))
  where
    at : (o : Option Attestation) → IfSome (option_map (λ a. record { proposal = p; attestation = a }) o) (λ (v : Finalize). v.proposal.round.epoch ≡ epoch)
    at None = tt
    at (Some a) = n

pub notarize_named : (epoch : ℕ) (made : Made) (known : List Fact) (view : ℕ) → Names epoch known → IfSome (notarize_at made known view) (λ v. v.proposal.round.epoch ≡ epoch)
unfolding notarize_at
notarize_named epoch made known view n = at (slot_of known view) (slot_named epoch known view n)
  where
    one : (p : Proposal) (b : Bool) → p.round.epoch ≡ epoch → IfSome (if b then signed_notarize made p else None) (λ (v : Notarize). v.proposal.round.epoch ≡ epoch)
    one p true m = signed_named epoch made p m
    one p false m = tt

    at : (o : Option Proposal) → IfSome o (λ p. p.round.epoch ≡ epoch) → IfSome (option_and_then (λ p. if notarizes made known p then signed_notarize made p else None) o) (λ (v : Notarize). v.proposal.round.epoch ≡ epoch)
    at None m = tt
    at (Some p) m = one p (notarizes made known p) m

pub finalize_named : (epoch : ℕ) (made : Made) (known : List Fact) (view : ℕ) → Names epoch known → IfSome (finalize_at made known view) (λ v. v.proposal.round.epoch ≡ epoch)
unfolding finalize_at
finalize_named epoch made known view n = at (finalizes made known view) (slot_of known view) (slot_named epoch known view n)
  where
    at : (b : Bool) (o : Option Proposal) → IfSome o (λ p. p.round.epoch ≡ epoch) → IfSome (if b then option_and_then (signed_finalize made) o else None) (λ (v : Finalize). v.proposal.round.epoch ≡ epoch)
    at false o m = tt
    at true None m = tt
    at true (Some p) m = signed_final_named epoch made p m

pub nullify_named : (made : Made) (view : ℕ) → IfSome (nullify_at made view) (λ v. v.round.epoch ≡ made.epoch)
unfolding nullify_at signed_nullify
nullify_named made view = at (made.signs (subjects.Nullify (record { epoch = made.epoch; view = view })))
  where
    at : (o : Option Attestation) → IfSome (option_map (λ a. record { round = record { epoch = made.epoch; view = view }; attestation = a }) o) (λ (v : Nullify). v.round.epoch ≡ made.epoch)
    at None = tt
    at (Some a) = refl

-- ---- a call on the state

-- what a call brings names the epoch
abbrev pub NamesTold : ℕ → state.Call → Type 0
NamesTold epoch (state.SetFloor floor now) = NamesFloor epoch floor
NamesTold epoch (state.Replay artifact now) = NamesRecord epoch artifact
NamesTold epoch (state.SetProposal view proposal) = proposal.round.epoch ≡ epoch
NamesTold epoch (state.Proposed context payload) = context.round.epoch ≡ epoch
NamesTold epoch (state.AddNotarization n now) = n.proposal.round.epoch ≡ epoch
NamesTold epoch (state.AddNullification n now) = n.round.epoch ≡ epoch
NamesTold epoch (state.AddFinalization f now) = f.proposal.round.epoch ≡ epoch
NamesTold epoch _ = Unit {0}

floor_named : (epoch : ℕ) (made : Made) (known : List Fact) (f : Floor) (now : ℕ) → NamesFloor epoch f → Names epoch (facts_of made known (state.SetFloor f now))
unfolding facts_of
floor_named epoch made known (floors.Genesis payload) now n = (tt, tt)
floor_named epoch made known (floors.Finalized f) now n = (tt, (n, (tt, tt)))

record_named : (epoch : ℕ) (made : Made) (known : List Fact) (a : Artifact) (now : ℕ) → NamesRecord epoch a → Names epoch (replay_facts made known a now)
record_named epoch made known (artifacts.Notarize v) now n = (n, tt)
record_named epoch made known (artifacts.Nullify v) now n = (n, tt)
record_named epoch made known (artifacts.Finalize v) now n = (n, tt)
record_named epoch made known (artifacts.Notarization c) now n = (tt, (n, tt))
record_named epoch made known (artifacts.Nullification c) now n = (tt, (n, tt))
record_named epoch made known (artifacts.Finalization c) now n = (tt, (n, tt))
record_named epoch made known (artifacts.Certification round good) now n = judged_named epoch made known round.view good now

nullify_facts_named : (made : Made) (known : List Fact) (view now : ℕ) (o : Option Nullify) → IfSome o (λ v. v.round.epoch ≡ made.epoch) → Names made.epoch (option_map_or (state.nullify_facts known view now) o [])
nullify_facts_named made known view now None n = tt
nullify_facts_named made known view now (Some v) n = (tt, only_named made.epoch (not (has_nullified known view)) (Voted (votes.Nullify v)) n)

new_named : (made : Made) (known : List Fact) (call : state.Call) → NamesTold made.epoch call → Names made.epoch known → Names made.epoch (facts_of made known call)
unfolding facts_of
new_named made known (state.SetFloor floor now) t n = floor_named made.epoch made known floor now t
new_named made known (state.Replay artifact now) t n = record_named made.epoch made known artifact now t
new_named made known (state.SetProposal view proposal) t n = only_named made.epoch (records_proposal made known proposal) (Taken proposal) t
new_named made known (state.Proposed context payload) t n = only_named made.epoch (records_answer made known context.round.view) (Answered (state.proposal_on context payload)) t
new_named made known (state.Verified view) t n = fact_named made.epoch Approved (verify_asked known view) (any_some (λ (p : Proposal). Unit {0}) (verify_asked known view) (λ a. tt))
new_named made known (state.VerificationFailed view reason now) t n = triggered_named made.epoch made known view reason now
new_named made known (state.Certified view good now) t n = judged_named made.epoch made known view good now
new_named made known (state.AddNotarization c now) t n = only_named made.epoch (adds_notarization made known c) (Added (certificates.Notarization c) now) t
new_named made known (state.AddNullification c now) t n = only_named made.epoch (adds_nullification made known c) (Added (certificates.Nullification c) now) t
new_named made known (state.AddFinalization c now) t n = only_named made.epoch (adds_finalization made known c) (Added (certificates.Finalization c) now) t
new_named made known (state.TriggerTimeout view reason now) t n = triggered_named made.epoch made known view reason now
new_named made known (state.ConstructNotarize view) t n = fact_named made.epoch (λ v. Voted (votes.Notarize v)) (notarize_at made known view) (notarize_named made.epoch made known view n)
new_named made known (state.ConstructNullify view reason now) t n = nullify_facts_named made known view now (nullify_at made view) (nullify_named made view)
new_named made known (state.ConstructFinalize view) t n = fact_named made.epoch (λ v. Voted (votes.Finalize v)) (finalize_at made known view) (finalize_named made.epoch made known view n)
new_named made known (state.BroadcastNotarization view) t n = only_named made.epoch _ _ tt
new_named made known (state.BroadcastNullification view) t n = only_named made.epoch _ _ tt
new_named made known (state.BroadcastFinalization view) t n = only_named made.epoch _ _ tt
new_named made known state.TryPropose t n = fact_named made.epoch (λ r. ProposalAsked (request_context r).round.view) (proposal_request made known) (any_some (λ (r : ProposalRequest). Unit {0}) (proposal_request made known) (λ a. tt))
new_named made known state.TryVerify t n = verify_named made.epoch (verify_request made known)
new_named made known state.CertifyCandidates t n =
    Each-append (NamesFact made.epoch) (map (λ (f : CertificateFetch). ParentAsked f.proposal) (parent_fetches known)) _
    (Each-map (NamesFact made.epoch) (λ (f : CertificateFetch). ParentAsked f.proposal) (parent_fetches known) (λ a. tt))
    (Each-map (NamesFact made.epoch) (λ p. CertifyAsked (view_of p)) (certify_requests known) (λ a. tt))
new_named made known (state.ReleaseProposalRequest view) t n = (tt, tt)
new_named made known state.Prune t n = fact_named made.epoch Pruned (prune_answer made known) (any_some (λ (v : ℕ). Unit {0}) (prune_answer made known) (λ a. tt))

pub told_named : (made : Made) (known : List Fact) (call : state.Call) → NamesTold made.epoch call → Names made.epoch known → Names made.epoch (facts_of made known call ++ known)
told_named made known call t n = Each-append (NamesFact made.epoch) (facts_of made known call) known (new_named made known call t n) n

-- ---- the open requests

pub record NamesDesk (epoch : ℕ) (desk : Desk) : Type 0 where
  pub known : Names epoch desk.known
  pub pending : NamesPending epoch desk.proposal

tells : (made : Made) (call : state.Call) (desk : Desk) → NamesTold made.epoch call → NamesDesk made.epoch desk → NamesDesk made.epoch (told made call desk)
tells made call desk t n = record { known = told_named made desk.known call t n.known; pending = n.pending }

dropped_request : (epoch : ℕ) (desk : Desk) (p : Pending) → NamesDesk epoch desk → NamesDesk epoch (drop_request desk p)
dropped_request epoch desk p n = at (is_open p.state)
  where
    at : (b : Bool) → NamesDesk epoch (if b then drop_number desk p.number else desk)
    at true = record { known = n.known; pending = n.pending }
    at false = n

desk_drop_proposal : (made : Made) (desk : Desk) → NamesDesk made.epoch desk → NamesDesk made.epoch (drop_proposal made desk)
unfolding drop_proposal
desk_drop_proposal made desk n = at desk.proposal
  where
    one : (p : Pending) (b : Bool) → NamesDesk made.epoch (if b then record (drop_request desk p) { proposal = None } else desk)
    one p true = (let d = dropped_request made.epoch desk p n in record { known = d.known; pending = tt })
    one p false = n

    at : (o : Option Pending) → NamesDesk made.epoch (option_map_or (λ p.
        if nat_lt (pending_view p) (current_of made desk.known) || is_superseded made desk.known (pending_parent p) (pending_view p)
        then record (drop_request desk p) { proposal = None } else desk) o desk)
    at None = n
    at (Some p) = one p _

desk_drop_verify : (made : Made) (desk : Desk) → NamesDesk made.epoch desk → NamesDesk made.epoch (drop_verify made desk)
unfolding drop_verify
desk_drop_verify made desk n = at desk.verify
  where
    one : (v : Opened) (b : Bool) → NamesDesk made.epoch (if b then record (drop_number desk v.number) { verify = None } else desk)
    one v true = record { known = n.known; pending = n.pending }
    one v false = n

    at : (o : Option Opened) → NamesDesk made.epoch (option_map_or (λ v.
        if nat_lt v.view (current_of made desk.known) then record (drop_number desk v.number) { verify = None } else desk) o desk)
    at None = n
    at (Some v) = one v _

desk_abandon : (epoch : ℕ) (desk : Desk) → NamesDesk epoch desk → NamesDesk epoch (abandon_handoff desk)
unfolding abandon_handoff
desk_abandon epoch desk n = at desk.proposal n.pending
  where
    one : (p : Pending) (b : Bool) → p.context.round.epoch ≡ epoch → NamesDesk epoch (if b then record (drop_number desk p.number) { proposal = Some (record p { state = Waiting }) } else desk)
    one p true m = record { known = n.known; pending = m }
    one p false m = n

    at : (o : Option Pending) → NamesPending epoch o → NamesDesk epoch (option_map_or (λ p.
        if is_preparing p.state && not p.is_answered && is_abandoned desk.known (pending_parent p) (pending_view p)
        then record (drop_number desk p.number) { proposal = Some (record p { state = Waiting }) } else desk) o desk)
    at None m = n
    at (Some p) m = one p _ m

desk_end_waiting : (made : Made) (now : ℕ) (desk : Desk) → NamesDesk made.epoch desk → NamesDesk made.epoch (end_waiting made now desk)
unfolding end_waiting
desk_end_waiting made now desk n = at desk.proposal
  where
    one : (p : Pending) (a b c : Bool) → NamesDesk made.epoch (if a then desk
        else if b then record (told made (state.ReleaseProposalRequest (pending_view p)) desk) { proposal = None }
        else if c then record (told made (state.TriggerTimeout (pending_view p) MissingProposal now) desk) { proposal = None }
        else desk)
    one p true b c = n
    one p false true c = record { known = told_named made desk.known (state.ReleaseProposalRequest (pending_view p)) tt n.known; pending = tt }
    one p false false true = record { known = told_named made desk.known (state.TriggerTimeout (pending_view p) MissingProposal now) tt n.known; pending = tt }
    one p false false false = n

    at : (o : Option Pending) → NamesDesk made.epoch (option_map_or (λ p.
        if not (is_certified desk.known (pending_parent p)) then desk
        else if is_waiting p.state then record (told made (state.ReleaseProposalRequest (pending_view p)) desk) { proposal = None }
        else if is_closed p.state
        then record (told made (state.TriggerTimeout (pending_view p) MissingProposal now) desk) { proposal = None }
        else desk) o desk)
    at None = n
    at (Some p) = one p _ _ _

-- a request is for a proposal of the epoch
request_named : (made : Made) (known : List Fact) → IfSome (proposal_request made known) (λ r. (request_context r).round.epoch ≡ made.epoch)
unfolding proposal_request request_at request_on context_at
request_named made known = at (proposal_view made known)
  where
    P : ProposalRequest → Type 0
    P r = (request_context r).round.epoch ≡ made.epoch

    on : (view parent : ℕ) (a b : Bool) → IfSome (if a then Some (Propose (context_at made known parent view)) else if b then Some (Prepare (context_at made known parent view)) else None) P
    on view parent true b = refl
    on view parent false true = refl
    on view parent false false = tt

    under : (view : ℕ) (o : Option ℕ) → IfSome (option_and_then (request_on made known view) o) P
    under view None = tt
    under view (Some parent) = on view parent (not (needs_handoff made known parent view)) made.handoff

    at : (o : Option ℕ) → IfSome (option_and_then (request_at made known) o) P
    at None = tt
    at (Some view) = under view (greatest_parent made known view)

with_request_named : (epoch : ℕ) (o : Option ProposalRequest) (desk : Desk) → IfSome o (λ r. (request_context r).round.epoch ≡ epoch) → NamesDesk epoch desk → NamesDesk epoch (with_request o desk)
with_request_named epoch (Some (Prepare context)) desk r n = record { known = n.known; pending = r }
with_request_named epoch (Some (Propose context)) desk r n = record { known = n.known; pending = r }
with_request_named epoch None desk r n = n

with_verify_named : (epoch : ℕ) (v : Verify) (desk : Desk) → NamesDesk epoch desk → NamesDesk epoch (with_verify v desk)
with_verify_named epoch (Ready context proposal) desk n = record { known = n.known; pending = n.pending }
with_verify_named epoch (Resolve proposal view kind target) desk n = record { known = n.known; pending = n.pending }
with_verify_named epoch Wait desk n = n

desk_open_proposal : (made : Made) (desk : Desk) → NamesDesk made.epoch desk → NamesDesk made.epoch (open_proposal made desk)
unfolding open_proposal
desk_open_proposal made desk n = at (is_none desk.proposal)
  where
    at : (b : Bool) → NamesDesk made.epoch (if b then with_request (proposal_request made desk.known) (told made state.TryPropose desk) else desk)
    at true = with_request_named made.epoch (proposal_request made desk.known) (told made state.TryPropose desk) (request_named made desk.known) (tells made state.TryPropose desk tt n)
    at false = n

desk_open_verify : (made : Made) (desk : Desk) → NamesDesk made.epoch desk → NamesDesk made.epoch (open_verify made desk)
unfolding open_verify
desk_open_verify made desk n = at (is_none desk.verify)
  where
    at : (b : Bool) → NamesDesk made.epoch (if b then with_verify (verify_request made desk.known) (told made state.TryVerify desk) else desk)
    at true = with_verify_named made.epoch (verify_request made desk.known) (told made state.TryVerify desk) (tells made state.TryVerify desk tt n)
    at false = n

pub desk_reconciled : (made : Made) (now : ℕ) (desk : Desk) → NamesDesk made.epoch desk → NamesDesk made.epoch (reconciled made now desk)
unfolding reconciled
desk_reconciled made now desk n =
    let a = drop_proposal made desk in
    let b = drop_verify made a in
    let c = abandon_handoff b in
    let d = end_waiting made now c in
    desk_open_verify made (open_proposal made d) (desk_open_proposal made d (desk_end_waiting made now c (desk_abandon made.epoch b (desk_drop_verify made a (desk_drop_proposal made desk n)))))

certify_named : (epoch : ℕ) (xs : List Proposal) (desk : Desk) → NamesDesk epoch desk → NamesDesk epoch (fold open_certify desk xs)
certify_named epoch [] desk n = n
certify_named epoch (x ∷ xs) desk n = certify_named epoch xs (open_certify desk x) (record { known = n.known; pending = n.pending })

parents_named : (epoch : ℕ) (xs : List CertificateFetch) (desk : Desk) → NamesDesk epoch desk → NamesDesk epoch (fold seek_parent desk xs)
parents_named epoch [] desk n = n
parents_named epoch (x ∷ xs) desk n = parents_named epoch xs (seek_parent desk x) (record { known = n.known; pending = n.pending })

desk_certifying : (made : Made) (desk : Desk) → NamesDesk made.epoch desk → NamesDesk made.epoch (certifying made desk)
unfolding certifying drop_certify
desk_certifying made desk n =
    let asked = told made state.CertifyCandidates (drop_certify desk) in
    parents_named made.epoch (parent_fetches desk.known) (fold open_certify asked (certify_requests desk.known))
    (certify_named made.epoch (certify_requests desk.known) asked (record { known = told_named made desk.known state.CertifyCandidates tt n.known; pending = n.pending }))

pub desk_iterated : (made : Made) (now : ℕ) (desk : Desk) → NamesDesk made.epoch desk → NamesDesk made.epoch (iterated made now desk)
unfolding iterated
desk_iterated made now desk n = desk_certifying made (reconciled made now desk) (desk_reconciled made now desk n)
