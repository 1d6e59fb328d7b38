-- What a voter's step does with what it takes.
use Rattle.std.specs.Prelude.{◌≡◌, ℕ, ◌-◌, ◌==◌, ◌&&◌, ◌||◌, nat_lt, nat_le, not, Bool, true, false, List, [], ◌∷◌, ◌++◌, filter, find, Option, Some, None, if◌then◌else◌}
use Rattle.std.specs.Option.{is_none, option_map, option_map_or, option_and_then}
use Rattle.std.specs.List.{list_any}
use Rattle.simplex_values.specs.declared.proposal.Proposal.{Proposal}
use Rattle.simplex_values.specs.declared.answer.Answer.{Answer}
use Rattle.simplex_values.specs.declared.answer.Answer.TheVariants as answers
use Rattle.simplex_values.specs.declared.answer.Handoff.TheVariants as handoffs
use Rattle.simplex_values.specs.declared.plan.Plan.TheVariants as plans
use Rattle.simplex_values.specs.declared.timeout.TimeoutReason.TheVariants.{LeaderTimeout, MissingProposal, IgnoredProposal, InvalidProposal}
use Rattle.simplex_wire.specs.declared.vote.Vote.TheVariants as votes
use Rattle.simplex_wire.specs.declared.certificate.Certificate.{Certificate}
use Rattle.simplex_wire.specs.declared.certificate.Certificate.TheVariants as certificates
use Rattle.simplex_wire.specs.declared.certificate.Notarization.{Notarization}
use Rattle.simplex_wire.specs.declared.artifact.Artifact.{Artifact}
use Rattle.simplex_wire.specs.declared.artifact.Artifact.TheVariants as artifacts
use Rattle.simplex_wire.specs.Fields.{certificate_subject, subject_round, artifact_round}
use Rattle.simplex_types.specs.declared.activity.Activity.{Activity}
use Rattle.simplex_types.specs.declared.activity.Activity.TheVariants as activities
use Rattle.simplex_types.specs.declared.cause.BlockCause.TheVariants.{LeaderConflict}
use Rattle.simplex_types.specs.declared.floor.Floor.{Floor}
use Rattle.simplex_types.specs.declared.floor.Floor.TheVariants as floors
use Rattle.model_rules.specs.declared.request.ProposalState.{ProposalState}
use Rattle.model_rules.specs.declared.request.ProposalState.TheVariants.{Preparing, Proposing, Waiting, Held, Closed}
use Rattle.model_rules.specs.Known.{Made, Fact, view_of}
use Rattle.model_rules.specs.Views.{last_finalized, current_of, admits_certificate}
use Rattle.model_rules.specs.Slot.{records_proposal, records_answer}
use Rattle.model_rules.specs.Ancestry.{is_certified}
use Rattle.model_rules.specs.Votes.{notarize_at, nullify_at, finalize_at}
use Rattle.model_rules.specs.Known.{has_nullified}
use Rattle.model_rules.specs.Deadline.{deadline_of}
use Rattle.model_rules.specs.Best.{best_certificate, forwardable_at}
use Rattle.model_rules.specs.Requests.{leader_of}
use Rattle.model_rules.specs.Calls as state
use Rattle.model_rules.specs.Calls.{adds_notarization, adds_nullification, adds_finalization, replay_answer, certified_answer, unsent_notarization, unsent_nullification, unsent_finalization, prune_answer}
use Rattle.model_rules.specs.Pending.{Desk, Pending, Opened, is_open, pending_view, pending_parent, reconciled, iterated}
use Rattle.simplex_messages.specs.declared.call.Call.TheVariants as calls
use Rattle.simplex_messages.specs.declared.handed.Handed.{Handed}
use Rattle.simplex_messages.specs.declared.handed.Handed.TheVariants as handed
use Rattle.simplex_messages.specs.declared.batcher.Message.TheVariants as batcher
use Rattle.simplex_messages.specs.declared.resolver.MailboxMessage.TheVariants as resolver
use Rattle.simplex_messages.specs.declared.voter.Message.{Message}
use Rattle.simplex_messages.specs.declared.voter.Message.TheVariants as mail
use Rattle.simplex_messages.specs.declared.voter.VoterInput.{VoterInput}
use Rattle.simplex_messages.specs.declared.voter.VoterInput.TheVariants as inputs
use Rattle.model_steps.specs.Desk.{Doing, begun, tell, make, hand, append, seek, send_vote, send_certificate, report}

-- ---- the open requests and their answers

-- what a voter works on between two steps: its desk, and the answers to open requests, in the order in which they came
pub record Standing : Type 0 where
  pub desk : Desk
  pub answers : List (ℕ × Answer)

abbrev pub is_of : ℕ → ℕ × Answer → Bool
is_of number given = given.0 == number

-- the answer to the request of this number, if it came
abbrev pub answer_to : List (ℕ × Answer) → ℕ → Option Answer
answer_to given number = option_map (λ g. g.1) (find (is_of number) given)

-- whether an answer is one to a proposal request that stands so, or to a Verify or Certify
abbrev pub fits_proposal : ProposalState → Answer → Bool
fits_proposal Preparing (answers.Handoff decision) = true
fits_proposal Preparing answers.Closed = true
fits_proposal Proposing (answers.Payload payload) = true
fits_proposal Proposing answers.Closed = true
fits_proposal _ _ = false

abbrev pub fits_verdict : Answer → Bool
fits_verdict (answers.Verdict good) = true
fits_verdict answers.Closed = true
fits_verdict _ = false

-- whether the request is open, unanswered, and of the answer's kind
unfoldable pub takes_answer : Standing → ℕ → Answer → Bool
takes_answer standing number answer =
    is_none (answer_to standing.answers number)
    && (option_map_or (λ (p : Pending). p.number == number && fits_proposal p.state answer) standing.desk.proposal false
    || (fits_verdict answer
    && (option_map_or (λ (v : Opened). v.number == number) standing.desk.verify false
    || list_any (λ (c : Opened). c.number == number) standing.desk.certify)))

abbrev pub marked_answered : ℕ → Pending → Pending
marked_answered number p = if p.number == number then record p { is_answered = true } else p

-- the answer stands behind those that came before
unfoldable pub answered : ℕ → Answer → Standing → Standing
answered number answer standing =
    if takes_answer standing number answer
    then record {
      desk = record standing.desk { proposal = option_map (marked_answered number) standing.desk.proposal };
      answers = standing.answers ++ (number, answer) ∷ [];
    }
    else standing

-- ---- acting on what was taken. Each gives what was done, and the view that the step touches; none ends it there

-- the own nullify of the current view: the first time it is appended; a repeat takes the best certificate along
unfoldable pub act_on_deadline : Made → ℕ → Doing → Doing
act_on_deadline made now doing =
    let view = current_of made doing.desk.known in
    option_map_or (λ n.
    if has_nullified doing.desk.known view
    then record (tell made (state.ConstructNullify view LeaderTimeout now) doing) {
      nullify = Some (n, best_certificate made doing.desk.known);
    }
    else record (append (artifacts.Nullify n) (tell made (state.ConstructNullify view LeaderTimeout now) doing)) {
      nullify = Some (n, None);
    })
    (nullify_at made view) doing

-- the pending proposal is done with, or stands so from now on
abbrev pub settle_proposal : Doing → Doing
settle_proposal doing = record doing { desk = record doing.desk { proposal = None } }

abbrev pub proposal_stands : Pending → ProposalState → Doing → Doing
proposal_stands p at doing =
    record doing { desk = record doing.desk { proposal = Some (record p { state = at; is_answered = false }) } }

-- the application's payload is recorded and relayed, where its view is still free for it
unfoldable pub propose : Made → Pending → List ℕ → Doing → Doing × Option ℕ
propose made p payload doing =
    let told = settle_proposal (tell made (state.Proposed p.context payload) doing) in
    if records_answer made doing.desk.known (pending_view p)
    then (make (calls.Relay payload (plans.Propose p.context.round)) told, Some (pending_view p))
    else (told, None)

-- a payload for the next term waits until its parent is certified
unfoldable pub stage : Made → Pending → List ℕ → Doing → Doing × Option ℕ
stage made p payload doing =
    if is_certified doing.desk.known (pending_parent p) then propose made p payload doing
    else (proposal_stands p (Held payload) (make (calls.Relay payload (plans.Prepare p.context.round)) doing), None)

-- no payload comes: the view of an ordinary request fails, that of a handoff once its parent is certified
unfoldable pub give_up : Made → ℕ → Pending → ProposalState → Doing → Doing × Option ℕ
give_up made now p Preparing doing = (proposal_stands p Closed doing, None)
give_up made now p _ doing =
    (settle_proposal (tell made (state.TriggerTimeout (pending_view p) MissingProposal now) doing), None)

-- the answer to the pending proposal request
unfoldable pub act_on_proposal : Made → ℕ → Pending → Answer → Doing → Doing × Option ℕ
act_on_proposal made now p (answers.Payload payload) doing = propose made p payload doing
act_on_proposal made now p (answers.Handoff handoffs.Wait) doing = (proposal_stands p Waiting doing, None)
act_on_proposal made now p (answers.Handoff (handoffs.Stage payload)) doing = stage made p payload doing
act_on_proposal made now p (answers.Handoff (handoffs.Vote payload)) doing = propose made p payload doing
act_on_proposal made now p (answers.Verdict good) doing = (doing, None)
act_on_proposal made now p answers.Closed doing = give_up made now p p.state doing

-- the application's judgement of the proposal that it was given to verify
unfoldable pub act_on_verify : Made → ℕ → Opened → Answer → Doing → Doing × Option ℕ
act_on_verify made now v (answers.Verdict true) doing =
    (tell made (state.Verified v.view) (record doing { desk = record doing.desk { verify = None } }), Some v.view)
act_on_verify made now v (answers.Verdict false) doing = (
  tell made (state.VerificationFailed v.view InvalidProposal now)
      (record doing { desk = record doing.desk { verify = None } }),
  Some v.view,
)
act_on_verify made now v _ doing = (
  tell made (state.VerificationFailed v.view IgnoredProposal now)
      (record doing { desk = record doing.desk { verify = None } }),
  Some v.view,
)

-- the request of this number is no longer open
abbrev pub settle_certify : ℕ → Doing → Doing
settle_certify number doing =
    record doing { desk = record doing.desk { certify = filter (λ c. not (c.number == number)) doing.desk.certify } }

-- a verdict that is taken is appended
abbrev pub take_verdict : Made → ℕ → Bool → Option Notarization → Doing → Doing × Option ℕ
take_verdict made view good None doing = (doing, None)
take_verdict made view good (Some n) doing =
    (record (append (artifacts.Certification n.proposal.round good) doing) { verdict = Some (n, good) }, Some view)

-- the application's verdict on a notarized proposal
unfoldable pub act_on_certify : Made → ℕ → Opened → Answer → Doing → Doing × Option ℕ
act_on_certify made now c (answers.Verdict good) doing =
    take_verdict made c.view good (certified_answer doing.desk.known c.view)
    (tell made (state.Certified c.view good now) (settle_certify c.number doing))
act_on_certify made now c _ doing = (settle_certify c.number doing, Some c.view)

-- the record of a certificate, whether it is added, the call that adds it, and whom it contradicts
abbrev pub record_of : Certificate → Artifact
record_of (certificates.Notarization n) = artifacts.Notarization n
record_of (certificates.Nullification n) = artifacts.Nullification n
record_of (certificates.Finalization f) = artifacts.Finalization f

abbrev pub adds : Made → List Fact → Certificate → Bool
adds made known (certificates.Notarization n) = adds_notarization made known n
adds made known (certificates.Nullification n) = adds_nullification made known n
adds made known (certificates.Finalization f) = adds_finalization made known f

abbrev pub adding : Certificate → ℕ → state.Call
adding (certificates.Notarization n) now = state.AddNotarization n now
adding (certificates.Nullification n) now = state.AddNullification n now
adding (certificates.Finalization f) now = state.AddFinalization f now

-- the leader whose proposal the certificate contradicts, if there is one, is blocked
abbrev pub block_for : Option ℕ → Doing → Doing
block_for None doing = doing
block_for (Some leader) doing = make (calls.Block leader LeaderConflict) doing

abbrev pub certificate_view : Certificate → ℕ
certificate_view certificate = (subject_round (certificate_subject certificate)).view

-- a certificate that is added is appended, its view's leader blocked where it contradicts it, and the resolver told
unfoldable pub act_on_certificate : Made → ℕ → Certificate → Doing → Doing × Option ℕ
act_on_certificate made now certificate doing =
    let known = doing.desk.known in
    let told = tell made (adding certificate now) doing in
    if not (admits_certificate made known (certificate_view certificate)) then (told, None)
    else if adds made known certificate
    then (
      hand (handed.Resolver (resolver.Updated certificate))
          (block_for (replay_answer made known (record_of certificate))
          (append (record_of certificate) (record told { added = doing.added ++ certificate ∷ [] }))),
      Some (certificate_view certificate),
    )
    else (told, Some (certificate_view certificate))

unfoldable pub act_on_mail : Made → ℕ → Message → Doing → Doing × Option ℕ
act_on_mail made now (mail.Proposal proposal) doing = (
  tell made (state.SetProposal (view_of proposal) proposal) doing,
  if records_proposal made doing.desk.known proposal then Some (view_of proposal) else None,
)
act_on_mail made now (mail.Timeout round reason) doing =
    (tell made (state.TriggerTimeout round.view reason now) doing, Some round.view)
act_on_mail made now (mail.Verified certificate) doing = act_on_certificate made now certificate doing

-- ---- the end of a step, on the view that it touched

-- a vote that the vote rule gives is appended
unfoldable pub vote_notarize : Made → ℕ → Doing → Doing
vote_notarize made view doing =
    option_map_or (λ n. append (artifacts.Notarize n) (tell made (state.ConstructNotarize view) doing))
    (notarize_at made doing.desk.known view) (tell made (state.ConstructNotarize view) doing)

unfoldable pub vote_finalize : Made → ℕ → Doing → Doing
vote_finalize made view doing =
    option_map_or (λ f. append (artifacts.Finalize f) (tell made (state.ConstructFinalize view) doing))
    (finalize_at made doing.desk.known view) (tell made (state.ConstructFinalize view) doing)

-- the open requests are brought up to date
unfoldable pub open_requests : Made → ℕ → Doing → Doing
open_requests made now doing = seek (record doing { desk = reconciled made now doing.desk })

-- the one section is synced where anything was appended
abbrev pub sync : ℕ → Doing → Doing
sync view doing = if doing.wrote then make (calls.Sync view) doing else doing

unfoldable pub publish_verdict : Doing → Doing
publish_verdict doing =
    option_map_or (λ v.
    let told = hand (handed.Resolver (resolver.Certified v.0 v.1)) doing in
    if v.1 then report (activities.Certification v.0) told else told)
    doing.verdict doing

abbrev pub with_certificate : Option Certificate → Doing → Doing
with_certificate None doing = doing
with_certificate (Some certificate) doing = send_certificate certificate doing

unfoldable pub publish_nullify : Doing → Doing
publish_nullify doing =
    option_map_or (λ n. with_certificate n.1 (send_vote (votes.Nullify n.0) doing))
    doing.nullify doing

unfoldable pub publish_notarization : Made → ℕ → Doing → Doing
publish_notarization made view doing =
    let told = tell made (state.BroadcastNotarization view) doing in
    option_map_or (λ n. report (activities.Notarization n) (send_certificate (certificates.Notarization n) told))
    (unsent_notarization doing.desk.known view) told

unfoldable pub publish_nullification : Made → ℕ → Doing → Doing
publish_nullification made view doing =
    let told = tell made (state.BroadcastNullification view) doing in
    option_map_or (λ n. report (activities.Nullification n) (send_certificate (certificates.Nullification n) told))
    (unsent_nullification doing.desk.known view) told

unfoldable pub publish_finalization : Made → ℕ → Doing → Doing
publish_finalization made view doing =
    let told = tell made (state.BroadcastFinalization view) doing in
    option_map_or (λ f. report (activities.Finalization f) (send_certificate (certificates.Finalization f) told))
    (unsent_finalization doing.desk.known view) told

-- the batcher is told where the member is now
abbrev pub update_message : Made → List Fact → Option Proposal → Handed
update_message made known forwardable =
    handed.Batcher
    (batcher.Update (current_of made known) (leader_of made (current_of made known)) (last_finalized known) forwardable)

unfoldable pub update_batcher : Made → ℕ → Doing → Doing
update_batcher made before doing =
    let known = doing.desk.known in
    if nat_lt before (current_of made known)
    then hand (update_message made known (forwardable_at known (current_of made known - 1))) doing
    else doing

-- what a step does at its end: it votes, opens requests, syncs, and then publishes the verdict, the nullify, the
-- notarize, the notarization, the nullification, the finalize and the finalization of the view that it touched
unfoldable pub end_of_step : Made → ℕ → ℕ → ℕ → Doing → Doing
end_of_step made now before view doing =
    let notarize = notarize_at made doing.desk.known view in
    let voted = vote_notarize made view doing in
    let finalize = finalize_at made voted.desk.known view in
    let opened = sync view (open_requests made now (vote_finalize made view voted)) in
    let nullified = publish_nullify (publish_verdict opened) in
    let notarized = publish_notarization made view
    (option_map_or (λ n. send_vote (votes.Notarize n) nullified) notarize nullified) in
    let given_up = publish_nullification made view notarized in
    let finalized =
    publish_finalization made view (option_map_or (λ f. send_vote (votes.Finalize f) given_up) finalize given_up) in
    update_batcher made before finalized

-- ---- the start of the next iteration

abbrev pub prune_at : Option ℕ → Doing → Doing
prune_at None doing = doing
prune_at (Some least) doing = make (calls.Prune least) doing

unfoldable pub prune : Made → Doing → Doing
prune made doing = prune_at (prune_answer made doing.desk.known) (tell made state.Prune doing)

unfoldable pub begin_iteration : Made → ℕ → Doing → Doing
begin_iteration made now doing = prune made (seek (record doing { desk = iterated made now doing.desk }))

-- after acting, where the step does not end there, its end on the view that it touched, and then the next iteration
abbrev pub ended : Made → ℕ → ℕ → Doing × Option ℕ → Doing
ended made now before (doing, None) = doing
ended made now before (doing, Some view) = end_of_step made now before view doing

unfoldable pub finished : Made → ℕ → ℕ → Doing × Option ℕ → Doing
finished made now before acted = begin_iteration made now (ended made now before acted)

-- ---- a step

-- the answer to the pending proposal request, or a held payload whose parent is certified
abbrev pub take_proposal : Made → ℕ → Standing → Pending → ProposalState → Option (Doing × Option ℕ)
take_proposal made now s p (Held payload) =
    if is_certified s.desk.known (pending_parent p) then Some (propose made p payload (begun s.desk)) else None
take_proposal made now s p at =
    if is_open at
    then option_map (λ answer. act_on_proposal made now p answer (begun s.desk)) (answer_to s.answers p.number)
    else None

-- the open Certify that was answered first, and its answer
abbrev pub with_answer : Answer → Opened → Opened × Answer
with_answer answer c = (c, answer)

unfoldable pub first_answered : List Opened → List (ℕ × Answer) → Option (Opened × Answer)
first_answered certify [] = None
first_answered certify (given ∷ rest) =
    option_map_or (λ c. Some (with_answer given.1 c)) (find (λ (c : Opened). c.number == given.0) certify)
    (first_answered certify rest)

-- what a step does with what its source holds; none where that is nothing
unfoldable pub acted : Made → ℕ → Standing → VoterInput → Option (Doing × Option ℕ)
acted made now s (inputs.Mail message) = Some (act_on_mail made now message (begun s.desk))
acted made now s inputs.Timer =
    if nat_le (deadline_of made s.desk.known).0 now
    then Some (act_on_deadline made now (begun s.desk), Some (current_of made s.desk.known)) else None
acted made now s inputs.Propose = option_and_then (λ p. take_proposal made now s p p.state) s.desk.proposal
acted made now s inputs.Verify =
    option_and_then (λ v. option_map (λ answer. act_on_verify made now v answer (begun s.desk))
    (answer_to s.answers v.number)) s.desk.verify
acted made now s inputs.Certify =
    option_map (λ (taken : Opened × Answer). act_on_certify made now taken.0 taken.1 (begun s.desk))
    (first_answered s.desk.certify s.answers)

-- all that a step does, before any stop
unfoldable pub stepped : Made → ℕ → Standing → VoterInput → Option Doing
stepped made now s input = option_map (finished made now (current_of made s.desk.known)) (acted made now s input)

-- whatever step a voter makes, this holds of what it was made with, its clock, what it was given, where it stood, and
-- what it does
abbrev pub OfStep : (Made → ℕ → VoterInput → Standing → Doing → Type 0) → Type 0
OfStep Says =
    (made : Made) (now : ℕ) (input : VoterInput) (standing : Standing) (doing : Doing)
    → stepped made now standing input ≡ Some doing → Says made now input standing doing

-- ---- a start

-- the activity that a record is reported as: a verdict only where it is true
abbrev pub activity_of : Artifact → Option Activity
activity_of (artifacts.Notarize v) = Some (activities.Notarize v)
activity_of (artifacts.Notarization n) = Some (activities.Notarization n)
activity_of (artifacts.Certification round good) = None
activity_of (artifacts.Nullify v) = Some (activities.Nullify v)
activity_of (artifacts.Nullification n) = Some (activities.Nullification n)
activity_of (artifacts.Finalize v) = Some (activities.Finalize v)
activity_of (artifacts.Finalization f) = Some (activities.Finalization f)

abbrev pub certificate_in : Artifact → Option Certificate
certificate_in (artifacts.Notarization n) = Some (certificates.Notarization n)
certificate_in (artifacts.Nullification n) = Some (certificates.Nullification n)
certificate_in (artifacts.Finalization f) = Some (certificates.Finalization f)
certificate_in _ = None

abbrev pub report_if : Option Activity → Doing → Doing
report_if None doing = doing
report_if (Some activity) doing = report activity doing

abbrev pub updated_if : Option Certificate → Doing → Doing
updated_if None doing = doing
updated_if (Some certificate) doing = hand (handed.Resolver (resolver.Updated certificate)) doing

-- a kept verdict that is taken goes to the resolver, and is reported where it is true
abbrev pub replay_verdict : Bool → Option Notarization → Doing → Doing
replay_verdict good None doing = doing
replay_verdict true (Some n) doing =
    hand (handed.Resolver (resolver.Certified n true)) (report (activities.Certification n) doing)
replay_verdict false (Some n) doing = hand (handed.Resolver (resolver.Certified n false)) doing

-- a kept record is known again, own votes as own; it is reported, and a certificate goes to the resolver
unfoldable pub replay_record : Made → ℕ → Doing → Artifact → Doing
replay_record made now doing (artifacts.Certification round good) =
    replay_verdict good (certified_answer doing.desk.known round.view)
    (tell made (state.Replay (artifacts.Certification round good) now) doing)
replay_record made now doing artifact =
    updated_if (certificate_in artifact)
    (report_if (activity_of artifact)
    (block_for (replay_answer made doing.desk.known artifact) (tell made (state.Replay artifact now) doing)))

abbrev pub floor_view : Floor → ℕ
floor_view (floors.Genesis payload) = 0
floor_view (floors.Finalized f) = view_of f.proposal

-- the records above the floor's view, in order
unfoldable pub replay_all : Made → ℕ → ℕ → Doing → List Artifact → Doing
replay_all made now floor doing [] = doing
replay_all made now floor doing (artifact ∷ rest) =
    replay_all made now floor
    (if nat_lt floor (artifact_round artifact).view then replay_record made now doing artifact else doing) rest

-- the floor is final: the resolver and the reporter are told
abbrev pub stand_on : Made → ℕ → Floor → Doing → Doing
stand_on made now (floors.Genesis payload) doing = tell made (state.SetFloor (floors.Genesis payload) now) doing
stand_on made now (floors.Finalized f) doing =
    report (activities.Finalization f)
    (hand (handed.Resolver (resolver.Updated (certificates.Finalization f)))
    (tell made (state.SetFloor (floors.Finalized f) now) doing))

-- whether a record is a finalization of the view or a later one
abbrev pub is_final_from : ℕ → Artifact → Bool
is_final_from view (artifacts.Finalization f) = nat_le view (view_of f.proposal)
is_final_from view _ = false

-- the floor is kept, where the journal has no finalization of its view or a later one
abbrev pub keep_floor : Floor → List Artifact → Doing → Doing
keep_floor (floors.Genesis payload) records doing = doing
keep_floor (floors.Finalized f) records doing =
    if list_any (is_final_from (view_of f.proposal)) records then doing
    else sync (view_of f.proposal) (append (artifacts.Finalization f) doing)

-- nothing is known and nothing is open
abbrev pub blank_desk : Desk
blank_desk = record {
  known = [];
  proposal = None;
  verify = None;
  certify = [];
  opened = 0;
  asked = [];
  dropped = [];
  sought = [];
}

-- all that a start does over the records that the journal holds, before any stop
unfoldable pub started : Made → ℕ → Floor → List Artifact → Doing
started made now floor records =
    let replayed = hand (handed.Resolver resolver.Replayed)
    (replay_all made now (floor_view floor) (stand_on made now floor (begun blank_desk)) records) in
    let kept = keep_floor floor records replayed in
    begin_iteration made now (hand (update_message made kept.desk.known None) kept)
