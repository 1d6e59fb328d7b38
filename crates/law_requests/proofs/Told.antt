-- What every call on the state keeps, a step, an answer and a start keep.
use Rattle.std.proofs.Common.{◌≡◌, ℕ, ◌-◌, ◌&&◌, ◌||◌, ◌++◌, not, Bool, true, false, nat_lt, nat_le, List, [], ◌∷◌, Option, Some, None, refl, subst, if◌then◌else◌}
use Rattle.std.specs.List.{list_any}
use Rattle.std.specs.Option.{is_none, option_map, option_map_or, option_and_then}
use Rattle.simplex_values.specs.declared.answer.Answer.{Answer}
use Rattle.simplex_values.specs.declared.answer.Answer.TheVariants as answers
use Rattle.simplex_values.specs.declared.answer.Handoff.TheVariants as handoffs
use Rattle.simplex_values.specs.declared.plan.Plan.TheVariants as plans
use Rattle.simplex_values.specs.declared.timeout.TimeoutReason.TheVariants.{LeaderTimeout, MissingProposal, IgnoredProposal, InvalidProposal}
use Rattle.simplex_wire.specs.declared.artifact.Artifact.{Artifact}
use Rattle.simplex_wire.specs.declared.artifact.Artifact.TheVariants as artifacts
use Rattle.simplex_wire.specs.declared.certificate.Certificate.{Certificate}
use Rattle.simplex_wire.specs.declared.certificate.Certificate.TheVariants as certificates
use Rattle.simplex_wire.specs.declared.certificate.Notarization.{Notarization}
use Rattle.simplex_wire.specs.declared.certificate.Nullification.{Nullification}
use Rattle.simplex_wire.specs.declared.certificate.Finalization.{Finalization}
use Rattle.simplex_wire.specs.declared.vote.Notarize.{Notarize}
use Rattle.simplex_wire.specs.declared.vote.Nullify.{Nullify}
use Rattle.simplex_wire.specs.declared.vote.Finalize.{Finalize}
use Rattle.simplex_wire.specs.declared.vote.Vote.TheVariants as votes
use Rattle.simplex_wire.specs.Fields.{artifact_round}
use Rattle.simplex_types.specs.declared.activity.Activity.{Activity}
use Rattle.simplex_types.specs.declared.activity.Activity.TheVariants as activities
use Rattle.simplex_types.specs.declared.floor.Floor.{Floor}
use Rattle.simplex_types.specs.declared.floor.Floor.TheVariants as floors
use Rattle.model_rules.specs.declared.request.ProposalState.{ProposalState}
use Rattle.model_rules.specs.declared.request.ProposalState.TheVariants.{Preparing, Proposing, Waiting, Held, Closed}
use Rattle.model_rules.specs.Known.{Made, Fact, view_of, has_nullified}
use Rattle.model_rules.specs.Views.{current_of, admits_certificate}
use Rattle.model_rules.specs.Slot.{records_answer}
use Rattle.model_rules.specs.Ancestry.{is_certified}
use Rattle.model_rules.specs.Deadline.{deadline_of}
use Rattle.model_rules.specs.Best.{best_certificate, forwardable_at}
use Rattle.model_rules.specs.Votes.{notarize_at, nullify_at, finalize_at}
use Rattle.model_rules.specs.Calls as state
use Rattle.model_rules.specs.Calls.{facts_of, replay_answer, certified_answer, unsent_notarization, unsent_nullification, unsent_finalization, prune_answer}
use Rattle.simplex_messages.specs.declared.call.Call.TheVariants as calls
use Rattle.simplex_messages.specs.declared.handed.Handed.TheVariants as handed
use Rattle.simplex_messages.specs.declared.resolver.MailboxMessage.TheVariants as resolver
use Rattle.simplex_messages.specs.declared.voter.Message.{Message}
use Rattle.simplex_messages.specs.declared.voter.Message.TheVariants as mail
use Rattle.simplex_messages.specs.declared.voter.VoterInput.{VoterInput}
use Rattle.simplex_messages.specs.declared.voter.VoterInput.TheVariants as inputs
use Rattle.model_steps.specs.Desk.{Doing, begun, tell, make, hand, append, seek, send_vote, send_certificate, report}
use Rattle.model_steps.specs.Voter.{Standing, answer_to, takes_answer, answered, marked_answered, settle_proposal, proposal_stands, propose, stage, give_up, act_on_deadline, act_on_proposal, act_on_verify, settle_certify, take_verdict, act_on_certify, record_of, adds, adding, block_for, certificate_view, act_on_certificate, act_on_mail, vote_notarize, vote_finalize, open_requests, sync, publish_verdict, publish_nullify, publish_notarization, publish_nullification, publish_finalization, update_message, update_batcher, with_certificate, end_of_step, prune_at, prune, begin_iteration, finished, take_proposal, first_answered, acted, stepped, activity_of, certificate_in, report_if, updated_if, replay_verdict, replay_record, replay_all, floor_view, stand_on, is_final_from, keep_floor, blank_desk, started}
use Rattle.law_run.proofs.Telling.{some_is, gives}
use Rattle.model_steps.specs.VoterLife.{rest}
use Rattle.std.proofs.Common.{fold}
use Rattle.simplex_values.specs.declared.proposal.Proposal.{Proposal}
use Rattle.model_rules.specs.declared.request.ProposalRequest.{ProposalRequest}
use Rattle.model_rules.specs.declared.request.ProposalRequest.TheVariants.{Prepare, Propose}
use Rattle.model_rules.specs.declared.request.Verify.{Verify}
use Rattle.model_rules.specs.declared.request.Verify.TheVariants.{Ready, Resolve, Wait}
use Rattle.model_rules.specs.declared.request.CertificateFetch.{CertificateFetch}
use Rattle.model_rules.specs.Requests.{proposal_request, verify_request, certify_requests, parent_fetches, is_superseded, is_abandoned}
use Rattle.model_rules.specs.Pending.{Desk, Pending, Opened, told, is_open, is_preparing, is_waiting, is_closed, pending_view, pending_parent, drop_request, drop_number, drop_proposal, drop_verify, abandon_handoff, end_waiting, with_request, open_proposal, with_verify, open_verify, reconciled, drop_certify, open_certify, seek_parent, certifying, iterated}

-- a call that prunes nothing
abbrev pub IsNoPrune : state.Call → Type 0
IsNoPrune state.Prune = ⊥
IsNoPrune _ = Unit {0}

-- What every call on the state keeps that prunes nothing, a step keeps up to its prune, and a start has it there.
module _ (made : Made) (K : List Fact → Type 0) (keeps : (call : state.Call) (known : List Fact) → IsNoPrune call → K known → K (facts_of made known call ++ known)) where
  -- a prune keeps it too
  abbrev Prunes : Type 0
  Prunes = (known : List Fact) → K known → K (facts_of made known state.Prune ++ known)

  -- ---- one pass

  kept_drop_proposal : (desk : Desk) → K desk.known → K (drop_proposal made desk).known
  unfolding drop_proposal
  kept_drop_proposal desk n = at desk.proposal
    where
      dropped : (p : Pending) (b : Bool) → K (record (if b then drop_number desk p.number else desk) { proposal = None }).known
      dropped p true = n
      dropped p false = n

      one : (p : Pending) (b : Bool) → K (if b then record (drop_request desk p) { proposal = None } else desk).known
      one p true = dropped p (is_open p.state)
      one p false = n

      at : (o : Option Pending) → K (option_map_or (λ p.
          if nat_lt (pending_view p) (current_of made desk.known) || is_superseded made desk.known (pending_parent p) (pending_view p)
          then record (drop_request desk p) { proposal = None } else desk) o desk).known
      at None = n
      at (Some p) = one p _

  kept_drop_verify : (desk : Desk) → K desk.known → K (drop_verify made desk).known
  unfolding drop_verify
  kept_drop_verify desk n = at desk.verify
    where
      one : (v : Opened) (b : Bool) → K (if b then record (drop_number desk v.number) { verify = None } else desk).known
      one v true = n
      one v false = n

      at : (o : Option Opened) → K (option_map_or (λ v.
          if nat_lt v.view (current_of made desk.known) then record (drop_number desk v.number) { verify = None } else desk) o desk).known
      at None = n
      at (Some v) = one v _

  kept_abandon : (desk : Desk) → K desk.known → K (abandon_handoff desk).known
  unfolding abandon_handoff
  kept_abandon desk n = at desk.proposal
    where
      one : (p : Pending) (b : Bool) → K (if b then record (drop_number desk p.number) { proposal = Some (record p { state = Waiting }) } else desk).known
      one p true = n
      one p false = n

      at : (o : Option Pending) → K (option_map_or (λ p.
          if is_preparing p.state && not p.is_answered && is_abandoned desk.known (pending_parent p) (pending_view p)
          then record (drop_number desk p.number) { proposal = Some (record p { state = Waiting }) } else desk) o desk).known
      at None = n
      at (Some p) = one p _

  kept_end_waiting : (now : ℕ) (desk : Desk) → K desk.known → K (end_waiting made now desk).known
  unfolding end_waiting
  kept_end_waiting now desk n = at desk.proposal
    where
      one : (p : Pending) (a b c : Bool) → K (if a then desk
          else if b then record (told made (state.ReleaseProposalRequest (pending_view p)) desk) { proposal = None }
          else if c then record (told made (state.TriggerTimeout (pending_view p) MissingProposal now) desk) { proposal = None }
          else desk).known
      one p true b c = n
      one p false true c = keeps (state.ReleaseProposalRequest (pending_view p)) desk.known tt n
      one p false false true = keeps (state.TriggerTimeout (pending_view p) MissingProposal now) desk.known tt n
      one p false false false = n

      at : (o : Option Pending) → K (option_map_or (λ p.
          if not (is_certified desk.known (pending_parent p)) then desk
          else if is_waiting p.state then record (told made (state.ReleaseProposalRequest (pending_view p)) desk) { proposal = None }
          else if is_closed p.state
          then record (told made (state.TriggerTimeout (pending_view p) MissingProposal now) desk) { proposal = None }
          else desk) o desk).known
      at None = n
      at (Some p) = one p _ _ _

  kept_with_request : (o : Option ProposalRequest) (desk : Desk) → K desk.known → K (with_request o desk).known
  kept_with_request None desk n = n
  kept_with_request (Some (Prepare context)) desk n = n
  kept_with_request (Some (Propose context)) desk n = n

  kept_open_proposal : (desk : Desk) → K desk.known → K (open_proposal made desk).known
  unfolding open_proposal
  kept_open_proposal desk n = at (is_none desk.proposal)
    where
      at : (b : Bool) → K (if b then with_request (proposal_request made desk.known) (told made state.TryPropose desk) else desk).known
      at true = kept_with_request (proposal_request made desk.known) (told made state.TryPropose desk) (keeps state.TryPropose desk.known tt n)
      at false = n

  kept_with_verify : (v : Verify) (desk : Desk) → K desk.known → K (with_verify v desk).known
  kept_with_verify (Ready context p) desk n = n
  kept_with_verify (Resolve proposal view kind target) desk n = n
  kept_with_verify Wait desk n = n

  kept_open_verify : (desk : Desk) → K desk.known → K (open_verify made desk).known
  unfolding open_verify
  kept_open_verify desk n = at (is_none desk.verify)
    where
      at : (b : Bool) → K (if b then with_verify (verify_request made desk.known) (told made state.TryVerify desk) else desk).known
      at true = kept_with_verify (verify_request made desk.known) (told made state.TryVerify desk) (keeps state.TryVerify desk.known tt n)
      at false = n

  kept_reconciled : (now : ℕ) (desk : Desk) → K desk.known → K (reconciled made now desk).known
  unfolding reconciled
  kept_reconciled now desk n =
      let a = drop_proposal made desk in
      let b = drop_verify made a in
      let c = abandon_handoff b in
      let d = end_waiting made now c in
      kept_open_verify (open_proposal made d) (kept_open_proposal d (kept_end_waiting now c (kept_abandon b (kept_drop_verify a (kept_drop_proposal desk n)))))

  kept_opened : (xs : List Proposal) (desk : Desk) → K desk.known → K (fold open_certify desk xs).known
  kept_opened [] desk n = n
  kept_opened (x ∷ xs) desk n = kept_opened xs (open_certify desk x) n

  kept_sought : (xs : List CertificateFetch) (desk : Desk) → K desk.known → K (fold seek_parent desk xs).known
  kept_sought [] desk n = n
  kept_sought (x ∷ xs) desk n = kept_sought xs (seek_parent desk x) n

  pub kept_iterated : (now : ℕ) (desk : Desk) → K desk.known → K (iterated made now desk).known
  unfolding iterated certifying drop_certify
  kept_iterated now desk n =
      let ready = reconciled made now desk in
      let asked = told made state.CertifyCandidates (drop_certify ready) in
      kept_sought (parent_fetches ready.known) (fold open_certify asked (certify_requests ready.known))
      (kept_opened (certify_requests ready.known) asked (keeps state.CertifyCandidates ready.known tt (kept_reconciled now desk n)))

  -- ---- what a step does

  abbrev IsKnown : Doing → Type 0
  IsKnown d = K d.desk.known

  kept_tell : (call : state.Call) (d : Doing) → IsNoPrune call → IsKnown d → IsKnown (tell made call d)
  kept_tell call d quiet a = keeps call d.desk.known quiet a

  -- ---- the end of a step

  kept_notarize : (view : ℕ) (d : Doing) → IsKnown d → IsKnown (vote_notarize made view d)
  unfolding vote_notarize
  kept_notarize view d a = at (notarize_at made d.desk.known view)
    where
      at : (o : Option Notarize) → IsKnown (option_map_or (λ n. append (artifacts.Notarize n) (tell made (state.ConstructNotarize view) d)) o (tell made (state.ConstructNotarize view) d))
      at None = kept_tell (state.ConstructNotarize view) d tt a
      at (Some v) = kept_tell (state.ConstructNotarize view) d tt a

  kept_finalize : (view : ℕ) (d : Doing) → IsKnown d → IsKnown (vote_finalize made view d)
  unfolding vote_finalize
  kept_finalize view d a = at (finalize_at made d.desk.known view)
    where
      at : (o : Option Finalize) → IsKnown (option_map_or (λ n. append (artifacts.Finalize n) (tell made (state.ConstructFinalize view) d)) o (tell made (state.ConstructFinalize view) d))
      at None = kept_tell (state.ConstructFinalize view) d tt a
      at (Some v) = kept_tell (state.ConstructFinalize view) d tt a

  kept_brought : (now : ℕ) (d : Doing) → IsKnown d → IsKnown (open_requests made now d)
  unfolding open_requests
  kept_brought now d a = kept_reconciled now d.desk a

  kept_sync : (view : ℕ) (d : Doing) → IsKnown d → IsKnown (sync view d)
  kept_sync view d a = at d.wrote
    where
      at : (b : Bool) → IsKnown (if b then make (calls.Sync view) d else d)
      at true = a
      at false = a

  kept_verdict : (d : Doing) → IsKnown d → IsKnown (publish_verdict d)
  unfolding publish_verdict
  kept_verdict d a = at d.verdict
    where
      one : (n : Notarization) (good b : Bool) → (let told = hand (handed.Resolver (resolver.Certified n good)) d in IsKnown (if b then report (activities.Certification n) told else told))
      one n good true = a
      one n good false = a

      at : (o : Option (Notarization × Bool)) → IsKnown (option_map_or (λ v.
          let told = hand (handed.Resolver (resolver.Certified v.0 v.1)) d in
          if v.1 then report (activities.Certification v.0) told else told) o d)
      at None = a
      at (Some v) = one v.0 v.1 v.1

  kept_option : (o : Option Certificate) (d : Doing) → IsKnown d → IsKnown (with_certificate o d)
  kept_option None d a = a
  kept_option (Some c) d a = a

  kept_nullify : (d : Doing) → IsKnown d → IsKnown (publish_nullify d)
  unfolding publish_nullify
  kept_nullify d a = at d.nullify
    where
      at : (o : Option (Nullify × Option Certificate)) → IsKnown (option_map_or (λ n. with_certificate n.1 (send_vote (votes.Nullify n.0) d)) o d)
      at None = a
      at (Some x) = kept_option x.1 (send_vote (votes.Nullify x.0) d) a

  kept_option_notarize : (o : Option Notarize) (d : Doing) → IsKnown d → IsKnown (option_map_or (λ n. send_vote (votes.Notarize n) d) o d)
  kept_option_notarize None d a = a
  kept_option_notarize (Some v) d a = a

  kept_option_finalize : (o : Option Finalize) (d : Doing) → IsKnown d → IsKnown (option_map_or (λ n. send_vote (votes.Finalize n) d) o d)
  kept_option_finalize None d a = a
  kept_option_finalize (Some v) d a = a

  kept_notarization : (view : ℕ) (d : Doing) → IsKnown d → IsKnown (publish_notarization made view d)
  unfolding publish_notarization
  kept_notarization view d a = at (unsent_notarization d.desk.known view)
    where
      at : (o : Option Notarization) → IsKnown (option_map_or (λ n. report (activities.Notarization n) (send_certificate (certificates.Notarization n) (tell made (state.BroadcastNotarization view) d))) o (tell made (state.BroadcastNotarization view) d))
      at None = kept_tell (state.BroadcastNotarization view) d tt a
      at (Some n) = kept_tell (state.BroadcastNotarization view) d tt a

  kept_nullification : (view : ℕ) (d : Doing) → IsKnown d → IsKnown (publish_nullification made view d)
  unfolding publish_nullification
  kept_nullification view d a = at (unsent_nullification d.desk.known view)
    where
      at : (o : Option Nullification) → IsKnown (option_map_or (λ n. report (activities.Nullification n) (send_certificate (certificates.Nullification n) (tell made (state.BroadcastNullification view) d))) o (tell made (state.BroadcastNullification view) d))
      at None = kept_tell (state.BroadcastNullification view) d tt a
      at (Some n) = kept_tell (state.BroadcastNullification view) d tt a

  kept_finalization : (view : ℕ) (d : Doing) → IsKnown d → IsKnown (publish_finalization made view d)
  unfolding publish_finalization
  kept_finalization view d a = at (unsent_finalization d.desk.known view)
    where
      at : (o : Option Finalization) → IsKnown (option_map_or (λ n. report (activities.Finalization n) (send_certificate (certificates.Finalization n) (tell made (state.BroadcastFinalization view) d))) o (tell made (state.BroadcastFinalization view) d))
      at None = kept_tell (state.BroadcastFinalization view) d tt a
      at (Some n) = kept_tell (state.BroadcastFinalization view) d tt a

  kept_update : (before : ℕ) (d : Doing) → IsKnown d → IsKnown (update_batcher made before d)
  unfolding update_batcher
  kept_update before d a = at (nat_lt before (current_of made d.desk.known))
    where
      at : (b : Bool) → IsKnown (if b then hand (update_message made d.desk.known (forwardable_at d.desk.known (current_of made d.desk.known - 1))) d else d)
      at true = a
      at false = a

  pub kept_end : (now before view : ℕ) (d : Doing) → IsKnown d → IsKnown (end_of_step made now before view d)
  unfolding end_of_step
  kept_end now before view d a =
      let notarize = notarize_at made d.desk.known view in
      let voted = vote_notarize made view d in
      let finalize = finalize_at made voted.desk.known view in
      let finalized = vote_finalize made view voted in
      let opened = sync view (open_requests made now finalized) in
      let first = publish_nullify (publish_verdict opened) in
      let second = option_map_or (λ n. send_vote (votes.Notarize n) first) notarize first in
      let third = publish_notarization made view second in
      let fourth = publish_nullification made view third in
      let fifth = option_map_or (λ f. send_vote (votes.Finalize f) fourth) finalize fourth in
      let sixth = publish_finalization made view fifth in
      kept_update before sixth
      (kept_finalization view fifth
      (kept_option_finalize finalize fourth
      (kept_nullification view third
      (kept_notarization view second
      (kept_option_notarize notarize first
      (kept_nullify (publish_verdict opened)
      (kept_verdict opened
      (kept_sync view (open_requests made now finalized)
      (kept_brought now finalized (kept_finalize view voted (kept_notarize view d a)))))))))))

  kept_iteration : Prunes → (now : ℕ) (d : Doing) → IsKnown d → IsKnown (begin_iteration made now d)
  unfolding begin_iteration prune
  kept_iteration prunes now d a =
      let begun = seek (record d { desk = iterated made now d.desk }) in
      at begun (kept_iterated now d.desk a) (prune_answer made begun.desk.known)
    where
      at : (b : Doing) → IsKnown b → (o : Option ℕ) → IsKnown (prune_at o (tell made state.Prune b))
      at b n None = prunes b.desk.known n
      at b n (Some least) = prunes b.desk.known n

  -- ---- acting

  kept_settled : (d : Doing) → IsKnown d → IsKnown (settle_proposal d)
  kept_settled d a = a

  kept_propose : (p : Pending) (payload : List ℕ) (d : Doing) → IsKnown d → IsKnown (propose made p payload d).0
  unfolding propose
  kept_propose p payload d a = at (records_answer made d.desk.known (pending_view p))
    where
      told_so : IsKnown (settle_proposal (tell made (state.Proposed p.context payload) d))
      told_so = kept_settled (tell made (state.Proposed p.context payload) d) (kept_tell (state.Proposed p.context payload) d tt a)

      pair : Bool → Doing × Option ℕ
      pair t =
          let told = settle_proposal (tell made (state.Proposed p.context payload) d) in
          if t then (make (calls.Relay payload (plans.Propose p.context.round)) told, Some (pending_view p)) else (told, None)

      at : (t : Bool) → IsKnown (pair t).0
      at true = told_so
      at false = told_so

  kept_stage : (p : Pending) (payload : List ℕ) (d : Doing) → IsKnown d → IsKnown (stage made p payload d).0
  unfolding stage
  kept_stage p payload d a = at (is_certified d.desk.known (pending_parent p))
    where
      pair : Bool → Doing × Option ℕ
      pair t = if t then propose made p payload d else (proposal_stands p (Held payload) (make (calls.Relay payload (plans.Prepare p.context.round)) d), None)

      at : (t : Bool) → IsKnown (pair t).0
      at true = kept_propose p payload d a
      at false = a

  kept_given_up : (now : ℕ) (p : Pending) (s : ProposalState) (d : Doing) → IsKnown d → IsKnown (give_up made now p s d).0
  unfolding give_up
  kept_given_up now p Preparing d a = a
  kept_given_up now p _ d a =
      kept_settled (tell made (state.TriggerTimeout (pending_view p) MissingProposal now) d) (kept_tell (state.TriggerTimeout (pending_view p) MissingProposal now) d tt a)

  kept_acted : (now : ℕ) (p : Pending) (answer : Answer) (d : Doing) → IsKnown d → IsKnown (act_on_proposal made now p answer d).0
  unfolding act_on_proposal
  kept_acted now p (answers.Payload payload) d a = kept_propose p payload d a
  kept_acted now p (answers.Handoff handoffs.Wait) d a = a
  kept_acted now p (answers.Handoff (handoffs.Stage payload)) d a = kept_stage p payload d a
  kept_acted now p (answers.Handoff (handoffs.Vote payload)) d a = kept_propose p payload d a
  kept_acted now p (answers.Verdict good) d a = a
  kept_acted now p answers.Closed d a = kept_given_up now p p.state d a

  kept_on_verify : (now : ℕ) (v : Opened) (answer : Answer) (d : Doing) → IsKnown d → IsKnown (act_on_verify made now v answer d).0
  unfolding act_on_verify
  kept_on_verify now v (answers.Verdict true) d a = kept_tell (state.Verified v.view) (record d { desk = record d.desk { verify = None } }) tt a
  kept_on_verify now v (answers.Verdict false) d a =
      kept_tell (state.VerificationFailed v.view InvalidProposal now) (record d { desk = record d.desk { verify = None } }) tt a
  kept_on_verify now v _ d a =
      kept_tell (state.VerificationFailed v.view IgnoredProposal now) (record d { desk = record d.desk { verify = None } }) tt a

  kept_fewer : (number : ℕ) (d : Doing) → IsKnown d → IsKnown (settle_certify number d)
  kept_fewer number d a = a

  kept_taken_verdict : (view : ℕ) (good : Bool) (o : Option Notarization) (d : Doing) → IsKnown d → IsKnown (take_verdict made view good o d).0
  kept_taken_verdict view good None d a = a
  kept_taken_verdict view good (Some n) d a = a

  kept_on_certify : (now : ℕ) (c : Opened) (answer : Answer) (d : Doing) → IsKnown d → IsKnown (act_on_certify made now c answer d).0
  unfolding act_on_certify
  kept_on_certify now c (answers.Verdict good) d a =
      kept_taken_verdict c.view good (certified_answer d.desk.known c.view) (tell made (state.Certified c.view good now) (settle_certify c.number d))
      (kept_tell (state.Certified c.view good now) (settle_certify c.number d) tt (kept_fewer c.number d a))
  kept_on_certify now c _ d a = kept_fewer c.number d a

  kept_blocked : (o : Option ℕ) (d : Doing) → IsKnown d → IsKnown (block_for o d)
  kept_blocked None d a = a
  kept_blocked (Some leader) d a = a

  adding_no_prune : (c : Certificate) (now : ℕ) → IsNoPrune (adding c now)
  adding_no_prune (certificates.Notarization n) now = tt
  adding_no_prune (certificates.Nullification n) now = tt
  adding_no_prune (certificates.Finalization f) now = tt

  kept_certificate : (now : ℕ) (c : Certificate) (d : Doing) → IsKnown d → IsKnown (act_on_certificate made now c d).0
  unfolding act_on_certificate
  kept_certificate now c d a = at (not (admits_certificate made d.desk.known (certificate_view c))) (adds made d.desk.known c)
    where
      told_so : IsKnown (tell made (adding c now) d)
      told_so = kept_tell (adding c now) d (adding_no_prune c now) a

      pair : Bool → Bool → Doing × Option ℕ
      pair past new =
          let known = d.desk.known in
          let told = tell made (adding c now) d in
          if past then (told, None)
          else if new
          then (
            hand (handed.Resolver (resolver.Updated c))
                (block_for (replay_answer made known (record_of c))
                (append (record_of c) (record told { added = d.added ++ c ∷ [] }))),
            Some (certificate_view c),
          )
          else (told, Some (certificate_view c))

      at : (past new : Bool) → IsKnown (pair past new).0
      at true new = told_so
      at false false = told_so
      at false true = kept_blocked (replay_answer made d.desk.known (record_of c)) (append (record_of c) (record (tell made (adding c now) d) { added = d.added ++ c ∷ [] })) told_so

  kept_mail : (now : ℕ) (message : Message) (d : Doing) → IsKnown d → IsKnown (act_on_mail made now message d).0
  unfolding act_on_mail
  kept_mail now (mail.Proposal proposal) d a = kept_tell (state.SetProposal (view_of proposal) proposal) d tt a
  kept_mail now (mail.Timeout round reason) d a = kept_tell (state.TriggerTimeout round.view reason now) d tt a
  kept_mail now (mail.Verified c) d a = kept_certificate now c d a

  kept_deadline : (now : ℕ) (d : Doing) → IsKnown d → IsKnown (act_on_deadline made now d)
  unfolding act_on_deadline
  kept_deadline now d a = at (nullify_at made (current_of made d.desk.known))
    where
      told_so : IsKnown (tell made (state.ConstructNullify (current_of made d.desk.known) LeaderTimeout now) d)
      told_so = kept_tell (state.ConstructNullify (current_of made d.desk.known) LeaderTimeout now) d tt a

      one : (n : Nullify) (t : Bool)
          → IsKnown (if t
          then record (tell made (state.ConstructNullify (current_of made d.desk.known) LeaderTimeout now) d) { nullify = Some (n, best_certificate made d.desk.known) }
          else record (append (artifacts.Nullify n) (tell made (state.ConstructNullify (current_of made d.desk.known) LeaderTimeout now) d)) { nullify = Some (n, None) })
      one n true = told_so
      one n false = told_so

      at : (o : Option Nullify) → IsKnown (option_map_or (λ n.
          if has_nullified d.desk.known (current_of made d.desk.known)
          then record (tell made (state.ConstructNullify (current_of made d.desk.known) LeaderTimeout now) d) { nullify = Some (n, best_certificate made d.desk.known) }
          else record (append (artifacts.Nullify n) (tell made (state.ConstructNullify (current_of made d.desk.known) LeaderTimeout now) d)) { nullify = Some (n, None) })
          o d)
      at None = a
      at (Some n) = one n (has_nullified d.desk.known (current_of made d.desk.known))

  -- ---- a start

  kept_reported : (o : Option Activity) (d : Doing) → IsKnown d → IsKnown (report_if o d)
  kept_reported None d a = a
  kept_reported (Some r) d a = a

  kept_updated : (o : Option Certificate) (d : Doing) → IsKnown d → IsKnown (updated_if o d)
  kept_updated None d a = a
  kept_updated (Some c) d a = a

  kept_kept_verdict : (good : Bool) (o : Option Notarization) (d : Doing) → IsKnown d → IsKnown (replay_verdict good o d)
  kept_kept_verdict good None d a = a
  kept_kept_verdict true (Some n) d a = a
  kept_kept_verdict false (Some n) d a = a

  kept_plain_record : (now : ℕ) (d : Doing) (r : Artifact) → IsKnown d
      → IsKnown (updated_if (certificate_in r) (report_if (activity_of r) (block_for (replay_answer made d.desk.known r) (tell made (state.Replay r now) d))))
  kept_plain_record now d r a =
      let told = tell made (state.Replay r now) d in
      let blocked = block_for (replay_answer made d.desk.known r) told in
      kept_updated (certificate_in r) (report_if (activity_of r) blocked)
      (kept_reported (activity_of r) blocked (kept_blocked (replay_answer made d.desk.known r) told (kept_tell (state.Replay r now) d tt a)))

  kept_replay : (now : ℕ) (d : Doing) (r : Artifact) → IsKnown d → IsKnown (replay_record made now d r)
  unfolding replay_record
  kept_replay now d (artifacts.Certification r good) a =
      kept_kept_verdict good (certified_answer d.desk.known r.view) (tell made (state.Replay (artifacts.Certification r good) now) d) (kept_tell (state.Replay (artifacts.Certification r good) now) d tt a)
  kept_replay now d (artifacts.Notarize v) a = kept_plain_record now d (artifacts.Notarize v) a
  kept_replay now d (artifacts.Nullify v) a = kept_plain_record now d (artifacts.Nullify v) a
  kept_replay now d (artifacts.Finalize v) a = kept_plain_record now d (artifacts.Finalize v) a
  kept_replay now d (artifacts.Notarization v) a = kept_plain_record now d (artifacts.Notarization v) a
  kept_replay now d (artifacts.Nullification v) a = kept_plain_record now d (artifacts.Nullification v) a
  kept_replay now d (artifacts.Finalization v) a = kept_plain_record now d (artifacts.Finalization v) a

  kept_records : (now floor : ℕ) (d : Doing) (rs : List Artifact) → IsKnown d → IsKnown (replay_all made now floor d rs)
  unfolding replay_all
  kept_records now floor d [] a = a
  kept_records now floor d (r ∷ rest) a =
      kept_records now floor (if nat_lt floor (artifact_round r).view then replay_record made now d r else d) rest (at (nat_lt floor (artifact_round r).view))
    where
      at : (b : Bool) → IsKnown (if b then replay_record made now d r else d)
      at true = kept_replay now d r a
      at false = a

  kept_kept_floor : (floor : Floor) (records : List Artifact) (d : Doing) → IsKnown d → IsKnown (keep_floor floor records d)
  kept_kept_floor (floors.Genesis payload) records d a = a
  kept_kept_floor (floors.Finalized f) records d a = at (list_any (is_final_from (view_of f.proposal)) records)
    where
      at : (b : Bool) → IsKnown (if b then d else make (calls.Sync (view_of f.proposal)) (append (artifacts.Finalization f) d))
      at true = a
      at false = a

  kept_finished : Prunes → (now before : ℕ) (outcome : Doing × Option ℕ) → IsKnown outcome.0 → IsKnown (finished made now before outcome)
  unfolding finished
  kept_finished prunes now before (d, None) a = kept_iteration prunes now d a
  kept_finished prunes now before (d, Some view) a = kept_iteration prunes now (end_of_step made now before view d) (kept_end now before view d a)

  -- ---- a step

  kept_taken : (now : ℕ) (s : Standing) (p : Pending) (at : ProposalState) (outcome : Doing × Option ℕ) → K s.desk.known → take_proposal made now s p at ≡ Some outcome → IsKnown outcome.0
  kept_taken now s p (Held payload) outcome h e = held (is_certified s.desk.known (pending_parent p)) e
    where
      held : (t : Bool) → (if t then Some (propose made p payload (begun s.desk)) else None) ≡ Some outcome → IsKnown outcome.0
      held true k = subst (λ (o : Doing × Option ℕ). IsKnown o.0) (some_is _ outcome k) (kept_propose p payload (begun s.desk) h)
      held false k = cc
  kept_taken now s p Preparing outcome h e =
      gives (λ (o : Doing × Option ℕ). IsKnown o.0) (λ answer. act_on_proposal made now p answer (begun s.desk)) (answer_to s.answers p.number) outcome (λ answer. kept_acted now p answer (begun s.desk) h) e
  kept_taken now s p Proposing outcome h e =
      gives (λ (o : Doing × Option ℕ). IsKnown o.0) (λ answer. act_on_proposal made now p answer (begun s.desk)) (answer_to s.answers p.number) outcome (λ answer. kept_acted now p answer (begun s.desk) h) e
  kept_taken now s p Waiting outcome h e = cc
  kept_taken now s p Closed outcome h e = cc

  kept_pending : (now : ℕ) (s : Standing) (outcome : Doing × Option ℕ) (o : Option Pending) → K s.desk.known → option_and_then (λ (p : Pending). take_proposal made now s p p.state) o ≡ Some outcome → IsKnown outcome.0
  kept_pending now s outcome None h e = cc
  kept_pending now s outcome (Some p) h e = kept_taken now s p p.state outcome h e

  kept_verified : (now : ℕ) (s : Standing) (outcome : Doing × Option ℕ) (o : Option Opened) → K s.desk.known
      → option_and_then (λ (v : Opened). option_map (λ answer. act_on_verify made now v answer (begun s.desk)) (answer_to s.answers v.number)) o ≡ Some outcome → IsKnown outcome.0
  kept_verified now s outcome None h e = cc
  kept_verified now s outcome (Some v) h e =
      gives (λ (o : Doing × Option ℕ). IsKnown o.0) (λ answer. act_on_verify made now v answer (begun s.desk)) (answer_to s.answers v.number) outcome (λ answer. kept_on_verify now v answer (begun s.desk) h) e

  pub kept_input : (now : ℕ) (s : Standing) (input : VoterInput) (outcome : Doing × Option ℕ) → K s.desk.known → acted made now s input ≡ Some outcome → IsKnown outcome.0
  unfolding acted
  kept_input now s (inputs.Mail message) outcome h e = subst (λ (o : Doing × Option ℕ). IsKnown o.0) (some_is _ outcome e) (kept_mail now message (begun s.desk) h)
  kept_input now s inputs.Timer outcome h e = due (nat_le (deadline_of made s.desk.known).0 now) e
    where
      due : (t : Bool) → (if t then Some (act_on_deadline made now (begun s.desk), Some (current_of made s.desk.known)) else None) ≡ Some outcome → IsKnown outcome.0
      due true k = subst (λ (o : Doing × Option ℕ). IsKnown o.0) (some_is _ outcome k) (kept_deadline now (begun s.desk) h)
      due false k = cc
  kept_input now s inputs.Propose outcome h e = kept_pending now s outcome s.desk.proposal h e
  kept_input now s inputs.Verify outcome h e = kept_verified now s outcome s.desk.verify h e
  kept_input now s inputs.Certify outcome h e =
      gives (λ (o : Doing × Option ℕ). IsKnown o.0) (λ (taken : Opened × Answer). act_on_certify made now taken.0 taken.1 (begun s.desk)) (first_answered s.desk.certify s.answers) outcome
      (λ taken. kept_on_certify now taken.0 taken.1 (begun s.desk) h) e

  pub step_keeps : Prunes → (now : ℕ) (s : Standing) (input : VoterInput) (d : Doing) → K s.desk.known → stepped made now s input ≡ Some d → K d.desk.known
  unfolding stepped
  step_keeps prunes now s input d h e = at (acted made now s input) refl e
    where
      at : (o : Option (Doing × Option ℕ)) → acted made now s input ≡ o → option_map (finished made now (current_of made s.desk.known)) o ≡ Some d → K d.desk.known
      at None f k = cc
      at (Some outcome) f k = subst IsKnown (some_is _ d k) (kept_finished prunes now (current_of made s.desk.known) outcome (kept_input now s input outcome h f))

  kept_stand : (now : ℕ) (floor : Floor) → K [] → IsKnown (stand_on made now floor (begun blank_desk))
  kept_stand now (floors.Genesis payload) n = keeps (state.SetFloor (floors.Genesis payload) now) [] tt n
  kept_stand now (floors.Finalized f) n = keeps (state.SetFloor (floors.Finalized f) now) [] tt n

  -- before the first iteration of a start, and behind it
  pub kept_begun : (now : ℕ) (floor : Floor) (records : List Artifact) → K []
      → (let kept = keep_floor floor records (hand (handed.Resolver resolver.Replayed) (replay_all made now (floor_view floor) (stand_on made now floor (begun blank_desk)) records)) in
      IsKnown (hand (update_message made kept.desk.known None) kept))
  kept_begun now floor records n =
      let read = replay_all made now (floor_view floor) (stand_on made now floor (begun blank_desk)) records in
      kept_kept_floor floor records (hand (handed.Resolver resolver.Replayed) read) (kept_records now (floor_view floor) (stand_on made now floor (begun blank_desk)) records (kept_stand now floor n))

  pub start_keeps : Prunes → (now : ℕ) (floor : Floor) (records : List Artifact) → K [] → K (started made now floor records).desk.known
  unfolding started
  start_keeps prunes now floor records n =
      let read = replay_all made now (floor_view floor) (stand_on made now floor (begun blank_desk)) records in
      let kept = keep_floor floor records (hand (handed.Resolver resolver.Replayed) read) in
      kept_iteration prunes now (hand (update_message made kept.desk.known None) kept) (kept_begun now floor records n)

-- an answer tells nothing
pub answer_keeps : (made : Made) (K : List Fact → Type 0) (number : ℕ) (answer : Answer) (s : Standing) → K s.desk.known → K (answered number answer s).desk.known
unfolding answered
answer_keeps made K number answer s h = at (takes_answer s number answer)
  where
    at : (b : Bool) → K (if b
        then record {
          desk = record s.desk { proposal = option_map (marked_answered number) s.desk.proposal };
          answers = s.answers ++ (number, answer) ∷ [];
        }
        else s).desk.known
    at true = h
    at false = h
