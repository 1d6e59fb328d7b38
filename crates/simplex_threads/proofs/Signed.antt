-- Each own nullify that a voter appends is the one that its scheme signs.
use Rattle.std.proofs.Common.{◌≡◌, ℕ, ◌-◌, not, nat_lt, nat_le, Bool, true, false, List, [], ◌∷◌, ◌++◌, Option, Some, None, refl, subst, if◌then◌else◌}
use Rattle.std.specs.List.{list_any}
use Rattle.std.specs.Option.{option_map, option_map_or}
use Rattle.simplex_values.specs.declared.answer.Answer.{Answer}
use Rattle.simplex_values.specs.declared.answer.Answer.TheVariants as answers
use Rattle.simplex_values.specs.declared.answer.Handoff.TheVariants as handoffs
use Rattle.simplex_values.specs.declared.plan.Channel.TheVariants as channels
use Rattle.simplex_values.specs.declared.plan.Plan.TheVariants as plans
use Rattle.simplex_values.specs.declared.plan.Recipients.TheVariants as recipients
use Rattle.simplex_values.specs.declared.timeout.TimeoutReason.TheVariants.{LeaderTimeout}
use Rattle.simplex_wire.specs.declared.artifact.Artifact.{Artifact}
use Rattle.simplex_wire.specs.declared.artifact.Artifact.TheVariants as artifacts
use Rattle.simplex_wire.specs.declared.certificate.Certificate.{Certificate}
use Rattle.simplex_wire.specs.declared.certificate.Certificate.TheVariants as certificates
use Rattle.simplex_wire.specs.declared.certificate.Finalization.{Finalization}
use Rattle.simplex_wire.specs.declared.certificate.Notarization.{Notarization}
use Rattle.simplex_wire.specs.declared.certificate.Nullification.{Nullification}
use Rattle.simplex_wire.specs.declared.vote.Finalize.{Finalize}
use Rattle.simplex_wire.specs.declared.vote.Notarize.{Notarize}
use Rattle.simplex_wire.specs.declared.vote.Nullify.{Nullify}
use Rattle.simplex_wire.specs.declared.vote.Vote.{Vote}
use Rattle.simplex_wire.specs.declared.vote.Vote.TheVariants as votes
use Rattle.simplex_wire.specs.Fields.{artifact_round}
use Rattle.simplex_wire.specs.Message as format
use Rattle.simplex_types.specs.declared.activity.Activity.{Activity}
use Rattle.simplex_types.specs.declared.activity.Activity.TheVariants as activities
use Rattle.simplex_types.specs.declared.cause.BlockCause.TheVariants.{LeaderConflict}
use Rattle.simplex_types.specs.declared.floor.Floor.{Floor}
use Rattle.simplex_types.specs.declared.floor.Floor.TheVariants as floors
use Rattle.model_rules.specs.declared.request.ProposalState.{ProposalState}
use Rattle.model_rules.specs.declared.request.ProposalState.TheVariants.{Preparing, Proposing, Waiting, Held, Closed}
use Rattle.model_rules.specs.Known.{Made, has_nullified, view_of}
use Rattle.model_rules.specs.Views.{current_of, admits_certificate}
use Rattle.model_rules.specs.Slot.{records_answer}
use Rattle.model_rules.specs.Ancestry.{is_certified}
use Rattle.model_rules.specs.Deadline.{deadline_of}
use Rattle.model_rules.specs.Best.{best_certificate, forwardable_at}
use Rattle.model_rules.specs.Votes.{notarize_at, nullify_at, finalize_at}
use Rattle.model_rules.specs.Calls as state
use Rattle.model_rules.specs.Calls.{replay_answer, certified_answer, unsent_notarization, unsent_nullification, unsent_finalization, prune_answer}
use Rattle.model_rules.specs.Pending.{Pending, Opened, pending_view, pending_parent, iterated}
use Rattle.simplex_messages.specs.declared.call.Call.{Call}
use Rattle.simplex_messages.specs.declared.call.Call.TheVariants as calls
use Rattle.simplex_messages.specs.declared.handed.Handed.TheVariants as handed
use Rattle.simplex_messages.specs.declared.resolver.MailboxMessage.TheVariants as resolver
use Rattle.simplex_messages.specs.declared.voter.Message.{Message}
use Rattle.simplex_messages.specs.declared.voter.Message.TheVariants as mail
use Rattle.simplex_messages.specs.declared.voter.VoterInput.{VoterInput}
use Rattle.simplex_messages.specs.declared.voter.VoterInput.TheVariants as inputs
use Rattle.model_steps.specs.Desk.{Doing, begun, tell, make, hand, append, seek, send_vote, send_certificate, report}
use Rattle.model_steps.specs.Voter.{Standing, answer_to, settle_proposal, proposal_stands, settle_certify, propose, stage, give_up, act_on_deadline, act_on_proposal, act_on_verify, act_on_certify, take_verdict, record_of, adds, adding, block_for, certificate_view, act_on_certificate, act_on_mail, take_proposal, first_answered, acted, vote_notarize, vote_finalize, open_requests, sync, publish_verdict, with_certificate, publish_nullify, publish_notarization, publish_nullification, publish_finalization, update_message, update_batcher, end_of_step, prune_at, prune, begin_iteration, ended, finished, stepped, activity_of, certificate_in, report_if, updated_if, replay_verdict, replay_record, floor_view, replay_all, stand_on, is_final_from, keep_floor, blank_desk, started}
use Rattle.law_member.specs.Storing.{IsSigned}
use Rattle.law_member.proofs.Choices.{if_case, map_or_any}
use Rattle.law_member.proofs.Signing.{nullify_signed}
use Rattle.law_member.proofs.Silent.{some_is, gives, gives_some}

-- where it is an own nullify, the scheme signs it
abbrev pub IsSignedRecord : Made → Artifact → Type 0
IsSignedRecord made (artifacts.Nullify v) = IsSigned made (votes.Nullify v)
IsSignedRecord made _ = Unit {0}

abbrev pub IsSignedCall : Made → Call → Type 0
IsSignedCall made (calls.Append section a) = IsSignedRecord made a
IsSignedCall made _ = Unit {0}

abbrev pub AllSigned : Made → List Call → Type 0
AllSigned made [] = Unit {0}
AllSigned made (c ∷ rest) = IsSignedCall made c × AllSigned made rest

module _ (made : Made) where
  abbrev Q : Doing → Type 0
  Q d = AllSigned made d.calls

  abbrev Outcome : Doing × Option ℕ → Type 0
  Outcome outcome = Q outcome.0

  more : (cs : List Call) (c : Call) → IsSignedCall made c → AllSigned made cs → AllSigned made (cs ++ c ∷ [])
  more [] c k h = (k, tt)
  more (x ∷ cs) c k h = (h.0, more cs c k h.1)

  -- ---- what a step acts on

  signed_propose : (p : Pending) (payload : List ℕ) (d : Doing) → Q d → Outcome (propose made p payload d)
  unfolding propose
  signed_propose p payload d h =
      let told = settle_proposal (tell made (state.Proposed p.context payload) d) in
      if_case Outcome (records_answer made d.desk.known (pending_view p))
      (make (calls.Relay payload (plans.Propose p.context.round)) told, Some (pending_view p)) (told, None)
      (λ t. more d.calls (calls.Relay payload (plans.Propose p.context.round)) tt h) (λ f. h)

  signed_stage : (p : Pending) (payload : List ℕ) (d : Doing) → Q d → Outcome (stage made p payload d)
  unfolding stage
  signed_stage p payload d h =
      if_case Outcome (is_certified d.desk.known (pending_parent p)) (propose made p payload d)
      (proposal_stands p (Held payload) (make (calls.Relay payload (plans.Prepare p.context.round)) d), None)
      (λ t. signed_propose p payload d h) (λ f. more d.calls (calls.Relay payload (plans.Prepare p.context.round)) tt h)

  signed_give_up : (now : ℕ) (p : Pending) (at : ProposalState) (d : Doing) → Q d → Outcome (give_up made now p at d)
  unfolding give_up
  signed_give_up now p Preparing d h = h
  signed_give_up now p _ d h = h

  signed_proposal : (now : ℕ) (p : Pending) (answer : Answer) (d : Doing) → Q d → Outcome (act_on_proposal made now p answer d)
  unfolding act_on_proposal
  signed_proposal now p (answers.Payload payload) d h = signed_propose p payload d h
  signed_proposal now p (answers.Handoff handoffs.Wait) d h = h
  signed_proposal now p (answers.Handoff (handoffs.Stage payload)) d h = signed_stage p payload d h
  signed_proposal now p (answers.Handoff (handoffs.Vote payload)) d h = signed_propose p payload d h
  signed_proposal now p (answers.Verdict good) d h = h
  signed_proposal now p answers.Closed d h = signed_give_up now p p.state d h

  signed_verify : (now : ℕ) (v : Opened) (answer : Answer) (d : Doing) → Q d → Outcome (act_on_verify made now v answer d)
  unfolding act_on_verify
  signed_verify now v (answers.Verdict true) d h = h
  signed_verify now v (answers.Verdict false) d h = h
  signed_verify now v _ d h = h

  signed_verdict : (view : ℕ) (good : Bool) (o : Option Notarization) (d : Doing) → Q d → Outcome (take_verdict made view good o d)
  signed_verdict view good None d h = h
  signed_verdict view good (Some n) d h =
      let a = artifacts.Certification n.proposal.round good in more d.calls (calls.Append (artifact_round a).view a) tt h

  signed_certify : (now : ℕ) (c : Opened) (answer : Answer) (d : Doing) → Q d → Outcome (act_on_certify made now c answer d)
  unfolding act_on_certify
  signed_certify now c (answers.Verdict good) d h =
      signed_verdict c.view good (certified_answer d.desk.known c.view) (tell made (state.Certified c.view good now) (settle_certify c.number d)) h
  signed_certify now c _ d h = h

  signed_block : (o : Option ℕ) (d : Doing) → Q d → Q (block_for o d)
  signed_block None d h = h
  signed_block (Some leader) d h = more d.calls (calls.Block leader LeaderConflict) tt h

  certificates_signed : (c : Certificate) → IsSignedRecord made (record_of c)
  certificates_signed (certificates.Notarization n) = tt
  certificates_signed (certificates.Nullification n) = tt
  certificates_signed (certificates.Finalization f) = tt

  signed_certificate : (now : ℕ) (c : Certificate) (d : Doing) → Q d → Outcome (act_on_certificate made now c d)
  unfolding act_on_certificate
  signed_certificate now c d h =
      let told = tell made (adding c now) d in
      let noted = append (record_of c) (record told { added = d.added ++ c ∷ [] }) in
      let blocked = block_for (replay_answer made d.desk.known (record_of c)) noted in
      let added : Doing × Option ℕ = (hand (handed.Resolver (resolver.Updated c)) blocked, Some (certificate_view c)) in
      if_case Outcome (not (admits_certificate made d.desk.known (certificate_view c))) (told, None)
      (if adds made d.desk.known c then added else (told, Some (certificate_view c))) (λ t. h)
      (λ f. if_case Outcome (adds made d.desk.known c) added (told, Some (certificate_view c))
      (λ t. signed_block (replay_answer made d.desk.known (record_of c)) noted
      (more d.calls (calls.Append (artifact_round (record_of c)).view (record_of c)) (certificates_signed c) h)) (λ g. h))

  signed_mail : (now : ℕ) (message : Message) (d : Doing) → Q d → Outcome (act_on_mail made now message d)
  unfolding act_on_mail
  signed_mail now (mail.Proposal proposal) d h = h
  signed_mail now (mail.Timeout round reason) d h = h
  signed_mail now (mail.Verified c) d h = signed_certificate now c d h

  signed_deadline : (now : ℕ) (d : Doing) → Q d → Q (act_on_deadline made now d)
  unfolding act_on_deadline
  signed_deadline now d h = at (nullify_at made view) (λ n e. nullify_signed made view n e)
    where
      view : ℕ
      view = current_of made d.desk.known

      told : Doing
      told = tell made (state.ConstructNullify view LeaderTimeout now) d

      at : (o : Option Nullify) → ((n : Nullify) → o ≡ Some n → IsSigned made (votes.Nullify n)) → Q (option_map_or (λ n.
          if has_nullified d.desk.known view then record told { nullify = Some (n, best_certificate made d.desk.known) }
          else record (append (artifacts.Nullify n) told) { nullify = Some (n, None) }) o d)
      at None signs = h
      at (Some n) signs =
          if_case Q (has_nullified d.desk.known view) (record told { nullify = Some (n, best_certificate made d.desk.known) })
          (record (append (artifacts.Nullify n) told) { nullify = Some (n, None) }) (λ t. h)
          (λ f. more d.calls (calls.Append n.round.view (artifacts.Nullify n)) (signs n refl) h)

  -- whatever its source holds
  signed_taken : (now : ℕ) (s : Standing) (p : Pending) (at : ProposalState) (outcome : Doing × Option ℕ) → take_proposal made now s p at ≡ Some outcome → Outcome outcome
  signed_taken now s p (Held payload) outcome e = held (is_certified s.desk.known (pending_parent p)) e
    where
      held : (t : Bool) → (if t then Some (propose made p payload (begun s.desk)) else None) ≡ Some outcome → Outcome outcome
      held true h = subst Outcome (some_is _ outcome h) (signed_propose p payload (begun s.desk) tt)
      held false h = cc
  signed_taken now s p Preparing outcome e =
      gives Outcome (λ answer. act_on_proposal made now p answer (begun s.desk)) (answer_to s.answers p.number) outcome (λ answer. signed_proposal now p answer (begun s.desk) tt) e
  signed_taken now s p Proposing outcome e =
      gives Outcome (λ answer. act_on_proposal made now p answer (begun s.desk)) (answer_to s.answers p.number) outcome (λ answer. signed_proposal now p answer (begun s.desk) tt) e
  signed_taken now s p Waiting outcome e = cc
  signed_taken now s p Closed outcome e = cc

  signed_acted : (now : ℕ) (s : Standing) (input : VoterInput) (outcome : Doing × Option ℕ) → acted made now s input ≡ Some outcome → Outcome outcome
  unfolding acted
  signed_acted now s (inputs.Mail message) outcome e = subst Outcome (some_is _ outcome e) (signed_mail now message (begun s.desk) tt)
  signed_acted now s inputs.Timer outcome e = due (nat_le (deadline_of made s.desk.known).0 now) e
    where
      due : (t : Bool) → (if t then Some (act_on_deadline made now (begun s.desk), Some (current_of made s.desk.known)) else None) ≡ Some outcome → Outcome outcome
      due true h = subst Outcome (some_is _ outcome h) (signed_deadline now (begun s.desk) tt)
      due false h = cc
  signed_acted now s inputs.Propose outcome e =
      gives_some Outcome (λ (p : Pending). take_proposal made now s p p.state) s.desk.proposal outcome (λ p. signed_taken now s p p.state outcome) e
  signed_acted now s inputs.Verify outcome e =
      gives_some Outcome (λ (v : Opened). option_map (λ answer. act_on_verify made now v answer (begun s.desk)) (answer_to s.answers v.number)) s.desk.verify outcome
      (λ v. gives Outcome (λ answer. act_on_verify made now v answer (begun s.desk)) (answer_to s.answers v.number) outcome (λ answer. signed_verify now v answer (begun s.desk) tt)) e
  signed_acted now s inputs.Certify outcome e =
      gives Outcome (λ (taken : Opened × Answer). act_on_certify made now taken.0 taken.1 (begun s.desk)) (first_answered s.desk.certify s.answers) outcome
      (λ taken. signed_certify now taken.0 taken.1 (begun s.desk) tt) e

  -- ---- the end of a step

  signed_notarize : (view : ℕ) (d : Doing) → Q d → Q (vote_notarize made view d)
  unfolding vote_notarize
  signed_notarize view d h =
      let told = tell made (state.ConstructNotarize view) d in
      map_or_any Q (λ (n : Notarize). append (artifacts.Notarize n) told) (notarize_at made d.desk.known view) told
      (λ n. more d.calls (calls.Append n.proposal.round.view (artifacts.Notarize n)) tt h) h

  signed_finalize : (view : ℕ) (d : Doing) → Q d → Q (vote_finalize made view d)
  unfolding vote_finalize
  signed_finalize view d h =
      let told = tell made (state.ConstructFinalize view) d in
      map_or_any Q (λ (f : Finalize). append (artifacts.Finalize f) told) (finalize_at made d.desk.known view) told
      (λ f. more d.calls (calls.Append f.proposal.round.view (artifacts.Finalize f)) tt h) h

  signed_requests : (now : ℕ) (d : Doing) → Q d → Q (open_requests made now d)
  unfolding open_requests
  signed_requests now d h = h

  signed_sync : (view : ℕ) (d : Doing) → Q d → Q (sync view d)
  signed_sync view d h = if_case Q d.wrote (make (calls.Sync view) d) d (λ t. more d.calls (calls.Sync view) tt h) (λ f. h)

  signed_send_certificate : (c : Certificate) (d : Doing) → Q d → Q (send_certificate c d)
  signed_send_certificate c d h = more d.calls (calls.Send channels.Certificate recipients.All (format.certificate.spelling c)) tt h

  signed_report : (a : Activity) (d : Doing) → Q d → Q (report a d)
  signed_report a d h = more d.calls (calls.Report a) tt h

  signed_publish_verdict : (d : Doing) → Q d → Q (publish_verdict d)
  unfolding publish_verdict
  signed_publish_verdict d h = at d.verdict
    where
      at : (o : Option (Notarization × Bool)) → Q (option_map_or (λ v.
          let told = hand (handed.Resolver (resolver.Certified v.0 v.1)) d in
          if v.1 then report (activities.Certification v.0) told else told) o d)
      at None = h
      at (Some (n, true)) = signed_report (activities.Certification n) d h
      at (Some (n, false)) = h

  signed_with : (o : Option Certificate) (d : Doing) → Q d → Q (with_certificate o d)
  signed_with None d h = h
  signed_with (Some c) d h = signed_send_certificate c d h

  signed_publish_nullify : (d : Doing) → Q d → Q (publish_nullify d)
  unfolding publish_nullify
  signed_publish_nullify d h =
      map_or_any Q (λ (n : Nullify × Option Certificate). with_certificate n.1 (send_vote (votes.Nullify n.0) d)) d.nullify d
      (λ n. signed_with n.1 (send_vote (votes.Nullify n.0) d)
      (more d.calls (calls.Send channels.Vote recipients.All (format.vote.spelling (votes.Nullify n.0))) tt h)) h

  signed_publish_notarization : (view : ℕ) (d : Doing) → Q d → Q (publish_notarization made view d)
  unfolding publish_notarization
  signed_publish_notarization view d h =
      let told = tell made (state.BroadcastNotarization view) d in
      map_or_any Q (λ (n : Notarization). report (activities.Notarization n) (send_certificate (certificates.Notarization n) told))
      (unsent_notarization d.desk.known view) told
      (λ n. let c = certificates.Notarization n in signed_report (activities.Notarization n) (send_certificate c told) (signed_send_certificate c told h)) h

  signed_publish_nullification : (view : ℕ) (d : Doing) → Q d → Q (publish_nullification made view d)
  unfolding publish_nullification
  signed_publish_nullification view d h =
      let told = tell made (state.BroadcastNullification view) d in
      map_or_any Q (λ (n : Nullification). report (activities.Nullification n) (send_certificate (certificates.Nullification n) told))
      (unsent_nullification d.desk.known view) told
      (λ n. let c = certificates.Nullification n in signed_report (activities.Nullification n) (send_certificate c told) (signed_send_certificate c told h)) h

  signed_publish_finalization : (view : ℕ) (d : Doing) → Q d → Q (publish_finalization made view d)
  unfolding publish_finalization
  signed_publish_finalization view d h =
      let told = tell made (state.BroadcastFinalization view) d in
      map_or_any Q (λ (f : Finalization). report (activities.Finalization f) (send_certificate (certificates.Finalization f) told))
      (unsent_finalization d.desk.known view) told
      (λ f. let c = certificates.Finalization f in signed_report (activities.Finalization f) (send_certificate c told) (signed_send_certificate c told h)) h

  signed_update : (before : ℕ) (d : Doing) → Q d → Q (update_batcher made before d)
  unfolding update_batcher
  signed_update before d h =
      if_case Q (nat_lt before (current_of made d.desk.known))
      (hand (update_message made d.desk.known (forwardable_at d.desk.known (current_of made d.desk.known - 1))) d) d (λ t. h) (λ f. h)

  signed_sends : {A : Type 0} (kind : A → Vote) (o : Option A) (d : Doing) → Q d → Q (option_map_or (λ v. send_vote (kind v) d) o d)
  signed_sends kind o d h =
      map_or_any Q (λ v. send_vote (kind v) d) o d
      (λ v. more d.calls (calls.Send channels.Vote recipients.All (format.vote.spelling (kind v))) tt h) h

  signed_end : (now before view : ℕ) (d : Doing) → Q d → Q (end_of_step made now before view d)
  unfolding end_of_step
  signed_end now before view d h =
      let notarize = notarize_at made d.desk.known view in
      let voted = vote_notarize made view d in
      let finalize = finalize_at made voted.desk.known view in
      let wanted = open_requests made now (vote_finalize made view voted) in
      let opened = sync view wanted in
      let told = publish_verdict opened in
      let nullified = publish_nullify told in
      let notarizes = option_map_or (λ n. send_vote (votes.Notarize n) nullified) notarize nullified in
      let notarized = publish_notarization made view notarizes in
      let given_up = publish_nullification made view notarized in
      let finalizes = option_map_or (λ f. send_vote (votes.Finalize f) given_up) finalize given_up in
      let finalized = publish_finalization made view finalizes in
      signed_update before finalized
      (signed_publish_finalization view finalizes
      (signed_sends votes.Finalize finalize given_up
      (signed_publish_nullification view notarized
      (signed_publish_notarization view notarizes
      (signed_sends votes.Notarize notarize nullified
      (signed_publish_nullify told
      (signed_publish_verdict opened
      (signed_sync view wanted
      (signed_requests now (vote_finalize made view voted) (signed_finalize view voted (signed_notarize view d h)))))))))))

  signed_iteration : (now : ℕ) (d : Doing) → Q d → Q (begin_iteration made now d)
  unfolding begin_iteration prune
  signed_iteration now d h = at (seek (record d { desk = iterated made now d.desk })) h (prune_answer made (iterated made now d.desk).known)
    where
      at : (b : Doing) → Q b → (o : Option ℕ) → Q (prune_at o (tell made state.Prune b))
      at b k None = k
      at b k (Some least) = more b.calls (calls.Prune least) tt k

  signed_ended : (now before : ℕ) (outcome : Doing × Option ℕ) → Outcome outcome → Q (ended made now before outcome)
  signed_ended now before (d, None) h = h
  signed_ended now before (d, Some view) h = signed_end now before view d h

  pub step_signed : (now : ℕ) (s : Standing) (input : VoterInput) (d : Doing) → stepped made now s input ≡ Some d → AllSigned made d.calls
  unfolding stepped finished
  step_signed now s input d e = at (acted made now s input) refl e
    where
      at : (o : Option (Doing × Option ℕ)) → acted made now s input ≡ o → option_map (finished made now (current_of made s.desk.known)) o ≡ Some d → AllSigned made d.calls
      at None f h = cc
      at (Some outcome) f h =
          subst Q (some_is _ d h)
          (signed_iteration now (ended made now (current_of made s.desk.known) outcome) (signed_ended now (current_of made s.desk.known) outcome (signed_acted now s input outcome f)))

  -- ---- a start

  signed_reported : (o : Option Activity) (d : Doing) → Q d → Q (report_if o d)
  signed_reported None d h = h
  signed_reported (Some a) d h = signed_report a d h

  signed_updated : (o : Option Certificate) (d : Doing) → Q d → Q (updated_if o d)
  signed_updated None d h = h
  signed_updated (Some c) d h = h

  signed_replay_verdict : (good : Bool) (o : Option Notarization) (d : Doing) → Q d → Q (replay_verdict good o d)
  signed_replay_verdict good None d h = h
  signed_replay_verdict true (Some n) d h = signed_report (activities.Certification n) d h
  signed_replay_verdict false (Some n) d h = h

  signed_plain : (now : ℕ) (d : Doing) (r : Artifact) → Q d → Q (updated_if (certificate_in r) (report_if (activity_of r) (block_for (replay_answer made d.desk.known r) (tell made (state.Replay r now) d))))
  signed_plain now d r h =
      let told = tell made (state.Replay r now) d in
      let blocked = block_for (replay_answer made d.desk.known r) told in
      signed_updated (certificate_in r) (report_if (activity_of r) blocked) (signed_reported (activity_of r) blocked (signed_block (replay_answer made d.desk.known r) told h))

  signed_replay : (now : ℕ) (d : Doing) (r : Artifact) → Q d → Q (replay_record made now d r)
  unfolding replay_record
  signed_replay now d (artifacts.Certification r good) h =
      signed_replay_verdict good (certified_answer d.desk.known r.view) (tell made (state.Replay (artifacts.Certification r good) now) d) h
  signed_replay now d (artifacts.Notarize v) h = signed_plain now d (artifacts.Notarize v) h
  signed_replay now d (artifacts.Nullify v) h = signed_plain now d (artifacts.Nullify v) h
  signed_replay now d (artifacts.Finalize v) h = signed_plain now d (artifacts.Finalize v) h
  signed_replay now d (artifacts.Notarization v) h = signed_plain now d (artifacts.Notarization v) h
  signed_replay now d (artifacts.Nullification v) h = signed_plain now d (artifacts.Nullification v) h
  signed_replay now d (artifacts.Finalization v) h = signed_plain now d (artifacts.Finalization v) h

  signed_records : (now floor : ℕ) (d : Doing) (rs : List Artifact) → Q d → Q (replay_all made now floor d rs)
  unfolding replay_all
  signed_records now floor d [] h = h
  signed_records now floor d (r ∷ rest) h =
      signed_records now floor (if nat_lt floor (artifact_round r).view then replay_record made now d r else d) rest
      (if_case Q (nat_lt floor (artifact_round r).view) (replay_record made now d r) d (λ t. signed_replay now d r h) (λ f. h))

  signed_kept : (floor : Floor) (records : List Artifact) (d : Doing) → Q d → Q (keep_floor floor records d)
  signed_kept (floors.Genesis payload) records d h = h
  signed_kept (floors.Finalized f) records d h =
      let a = artifacts.Finalization f in
      if_case Q (list_any (is_final_from (view_of f.proposal)) records) d (sync (view_of f.proposal) (append a d)) (λ t. h)
      (λ g. signed_sync (view_of f.proposal) (append a d) (more d.calls (calls.Append (artifact_round a).view a) tt h))

  signed_stand : (now : ℕ) (floor : Floor) → Q (stand_on made now floor (begun blank_desk))
  signed_stand now (floors.Genesis payload) = tt
  signed_stand now (floors.Finalized f) = (tt, tt)

  pub start_signed : (now : ℕ) (floor : Floor) (records : List Artifact) → AllSigned made (started made now floor records).calls
  unfolding started
  start_signed now floor records =
      let stood = stand_on made now floor (begun blank_desk) in
      let read = replay_all made now (floor_view floor) stood records in
      let replayed = hand (handed.Resolver resolver.Replayed) read in
      let kept = keep_floor floor records replayed in
      signed_iteration now (hand (update_message made kept.desk.known None) kept)
      (signed_kept floor records replayed (signed_records now (floor_view floor) stood records (signed_stand now floor)))
