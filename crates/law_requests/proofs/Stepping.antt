-- What a step, an answer and a start do to the open requests.
use Rattle.std.proofs.Common.{◌≡◌, ℕ, ◌-◌, ◌&&◌, ◌||◌, filter, ◌⊎◌, ◌==◌, ◌++◌, not, Bool, true, false, nat_lt, nat_le, List, [], ◌∷◌, Option, Some, None, refl, sym, ap, subst, ◌∙◌, inl, inr, append-nil, eqb-true, if◌then◌else◌}
use Rattle.std.specs.List.{slice_get, list_any}
use Rattle.std.specs.Prelude.{find}
use Rattle.std.specs.Option.{IfSome, is_none, option_map, option_map_or, option_and_then}
use Rattle.simplex_values.specs.declared.answer.Answer.{Answer}
use Rattle.simplex_values.specs.declared.answer.Answer.TheVariants as answers
use Rattle.simplex_values.specs.declared.answer.Handoff.TheVariants as handoffs
use Rattle.simplex_values.specs.declared.plan.Plan.TheVariants as plans
use Rattle.simplex_values.specs.declared.timeout.TimeoutReason.TheVariants.{LeaderTimeout, MissingProposal, IgnoredProposal, InvalidProposal}
use Rattle.simplex_wire.specs.declared.artifact.Artifact.{Artifact}
use Rattle.simplex_wire.specs.declared.artifact.Artifact.TheVariants as artifacts
use Rattle.simplex_wire.specs.declared.certificate.Certificate.{Certificate}
use Rattle.simplex_wire.specs.declared.certificate.Certificate.TheVariants as certificates
use Rattle.simplex_wire.specs.declared.certificate.Notarization.{Notarization}
use Rattle.simplex_wire.specs.declared.certificate.Nullification.{Nullification}
use Rattle.simplex_wire.specs.declared.certificate.Finalization.{Finalization}
use Rattle.simplex_wire.specs.declared.vote.Notarize.{Notarize}
use Rattle.simplex_wire.specs.declared.vote.Nullify.{Nullify}
use Rattle.simplex_wire.specs.declared.vote.Finalize.{Finalize}
use Rattle.simplex_wire.specs.declared.vote.Vote.TheVariants as votes
use Rattle.simplex_wire.specs.Fields.{artifact_round}
use Rattle.simplex_types.specs.declared.activity.Activity.{Activity}
use Rattle.simplex_types.specs.declared.activity.Activity.TheVariants as activities
use Rattle.simplex_types.specs.declared.floor.Floor.{Floor}
use Rattle.simplex_types.specs.declared.floor.Floor.TheVariants as floors
use Rattle.model_rules.specs.declared.request.Asked.{Asked}
use Rattle.model_rules.specs.declared.request.Asked.TheVariants as asks
use Rattle.model_rules.specs.declared.request.ProposalState.{ProposalState}
use Rattle.model_rules.specs.declared.request.ProposalState.TheVariants.{Preparing, Proposing, Waiting, Held, Closed}
use Rattle.model_rules.specs.Known.{Made, view_of, has_nullified}
use Rattle.model_rules.specs.Views.{current_of, admits_certificate}
use Rattle.model_rules.specs.Slot.{records_answer}
use Rattle.model_rules.specs.Ancestry.{is_certified}
use Rattle.model_rules.specs.Deadline.{deadline_of}
use Rattle.model_rules.specs.Best.{best_certificate, forwardable_at}
use Rattle.model_rules.specs.Votes.{notarize_at, nullify_at, finalize_at}
use Rattle.model_rules.specs.Calls as state
use Rattle.model_rules.specs.Calls.{facts_of, replay_answer, certified_answer, unsent_notarization, unsent_nullification, unsent_finalization, prune_answer}
use Rattle.model_rules.specs.Pending.{Desk, Pending, Opened, is_open, pending_view, pending_parent, reconciled, iterated}
use Rattle.simplex_messages.specs.declared.call.Call.TheVariants as calls
use Rattle.simplex_messages.specs.declared.handed.Handed.TheVariants as handed
use Rattle.simplex_messages.specs.declared.resolver.MailboxMessage.TheVariants as resolver
use Rattle.simplex_messages.specs.declared.voter.Message.{Message}
use Rattle.simplex_messages.specs.declared.voter.Message.TheVariants as mail
use Rattle.simplex_messages.specs.declared.voter.VoterInput.{VoterInput}
use Rattle.simplex_messages.specs.declared.voter.VoterInput.TheVariants as inputs
use Rattle.model_steps.specs.Desk.{Doing, begun, tell, make, hand, append, seek, send_vote, send_certificate, report}
use Rattle.model_steps.specs.Voter.{Standing, answer_to, is_of, takes_answer, answered, marked_answered, fits_proposal, fits_verdict, settle_proposal, proposal_stands, propose, stage, give_up, act_on_deadline, act_on_proposal, act_on_verify, settle_certify, take_verdict, act_on_certify, record_of, adds, adding, block_for, certificate_view, act_on_certificate, act_on_mail, vote_notarize, vote_finalize, open_requests, sync, publish_verdict, publish_nullify, publish_notarization, publish_nullification, publish_finalization, update_message, update_batcher, with_certificate, end_of_step, prune_at, prune, begin_iteration, finished, take_proposal, first_answered, acted, stepped, activity_of, certificate_in, report_if, updated_if, replay_verdict, replay_record, replay_all, floor_view, stand_on, is_final_from, keep_floor, blank_desk, started}
use Rattle.law_run.specs.Sayings.{Each}
use Rattle.law_run.proofs.Telling.{some_is, gives}
use Rattle.simplex_values.specs.declared.round.Context.{Context}
use Rattle.simplex_values.specs.declared.round.Round.{Round}
use Rattle.model_steps.specs.VoterLife.{rest}
use Rattle.law_run.proofs.Speaking.{Each-append}
use Rattle.model_audit.specs.Answers.{answer_fits}
use Rattle.law_requests.specs.Open.{IsOpen, IsStaged, IsPending, IsVerify, IsCertify, IsFitting, IsTakenBy, AreOpen, AreStanding}
use Rattle.law_requests.proofs.Opening as opening

module _ (earlier : List Asked) (gone : List ℕ) (given : List (ℕ × Answer)) where
  abbrev pub IsDesk : Desk → Type 0
  IsDesk desk = opening.IsDesk earlier gone given desk

  -- what a step has done so far
  abbrev pub AllOpen : Doing → Type 0
  AllOpen d = IsDesk d.desk

  open_tell : (made : Made) (call : state.Call) (d : Doing) → AllOpen d → AllOpen (tell made call d)
  open_tell made call d a = opening.desk_told earlier gone given made call d.desk a

  -- ---- the end of a step

  open_notarize : (made : Made) (view : ℕ) (d : Doing) → AllOpen d → AllOpen (vote_notarize made view d)
  unfolding vote_notarize
  open_notarize made view d a = at (notarize_at made d.desk.known view)
    where
      at : (o : Option Notarize) → AllOpen (option_map_or (λ n. append (artifacts.Notarize n) (tell made (state.ConstructNotarize view) d)) o (tell made (state.ConstructNotarize view) d))
      at None = open_tell made (state.ConstructNotarize view) d a
      at (Some v) = open_tell made (state.ConstructNotarize view) d a

  open_finalize : (made : Made) (view : ℕ) (d : Doing) → AllOpen d → AllOpen (vote_finalize made view d)
  unfolding vote_finalize
  open_finalize made view d a = at (finalize_at made d.desk.known view)
    where
      at : (o : Option Finalize) → AllOpen (option_map_or (λ n. append (artifacts.Finalize n) (tell made (state.ConstructFinalize view) d)) o (tell made (state.ConstructFinalize view) d))
      at None = open_tell made (state.ConstructFinalize view) d a
      at (Some v) = open_tell made (state.ConstructFinalize view) d a

  -- what is sought is no part of it
  open_sought : (desk : Desk) → IsDesk desk → IsDesk (record desk { sought = [] })
  open_sought desk a = a

  open_brought : (made : Made) (now : ℕ) (d : Doing) → AllOpen d → AllOpen (open_requests made now d)
  unfolding open_requests
  open_brought made now d a = open_sought (reconciled made now d.desk) (opening.desk_reconciled earlier gone given made now d.desk a)

  open_sync : (view : ℕ) (d : Doing) → AllOpen d → AllOpen (sync view d)
  open_sync view d a = at d.wrote
    where
      at : (b : Bool) → AllOpen (if b then make (calls.Sync view) d else d)
      at true = a
      at false = a

  open_verdict : (d : Doing) → AllOpen d → AllOpen (publish_verdict d)
  unfolding publish_verdict
  open_verdict d a = at d.verdict
    where
      one : (n : Notarization) (good b : Bool) → (let told = hand (handed.Resolver (resolver.Certified n good)) d in AllOpen (if b then report (activities.Certification n) told else told))
      one n good true = a
      one n good false = a

      at : (o : Option (Notarization × Bool)) → AllOpen (option_map_or (λ v.
          let told = hand (handed.Resolver (resolver.Certified v.0 v.1)) d in
          if v.1 then report (activities.Certification v.0) told else told) o d)
      at None = a
      at (Some v) = one v.0 v.1 v.1

  open_option : (o : Option Certificate) (d : Doing) → AllOpen d → AllOpen (with_certificate o d)
  open_option None d a = a
  open_option (Some c) d a = a

  open_nullify : (d : Doing) → AllOpen d → AllOpen (publish_nullify d)
  unfolding publish_nullify
  open_nullify d a = at d.nullify
    where
      at : (o : Option (Nullify × Option Certificate)) → AllOpen (option_map_or (λ n. with_certificate n.1 (send_vote (votes.Nullify n.0) d)) o d)
      at None = a
      at (Some x) = open_option x.1 (send_vote (votes.Nullify x.0) d) a

  open_option_notarize : (o : Option Notarize) (d : Doing) → AllOpen d → AllOpen (option_map_or (λ n. send_vote (votes.Notarize n) d) o d)
  open_option_notarize None d a = a
  open_option_notarize (Some v) d a = a

  open_option_finalize : (o : Option Finalize) (d : Doing) → AllOpen d → AllOpen (option_map_or (λ n. send_vote (votes.Finalize n) d) o d)
  open_option_finalize None d a = a
  open_option_finalize (Some v) d a = a

  open_notarization : (made : Made) (view : ℕ) (d : Doing) → AllOpen d → AllOpen (publish_notarization made view d)
  unfolding publish_notarization
  open_notarization made view d a = at (unsent_notarization d.desk.known view)
    where
      at : (o : Option Notarization) → AllOpen (option_map_or (λ n. report (activities.Notarization n) (send_certificate (certificates.Notarization n) (tell made (state.BroadcastNotarization view) d))) o (tell made (state.BroadcastNotarization view) d))
      at None = open_tell made (state.BroadcastNotarization view) d a
      at (Some n) = open_tell made (state.BroadcastNotarization view) d a

  open_nullification : (made : Made) (view : ℕ) (d : Doing) → AllOpen d → AllOpen (publish_nullification made view d)
  unfolding publish_nullification
  open_nullification made view d a = at (unsent_nullification d.desk.known view)
    where
      at : (o : Option Nullification) → AllOpen (option_map_or (λ n. report (activities.Nullification n) (send_certificate (certificates.Nullification n) (tell made (state.BroadcastNullification view) d))) o (tell made (state.BroadcastNullification view) d))
      at None = open_tell made (state.BroadcastNullification view) d a
      at (Some n) = open_tell made (state.BroadcastNullification view) d a

  open_finalization : (made : Made) (view : ℕ) (d : Doing) → AllOpen d → AllOpen (publish_finalization made view d)
  unfolding publish_finalization
  open_finalization made view d a = at (unsent_finalization d.desk.known view)
    where
      at : (o : Option Finalization) → AllOpen (option_map_or (λ n. report (activities.Finalization n) (send_certificate (certificates.Finalization n) (tell made (state.BroadcastFinalization view) d))) o (tell made (state.BroadcastFinalization view) d))
      at None = open_tell made (state.BroadcastFinalization view) d a
      at (Some n) = open_tell made (state.BroadcastFinalization view) d a

  open_update : (made : Made) (before : ℕ) (d : Doing) → AllOpen d → AllOpen (update_batcher made before d)
  unfolding update_batcher
  open_update made before d a = at (nat_lt before (current_of made d.desk.known))
    where
      at : (b : Bool) → AllOpen (if b then hand (update_message made d.desk.known (forwardable_at d.desk.known (current_of made d.desk.known - 1))) d else d)
      at true = a
      at false = a

  open_end : (made : Made) (now before view : ℕ) (d : Doing) → AllOpen d → AllOpen (end_of_step made now before view d)
  unfolding end_of_step
  open_end made now before view d a =
      let notarize = notarize_at made d.desk.known view in
      let voted = vote_notarize made view d in
      let finalize = finalize_at made voted.desk.known view in
      let finalized = vote_finalize made view voted in
      let opened = sync view (open_requests made now finalized) in
      let first = publish_nullify (publish_verdict opened) in
      let second = option_map_or (λ n. send_vote (votes.Notarize n) first) notarize first in
      let third = publish_notarization made view second in
      let fourth = publish_nullification made view third in
      let fifth = option_map_or (λ f. send_vote (votes.Finalize f) fourth) finalize fourth in
      let sixth = publish_finalization made view fifth in
      open_update made before sixth
      (open_finalization made view fifth
      (open_option_finalize finalize fourth
      (open_nullification made view third
      (open_notarization made view second
      (open_option_notarize notarize first
      (open_nullify (publish_verdict opened)
      (open_verdict opened
      (open_sync view (open_requests made now finalized)
      (open_brought made now finalized (open_finalize made view voted (open_notarize made view d a)))))))))))

  open_iteration : (made : Made) (now : ℕ) (d : Doing) → AllOpen d → AllOpen (begin_iteration made now d)
  unfolding begin_iteration prune
  open_iteration made now d a =
      let begun = seek (record d { desk = iterated made now d.desk }) in
      at begun (open_sought (iterated made now d.desk) (opening.desk_iterated earlier gone given made now d.desk a)) (prune_answer made begun.desk.known)
    where
      at : (b : Doing) → AllOpen b → (o : Option ℕ) → AllOpen (prune_at o (tell made state.Prune b))
      at b n None = open_tell made state.Prune b n
      at b n (Some least) = open_tell made state.Prune b n

  -- ---- acting

  open_settled : (d : Doing) → AllOpen d → AllOpen (settle_proposal d)
  open_settled d a = opening.desk_settled earlier gone given d.desk None tt a

  open_stands : (p : Pending) (s : ProposalState) (d : Doing) → IsPending (earlier ++ d.desk.asked) (gone ++ d.desk.dropped) given (record p { state = s; is_answered = false }) s → AllOpen d → AllOpen (proposal_stands p s d)
  open_stands p s d n a = opening.desk_settled earlier gone given d.desk (Some (record p { state = s; is_answered = false })) n a

  open_propose : (made : Made) (p : Pending) (payload : List ℕ) (d : Doing) → AllOpen d → AllOpen (propose made p payload d).0
  unfolding propose
  open_propose made p payload d a = at (records_answer made d.desk.known (pending_view p))
    where
      told_so : AllOpen (settle_proposal (tell made (state.Proposed p.context payload) d))
      told_so = open_settled (tell made (state.Proposed p.context payload) d) (open_tell made (state.Proposed p.context payload) d a)

      pair : Bool → Doing × Option ℕ
      pair t =
          let told = settle_proposal (tell made (state.Proposed p.context payload) d) in
          if t then (make (calls.Relay payload (plans.Propose p.context.round)) told, Some (pending_view p)) else (told, None)

      at : (t : Bool) → AllOpen (pair t).0
      at true = told_so
      at false = told_so

  open_stage : (made : Made) (p : Pending) (payload : List ℕ) (d : Doing) → IsStaged (earlier ++ d.desk.asked) given p.number p.context payload → AllOpen d → AllOpen (stage made p payload d).0
  unfolding stage
  open_stage made p payload d n a = at (is_certified d.desk.known (pending_parent p))
    where
      pair : Bool → Doing × Option ℕ
      pair t = if t then propose made p payload d else (proposal_stands p (Held payload) (make (calls.Relay payload (plans.Prepare p.context.round)) d), None)

      at : (t : Bool) → AllOpen (pair t).0
      at true = open_propose made p payload d a
      at false = open_stands p (Held payload) (make (calls.Relay payload (plans.Prepare p.context.round)) d) n a

  open_given_up : (made : Made) (now : ℕ) (p : Pending) (s : ProposalState) (d : Doing) → AllOpen d → AllOpen (give_up made now p s d).0
  unfolding give_up
  open_given_up made now p Preparing d a = open_stands p Closed d tt a
  open_given_up made now p _ d a =
      open_settled (tell made (state.TriggerTimeout (pending_view p) MissingProposal now) d) (open_tell made (state.TriggerTimeout (pending_view p) MissingProposal now) d a)

  -- a staging answer is the first, to a Prepare
  abbrev IsStaging : List Asked → Pending → Answer → Type 0
  IsStaging asked p (answers.Handoff (handoffs.Stage payload)) = IsStaged asked given p.number p.context payload
  IsStaging asked p _ = Unit {0}

  open_acted : (made : Made) (now : ℕ) (p : Pending) (answer : Answer) (d : Doing) → IsStaging (earlier ++ d.desk.asked) p answer → AllOpen d → AllOpen (act_on_proposal made now p answer d).0
  unfolding act_on_proposal
  open_acted made now p (answers.Payload payload) d g a = open_propose made p payload d a
  open_acted made now p (answers.Handoff handoffs.Wait) d g a = open_stands p Waiting d tt a
  open_acted made now p (answers.Handoff (handoffs.Stage payload)) d g a = open_stage made p payload d g a
  open_acted made now p (answers.Handoff (handoffs.Vote payload)) d g a = open_propose made p payload d a
  open_acted made now p (answers.Verdict good) d g a = a
  open_acted made now p answers.Closed d g a = open_given_up made now p p.state d a

  open_on_verify : (made : Made) (now : ℕ) (v : Opened) (answer : Answer) (d : Doing) → AllOpen d → AllOpen (act_on_verify made now v answer d).0
  unfolding act_on_verify
  open_on_verify made now v (answers.Verdict true) d a = open_tell made (state.Verified v.view) (record d { desk = record d.desk { verify = None } }) (opening.desk_unverified earlier gone given d.desk a)
  open_on_verify made now v (answers.Verdict false) d a =
      open_tell made (state.VerificationFailed v.view InvalidProposal now) (record d { desk = record d.desk { verify = None } }) (opening.desk_unverified earlier gone given d.desk a)
  open_on_verify made now v _ d a =
      open_tell made (state.VerificationFailed v.view IgnoredProposal now) (record d { desk = record d.desk { verify = None } }) (opening.desk_unverified earlier gone given d.desk a)

  fewer : {A : Type 0} (P : A → Type 0) (test : A → Bool) (xs : List A) → Each P xs → Each P (filter test xs)
  fewer P test [] h = tt
  fewer P test (x ∷ xs) h = at (test x) (fewer P test xs h.1)
    where
      at : (b : Bool) → Each P (filter test xs) → Each P (if b then x ∷ filter test xs else filter test xs)
      at true k = (h.0, k)
      at false k = k

  open_fewer : (number : ℕ) (d : Doing) → AllOpen d → AllOpen (settle_certify number d)
  open_fewer number d a =
      record { count = a.count; below = a.below; pending = a.pending; verify = a.verify; certify = fewer (IsCertify (earlier ++ d.desk.asked) (gone ++ d.desk.dropped)) (λ c. not (c.number == number)) d.desk.certify a.certify; fitting = a.fitting }

  open_taken_verdict : (made : Made) (view : ℕ) (good : Bool) (o : Option Notarization) (d : Doing) → AllOpen d → AllOpen (take_verdict made view good o d).0
  open_taken_verdict made view good None d a = a
  open_taken_verdict made view good (Some n) d a = a

  open_on_certify : (made : Made) (now : ℕ) (c : Opened) (answer : Answer) (d : Doing) → AllOpen d → AllOpen (act_on_certify made now c answer d).0
  unfolding act_on_certify
  open_on_certify made now c (answers.Verdict good) d a =
      open_taken_verdict made c.view good (certified_answer d.desk.known c.view) (tell made (state.Certified c.view good now) (settle_certify c.number d))
      (open_tell made (state.Certified c.view good now) (settle_certify c.number d) (open_fewer c.number d a))
  open_on_certify made now c _ d a = open_fewer c.number d a

  open_blocked : (o : Option ℕ) (d : Doing) → AllOpen d → AllOpen (block_for o d)
  open_blocked None d a = a
  open_blocked (Some leader) d a = a

  open_certificate : (made : Made) (now : ℕ) (c : Certificate) (d : Doing) → AllOpen d → AllOpen (act_on_certificate made now c d).0
  unfolding act_on_certificate
  open_certificate made now c d a = at (not (admits_certificate made d.desk.known (certificate_view c))) (adds made d.desk.known c)
    where
      told_so : AllOpen (tell made (adding c now) d)
      told_so = open_tell made (adding c now) d a

      pair : Bool → Bool → Doing × Option ℕ
      pair past new =
          let known = d.desk.known in
          let told = tell made (adding c now) d in
          if past then (told, None)
          else if new
          then (
            hand (handed.Resolver (resolver.Updated c))
                (block_for (replay_answer made known (record_of c))
                (append (record_of c) (record told { added = d.added ++ c ∷ [] }))),
            Some (certificate_view c),
          )
          else (told, Some (certificate_view c))

      at : (past new : Bool) → AllOpen (pair past new).0
      at true new = told_so
      at false false = told_so
      at false true = open_blocked (replay_answer made d.desk.known (record_of c)) (append (record_of c) (record (tell made (adding c now) d) { added = d.added ++ c ∷ [] })) told_so

  open_mail : (made : Made) (now : ℕ) (message : Message) (d : Doing) → AllOpen d → AllOpen (act_on_mail made now message d).0
  unfolding act_on_mail
  open_mail made now (mail.Proposal proposal) d a = open_tell made (state.SetProposal (view_of proposal) proposal) d a
  open_mail made now (mail.Timeout round reason) d a = open_tell made (state.TriggerTimeout round.view reason now) d a
  open_mail made now (mail.Verified c) d a = open_certificate made now c d a

  open_deadline : (made : Made) (now : ℕ) (d : Doing) → AllOpen d → AllOpen (act_on_deadline made now d)
  unfolding act_on_deadline
  open_deadline made now d a = at (nullify_at made (current_of made d.desk.known))
    where
      told_so : AllOpen (tell made (state.ConstructNullify (current_of made d.desk.known) LeaderTimeout now) d)
      told_so = open_tell made (state.ConstructNullify (current_of made d.desk.known) LeaderTimeout now) d a

      one : (n : Nullify) (t : Bool)
          → AllOpen (if t
          then record (tell made (state.ConstructNullify (current_of made d.desk.known) LeaderTimeout now) d) { nullify = Some (n, best_certificate made d.desk.known) }
          else record (append (artifacts.Nullify n) (tell made (state.ConstructNullify (current_of made d.desk.known) LeaderTimeout now) d)) { nullify = Some (n, None) })
      one n true = told_so
      one n false = told_so

      at : (o : Option Nullify) → AllOpen (option_map_or (λ n.
          if has_nullified d.desk.known (current_of made d.desk.known)
          then record (tell made (state.ConstructNullify (current_of made d.desk.known) LeaderTimeout now) d) { nullify = Some (n, best_certificate made d.desk.known) }
          else record (append (artifacts.Nullify n) (tell made (state.ConstructNullify (current_of made d.desk.known) LeaderTimeout now) d)) { nullify = Some (n, None) })
          o d)
      at None = a
      at (Some n) = one n (has_nullified d.desk.known (current_of made d.desk.known))

  -- ---- a start

  open_reported : (o : Option Activity) (d : Doing) → AllOpen d → AllOpen (report_if o d)
  open_reported None d a = a
  open_reported (Some r) d a = a

  open_updated : (o : Option Certificate) (d : Doing) → AllOpen d → AllOpen (updated_if o d)
  open_updated None d a = a
  open_updated (Some c) d a = a

  open_kept_verdict : (good : Bool) (o : Option Notarization) (d : Doing) → AllOpen d → AllOpen (replay_verdict good o d)
  open_kept_verdict good None d a = a
  open_kept_verdict true (Some n) d a = a
  open_kept_verdict false (Some n) d a = a

  open_plain_record : (made : Made) (now : ℕ) (d : Doing) (r : Artifact) → AllOpen d
      → AllOpen (updated_if (certificate_in r) (report_if (activity_of r) (block_for (replay_answer made d.desk.known r) (tell made (state.Replay r now) d))))
  open_plain_record made now d r a =
      let told = tell made (state.Replay r now) d in
      let blocked = block_for (replay_answer made d.desk.known r) told in
      open_updated (certificate_in r) (report_if (activity_of r) blocked)
      (open_reported (activity_of r) blocked (open_blocked (replay_answer made d.desk.known r) told (open_tell made (state.Replay r now) d a)))

  open_replay : (made : Made) (now : ℕ) (d : Doing) (r : Artifact) → AllOpen d → AllOpen (replay_record made now d r)
  unfolding replay_record
  open_replay made now d (artifacts.Certification r good) a =
      open_kept_verdict good (certified_answer d.desk.known r.view) (tell made (state.Replay (artifacts.Certification r good) now) d) (open_tell made (state.Replay (artifacts.Certification r good) now) d a)
  open_replay made now d (artifacts.Notarize v) a = open_plain_record made now d (artifacts.Notarize v) a
  open_replay made now d (artifacts.Nullify v) a = open_plain_record made now d (artifacts.Nullify v) a
  open_replay made now d (artifacts.Finalize v) a = open_plain_record made now d (artifacts.Finalize v) a
  open_replay made now d (artifacts.Notarization v) a = open_plain_record made now d (artifacts.Notarization v) a
  open_replay made now d (artifacts.Nullification v) a = open_plain_record made now d (artifacts.Nullification v) a
  open_replay made now d (artifacts.Finalization v) a = open_plain_record made now d (artifacts.Finalization v) a

  open_records : (made : Made) (now floor : ℕ) (d : Doing) (rs : List Artifact) → AllOpen d → AllOpen (replay_all made now floor d rs)
  unfolding replay_all
  open_records made now floor d [] a = a
  open_records made now floor d (r ∷ rest) a =
      open_records made now floor (if nat_lt floor (artifact_round r).view then replay_record made now d r else d) rest (at (nat_lt floor (artifact_round r).view))
    where
      at : (b : Bool) → AllOpen (if b then replay_record made now d r else d)
      at true = open_replay made now d r a
      at false = a

  open_kept_floor : (floor : Floor) (records : List Artifact) (d : Doing) → AllOpen d → AllOpen (keep_floor floor records d)
  open_kept_floor (floors.Genesis payload) records d a = a
  open_kept_floor (floors.Finalized f) records d a = at (list_any (is_final_from (view_of f.proposal)) records)
    where
      at : (b : Bool) → AllOpen (if b then d else make (calls.Sync (view_of f.proposal)) (append (artifacts.Finalization f) d))
      at true = a
      at false = a

  open_finished : (made : Made) (now before : ℕ) (outcome : Doing × Option ℕ) → AllOpen outcome.0 → AllOpen (finished made now before outcome)
  unfolding finished
  open_finished made now before (d, None) a = open_iteration made now d a
  open_finished made now before (d, Some view) a = open_iteration made now (end_of_step made now before view d) (open_end made now before view d a)

-- ---- a step

-- what stands for an answer that came
pub fitting_answer : (asked : List Asked) (given : List (ℕ × Answer)) (number : ℕ) (answer : Answer) → Each (IsFitting asked) given → answer_to given number ≡ Some answer → IsFitting asked (number, answer)
fitting_answer asked [] number answer g e = cc
fitting_answer asked (x ∷ rest) number answer g e = at (is_of number x) refl (fitting_answer asked rest number answer g.1) e
  where
    at : (b : Bool) → is_of number x ≡ b → (answer_to rest number ≡ Some answer → IsFitting asked (number, answer)) → option_map (λ (y : ℕ × Answer). y.1) (if b then Some x else find (is_of number) rest) ≡ Some answer → IsFitting asked (number, answer)
    at true h later k =
        let n : x.0 ≡ number = eqb-true x.0 number h in
        let a : x.1 ≡ answer = cc in
        let f = g.0 in
        record { request = f.request; stands = ap (slice_get asked) (sym n) ∙ f.stands; fits = ap (answer_fits f.request) (sym a) ∙ f.fits }
    at false h later k = later k

-- a voter between two steps: nothing is asked or dropped on its desk
pub record IsReady (asked : List Asked) (dropped : List ℕ) (s : Standing) : Type 0 where
  pub quiet : s.desk.asked ≡ []
  pub still : s.desk.dropped ≡ []
  pub stands : AreStanding asked dropped s

module _ (asked : List Asked) (dropped : List ℕ) (made : Made) (now : ℕ) (s : Standing) (r : IsReady asked dropped s) where
  abbrev IsDone : Doing × Option ℕ → Type 0
  IsDone outcome = AllOpen asked dropped s.answers outcome.0

  -- nothing is done yet
  nothing : AllOpen asked dropped s.answers (begun s.desk)
  nothing =
      subst (λ xs. AreOpen xs (dropped ++ s.desk.dropped) s.answers s.desk.known s.desk.proposal s.desk.verify s.desk.certify s.desk.opened) (sym (ap (λ xs. asked ++ xs) r.quiet ∙ append-nil asked))
      (subst (λ xs. AreOpen asked xs s.answers s.desk.known s.desk.proposal s.desk.verify s.desk.certify s.desk.opened) (sym (ap (λ xs. dropped ++ xs) r.still ∙ append-nil dropped)) r.stands)

  staging : (p : Pending) (at : ProposalState) (answer : Answer) → is_open at ≡ true → IsPending (asked ++ s.desk.asked) (dropped ++ s.desk.dropped) s.answers p at → answer_to s.answers p.number ≡ Some answer
      → IsStaging asked dropped s.answers (asked ++ s.desk.asked) p answer
  staging p at (answers.Payload payload) o i e = tt
  staging p at (answers.Handoff handoffs.Wait) o i e = tt
  staging p at (answers.Handoff (handoffs.Vote payload)) o i e = tt
  staging p at (answers.Verdict good) o i e = tt
  staging p at answers.Closed o i e = tt
  staging p Preparing (answers.Handoff (handoffs.Stage payload)) o i e = record { stands = i.stands; first = e }
  staging p Proposing (answers.Handoff (handoffs.Stage payload)) o i e = absurd (unfit f.request (some_is _ _ (sym f.stands ∙ i.stands)) f.fits)
    where
      f : IsFitting (asked ++ s.desk.asked) (p.number, answers.Handoff (handoffs.Stage payload))
      f = (let n = nothing in fitting_answer (asked ++ s.desk.asked) s.answers p.number (answers.Handoff (handoffs.Stage payload)) n.fitting e)

      unfit : (x : Asked) → x ≡ asks.Propose p.context → answer_fits x (answers.Handoff (handoffs.Stage payload)) ≡ true → ⊥
      unfit x same h = never (ap (λ y. answer_fits y (answers.Handoff (handoffs.Stage payload))) (sym same) ∙ h)
        where
          never : false ≡ true → ⊥
          never e = cc
  staging p Waiting (answers.Handoff (handoffs.Stage payload)) o i e = cc
  staging p (Held kept) (answers.Handoff (handoffs.Stage payload)) o i e = cc
  staging p Closed (answers.Handoff (handoffs.Stage payload)) o i e = cc

  done_answer : (p : Pending) (at : ProposalState) (outcome : Doing × Option ℕ) (o : Option Answer) → is_open at ≡ true → IsPending (asked ++ s.desk.asked) (dropped ++ s.desk.dropped) s.answers p at → answer_to s.answers p.number ≡ o
      → option_map (λ answer. act_on_proposal made now p answer (begun s.desk)) o ≡ Some outcome → IsDone outcome
  done_answer p at outcome None t i h e = cc
  done_answer p at outcome (Some answer) t i h e =
      subst IsDone (some_is _ outcome e) (open_acted asked dropped s.answers made now p answer (begun s.desk) (staging p at answer t i h) nothing)

  done_taken : (p : Pending) (at : ProposalState) (outcome : Doing × Option ℕ) → IsPending (asked ++ s.desk.asked) (dropped ++ s.desk.dropped) s.answers p at → take_proposal made now s p at ≡ Some outcome → IsDone outcome
  done_taken p (Held payload) outcome i e = held (is_certified s.desk.known (pending_parent p)) e
    where
      held : (t : Bool) → (if t then Some (propose made p payload (begun s.desk)) else None) ≡ Some outcome → IsDone outcome
      held true h = subst IsDone (some_is _ outcome h) (open_propose asked dropped s.answers made p payload (begun s.desk) nothing)
      held false h = cc
  done_taken p Preparing outcome i e = done_answer p Preparing outcome (answer_to s.answers p.number) refl i refl e
  done_taken p Proposing outcome i e = done_answer p Proposing outcome (answer_to s.answers p.number) refl i refl e
  done_taken p Waiting outcome i e = cc
  done_taken p Closed outcome i e = cc

  done_pending : (outcome : Doing × Option ℕ) (o : Option Pending) → IfSome o (λ p. IsPending (asked ++ s.desk.asked) (dropped ++ s.desk.dropped) s.answers p p.state)
      → option_and_then (λ (p : Pending). take_proposal made now s p p.state) o ≡ Some outcome → IsDone outcome
  done_pending outcome None i e = cc
  done_pending outcome (Some p) i e = done_taken p p.state outcome i e

  done_opened : (outcome : Doing × Option ℕ) (o : Option Opened) → option_and_then (λ (v : Opened). option_map (λ answer. act_on_verify made now v answer (begun s.desk)) (answer_to s.answers v.number)) o ≡ Some outcome → IsDone outcome
  done_opened outcome None e = cc
  done_opened outcome (Some v) e = gives IsDone (λ answer. act_on_verify made now v answer (begun s.desk)) (answer_to s.answers v.number) outcome (λ answer. open_on_verify asked dropped s.answers made now v answer (begun s.desk) nothing) e

  done : (input : VoterInput) (outcome : Doing × Option ℕ) → acted made now s input ≡ Some outcome → IsDone outcome
  unfolding acted
  done (inputs.Mail message) outcome e = subst IsDone (some_is _ outcome e) (open_mail asked dropped s.answers made now message (begun s.desk) nothing)
  done inputs.Timer outcome e = due (nat_le (deadline_of made s.desk.known).0 now) e
    where
      due : (t : Bool) → (if t then Some (act_on_deadline made now (begun s.desk), Some (current_of made s.desk.known)) else None) ≡ Some outcome → IsDone outcome
      due true h = subst IsDone (some_is _ outcome h) (open_deadline asked dropped s.answers made now (begun s.desk) nothing)
      due false h = cc
  done inputs.Propose outcome e = (let n = nothing in done_pending outcome s.desk.proposal n.pending e)
  done inputs.Verify outcome e = done_opened outcome s.desk.verify e
  done inputs.Certify outcome e =
      gives IsDone (λ (taken : Opened × Answer). act_on_certify made now taken.0 taken.1 (begun s.desk)) (first_answered s.desk.certify s.answers) outcome
      (λ taken. open_on_certify asked dropped s.answers made now taken.0 taken.1 (begun s.desk) nothing) e

  step_open : (input : VoterInput) (d : Doing) → stepped made now s input ≡ Some d → AllOpen asked dropped s.answers d
  unfolding stepped
  step_open input d e = at (acted made now s input) refl e
    where
      at : (o : Option (Doing × Option ℕ)) → acted made now s input ≡ o → option_map (finished made now (current_of made s.desk.known)) o ≡ Some d → AllOpen asked dropped s.answers d
      at None f h = cc
      at (Some outcome) f h =
          subst (AllOpen asked dropped s.answers) (some_is _ d h) (open_finished asked dropped s.answers made now (current_of made s.desk.known) outcome (done input outcome f))

  -- at rest behind a step
  pub rest_ready : (input : VoterInput) (d : Doing) → stepped made now s input ≡ Some d → IsReady (asked ++ d.desk.asked) (dropped ++ d.desk.dropped) (rest d s.answers)
  rest_ready input d e = record { quiet = refl; still = refl; stands = step_open input d e }

  -- ---- an answer

  first_stays : (xs ys : List (ℕ × Answer)) (number : ℕ) (answer : Answer) → answer_to xs number ≡ Some answer → answer_to (xs ++ ys) number ≡ Some answer
  first_stays [] ys number answer e = cc
  first_stays (x ∷ xs) ys number answer e = at (is_of number x) (first_stays xs ys number answer) e
    where
      at : (b : Bool) → (answer_to xs number ≡ Some answer → answer_to (xs ++ ys) number ≡ Some answer) → option_map (λ (y : ℕ × Answer). y.1) (if b then Some x else find (is_of number) xs) ≡ Some answer
          → option_map (λ (y : ℕ × Answer). y.1) (if b then Some x else find (is_of number) (xs ++ ys)) ≡ Some answer
      at true later k = k
      at false later k = later k

  module _ (number : ℕ) (answer : Answer) where
    marked : (p q : Pending) (at : ProposalState) → q.number ≡ p.number → q.context ≡ p.context → IsPending asked dropped s.answers p at → IsPending asked dropped (s.answers ++ (number, answer) ∷ []) q at
    marked p q Preparing n c h = subst (λ k. IsOpen asked dropped k (asks.Prepare q.context)) (sym n) (subst (λ k. IsOpen asked dropped p.number (asks.Prepare k)) (sym c) h)
    marked p q Proposing n c h = subst (λ k. IsOpen asked dropped k (asks.Propose q.context)) (sym n) (subst (λ k. IsOpen asked dropped p.number (asks.Propose k)) (sym c) h)
    marked p q (Held payload) n c h = record {
      stands = ap (slice_get asked) n ∙ h.stands ∙ ap (λ k. Some (asks.Prepare k)) (sym c);
      first = first_stays s.answers ((number, answer) ∷ []) q.number (answers.Handoff (handoffs.Stage payload)) (ap (answer_to s.answers) n ∙ h.first);
    }
    marked p q Waiting n c h = tt
    marked p q Closed n c h = tt

    marked_so : (p : Pending) (b : Bool) → IsPending asked dropped s.answers p p.state
        → (let q = if b then record p { is_answered = true } else p in IsPending asked dropped (s.answers ++ (number, answer) ∷ []) q q.state)
    marked_so p true h = marked p (record p { is_answered = true }) p.state refl refl h
    marked_so p false h = marked p p p.state refl refl h

    some_marked : (o : Option Pending) → IfSome o (λ p. IsPending asked dropped s.answers p p.state)
        → IfSome (option_map (marked_answered number) o) (λ p. IsPending asked dropped (s.answers ++ (number, answer) ∷ []) p p.state)
    some_marked None h = tt
    some_marked (Some p) h = marked_so p (p.number == number) h

    either : (a b : Bool) → (a || b) ≡ true → (a ≡ true) ⊎ (b ≡ true)
    either true b e = inl refl
    either false b e = inr e

    both : (a b : Bool) → (a && b) ≡ true → (a ≡ true) × (b ≡ true)
    both true b e = (refl, e)
    both false b e = cc

    verdict_fits : (c : Answer) → fits_verdict c ≡ true → ((context : Context) (payload : List ℕ) → answer_fits (asks.Verify context payload) c ≡ true) × ((round : Round) (payload : List ℕ) → answer_fits (asks.Certify round payload) c ≡ true)
    verdict_fits (answers.Verdict good) e = (λ context payload. refl, λ round payload. refl)
    verdict_fits answers.Closed e = (λ context payload. refl, λ round payload. refl)
    verdict_fits (answers.Payload payload) e = cc
    verdict_fits (answers.Handoff decision) e = cc

    -- the request that takes it
    by_number : (k : ℕ) (request : Asked) → k ≡ number → IsOpen asked dropped k request → answer_fits request answer ≡ true → IsTakenBy asked dropped number answer
    by_number k request n o f = record { request = request; is = subst (λ x. IsOpen asked dropped x request) n o; fits = f }

    by_proposal : (o : Option Pending) → IfSome o (λ p. IsPending asked dropped s.answers p p.state) → option_map_or (λ (p : Pending). p.number == number && fits_proposal p.state answer) o false ≡ true → IsTakenBy asked dropped number answer
    by_proposal None h e = cc
    by_proposal (Some p) h e = (let t = both (p.number == number) (fits_proposal p.state answer) e in by p.state answer refl h (eqb-true p.number number t.0) t.1)
      where
        by : (at : ProposalState) (c : Answer) → answer ≡ c → IsPending asked dropped s.answers p at → p.number ≡ number → fits_proposal at c ≡ true → IsTakenBy asked dropped number answer
        by Preparing (answers.Handoff decision) a i n f = by_number p.number (asks.Prepare p.context) n i (ap (answer_fits (asks.Prepare p.context)) a)
        by Preparing answers.Closed a i n f = by_number p.number (asks.Prepare p.context) n i (ap (answer_fits (asks.Prepare p.context)) a)
        by Preparing (answers.Payload payload) a i n f = cc
        by Preparing (answers.Verdict good) a i n f = cc
        by Proposing (answers.Payload payload) a i n f = by_number p.number (asks.Propose p.context) n i (ap (answer_fits (asks.Propose p.context)) a)
        by Proposing answers.Closed a i n f = by_number p.number (asks.Propose p.context) n i (ap (answer_fits (asks.Propose p.context)) a)
        by Proposing (answers.Handoff decision) a i n f = cc
        by Proposing (answers.Verdict good) a i n f = cc
        by Waiting c a i n f = cc
        by (Held payload) c a i n f = cc
        by Closed c a i n f = cc

    by_verify : (o : Option Opened) → IfSome o (IsVerify asked dropped s.desk.known) → fits_verdict answer ≡ true → option_map_or (λ (v : Opened). v.number == number) o false ≡ true → IsTakenBy asked dropped number answer
    by_verify None h f e = cc
    by_verify (Some v) h f e = by_number v.number (asks.Verify h.context h.payload) (eqb-true v.number number e) h.request ((verdict_fits answer f).0 h.context h.payload)

    by_certify : (cs : List Opened) → Each (IsCertify asked dropped) cs → fits_verdict answer ≡ true → list_any (λ (c : Opened). c.number == number) cs ≡ true → IsTakenBy asked dropped number answer
    by_certify [] h f e = cc
    by_certify (c ∷ cs) h f e = elim (either (c.number == number) (list_any (λ (c : Opened). c.number == number) cs) e) [
      | inl here ↦ (let i = h.0 in by_number c.number (asks.Certify i.round i.payload) (eqb-true c.number number here) i.request ((verdict_fits answer f).1 i.round i.payload))
      | inr later ↦ by_certify cs h.1 f later
    ]

    pub taken_by : takes_answer s number answer ≡ true → IsTakenBy asked dropped number answer
    unfolding takes_answer
    taken_by e =
        let n = r.stands in
        let opened : Bool = option_map_or (λ (v : Opened). v.number == number) s.desk.verify false || list_any (λ (c : Opened). c.number == number) s.desk.certify in
        elim (either (option_map_or (λ (p : Pending). p.number == number && fits_proposal p.state answer) s.desk.proposal false) (fits_verdict answer && opened)
        (both (is_none (answer_to s.answers number)) _ e).1) [
          | inl p ↦ by_proposal s.desk.proposal n.pending p
          | inr v ↦ (let b = both (fits_verdict answer) opened v in elim (either (option_map_or (λ (v : Opened). v.number == number) s.desk.verify false) (list_any (λ (c : Opened). c.number == number) s.desk.certify) b.1) [
            | inl w ↦ by_verify s.desk.verify n.verify b.0 w
            | inr c ↦ by_certify s.desk.certify n.certify b.0 c
          ])
        ]

    fitting_new : takes_answer s number answer ≡ true → IsFitting asked (number, answer)
    fitting_new e = (let t = taken_by e in let o = t.is in record { request = t.request; stands = o.stands; fits = t.fits })

    -- at rest behind an answer, which stands last
    pub answered_ready : takes_answer s number answer ≡ true → IsReady asked dropped (answered number answer s) × ((answered number answer s).answers ≡ s.answers ++ (number, answer) ∷ [])
    unfolding answered
    answered_ready e = at (takes_answer s number answer) e
      where
        new : Standing
        new = record { desk = record s.desk { proposal = option_map (marked_answered number) s.desk.proposal }; answers = s.answers ++ (number, answer) ∷ [] }

        at : (b : Bool) → b ≡ true → IsReady asked dropped (if b then new else s) × ((if b then new else s).answers ≡ s.answers ++ (number, answer) ∷ [])
        at true t =
            let n = r.stands in (
              record {
                quiet = r.quiet;
                still = r.still;
                stands = record {
                  count = n.count;
                  below = n.below;
                  pending = some_marked s.desk.proposal n.pending;
                  verify = n.verify;
                  certify = n.certify;
                  fitting = Each-append (IsFitting asked) s.answers ((number, answer) ∷ []) n.fitting (fitting_new e, tt);
                };
              },
              refl,
            )
        at false t = cc

-- ---- where nothing was asked before

open_floor : (made : Made) (now : ℕ) (floor : Floor) → AllOpen [] [] [] (stand_on made now floor (begun blank_desk))
open_floor made now (floors.Genesis payload) = record { count = refl; below = tt; pending = tt; verify = tt; certify = tt; fitting = tt }
open_floor made now (floors.Finalized f) = record { count = refl; below = tt; pending = tt; verify = tt; certify = tt; fitting = tt }

start_open : (made : Made) (now : ℕ) (floor : Floor) (records : List Artifact) → AllOpen [] [] [] (started made now floor records)
unfolding started
start_open made now floor records =
    let read = replay_all made now (floor_view floor) (stand_on made now floor (begun blank_desk)) records in
    let replayed = hand (handed.Resolver resolver.Replayed) read in
    let kept = keep_floor floor records replayed in
    open_iteration [] [] [] made now (hand (update_message made kept.desk.known None) kept)
    (open_kept_floor [] [] [] floor records replayed
    (open_records [] [] [] made now (floor_view floor) (stand_on made now floor (begun blank_desk)) records (open_floor made now floor)))

-- at rest behind a start
pub start_ready : (made : Made) (now : ℕ) (floor : Floor) (records : List Artifact) → (let d = started made now floor records in IsReady d.desk.asked d.desk.dropped (rest d []))
start_ready made now floor records = record { quiet = refl; still = refl; stands = start_open made now floor records }
