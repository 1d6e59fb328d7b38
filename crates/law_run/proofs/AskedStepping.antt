-- A step, and a start: what is appended was answered, and what is asked is rooted.
use Rattle.std.proofs.Common.{◌≡◌, ℕ, ◌-◌, ◌++◌, not, Bool, true, false, nat_lt, nat_le, List, [], ◌∷◌, Option, Some, None, refl, sym, ap, subst, ◌∙◌, inl, inr, ◌<◌, arith, append-nil, eqb-true, if◌then◌else◌}
use Rattle.std.specs.List.{slice_get, list_any}
use Rattle.std.specs.Prelude.{find}
use Rattle.std.specs.Option.{IfSome, option_map, option_map_or, option_and_then}
use Rattle.simplex_values.specs.declared.answer.Answer.{Answer}
use Rattle.simplex_values.specs.declared.answer.Answer.TheVariants as answers
use Rattle.simplex_values.specs.declared.answer.Handoff.TheVariants as handoffs
use Rattle.simplex_values.specs.declared.plan.Channel.TheVariants as channels
use Rattle.simplex_values.specs.declared.plan.Plan.TheVariants as plans
use Rattle.simplex_values.specs.declared.plan.Recipients.TheVariants as recipients
use Rattle.simplex_values.specs.declared.timeout.TimeoutReason.TheVariants.{LeaderTimeout, MissingProposal, IgnoredProposal, InvalidProposal}
use Rattle.simplex_wire.specs.declared.artifact.Artifact.{Artifact}
use Rattle.simplex_wire.specs.declared.artifact.Artifact.TheVariants as artifacts
use Rattle.simplex_wire.specs.declared.certificate.Certificate.{Certificate}
use Rattle.simplex_wire.specs.declared.certificate.Certificate.TheVariants as certificates
use Rattle.simplex_wire.specs.declared.certificate.Notarization.{Notarization}
use Rattle.simplex_wire.specs.declared.certificate.Nullification.{Nullification}
use Rattle.simplex_wire.specs.declared.certificate.Finalization.{Finalization}
use Rattle.simplex_wire.specs.declared.vote.Notarize.{Notarize}
use Rattle.simplex_wire.specs.declared.vote.Nullify.{Nullify}
use Rattle.simplex_wire.specs.declared.vote.Finalize.{Finalize}
use Rattle.simplex_wire.specs.declared.vote.Vote.{Vote}
use Rattle.simplex_wire.specs.declared.vote.Vote.TheVariants as votes
use Rattle.simplex_wire.specs.Fields.{artifact_round}
use Rattle.simplex_wire.specs.Message as format
use Rattle.simplex_types.specs.declared.activity.Activity.{Activity}
use Rattle.simplex_types.specs.declared.activity.Activity.TheVariants as activities
use Rattle.simplex_types.specs.declared.floor.Floor.{Floor}
use Rattle.simplex_types.specs.declared.floor.Floor.TheVariants as floors
use Rattle.model_rules.specs.declared.request.Asked.{Asked}
use Rattle.model_rules.specs.declared.request.Asked.TheVariants as asks
use Rattle.model_rules.specs.declared.request.ProposalState.{ProposalState}
use Rattle.model_rules.specs.declared.request.ProposalState.TheVariants.{Preparing, Proposing, Waiting, Held, Closed}
use Rattle.model_rules.specs.Lists.{first_of, greatest_of}
use Rattle.model_rules.specs.Known.{Made, Fact, view_of, has_nullified}
use Rattle.model_rules.specs.Views.{last_finalized, current_of, admits_certificate}
use Rattle.model_rules.specs.Slot.{records_answer}
use Rattle.model_rules.specs.Ancestry.{is_certified}
use Rattle.model_rules.specs.Deadline.{deadline_of}
use Rattle.model_rules.specs.Best.{best_certificate, forwardable_at}
use Rattle.model_rules.specs.Requests.{verify_asked}
use Rattle.model_rules.specs.Votes.{notarize_at, nullify_at, finalize_at}
use Rattle.model_rules.specs.Calls as state
use Rattle.model_rules.specs.Calls.{facts_of, replay_answer, certified_answer, unsent_notarization, unsent_nullification, unsent_finalization, prune_answer}
use Rattle.model_rules.specs.Pending.{Desk, Pending, Opened, pending_view, pending_parent, reconciled, iterated}
use Rattle.simplex_types.specs.declared.cause.BlockCause.TheVariants.{LeaderConflict}
use Rattle.simplex_messages.specs.declared.call.Call.{Call}
use Rattle.simplex_messages.specs.declared.call.Call.TheVariants as calls
use Rattle.simplex_messages.specs.declared.handed.Handed.TheVariants as handed
use Rattle.simplex_messages.specs.declared.resolver.MailboxMessage.TheVariants as resolver
use Rattle.simplex_messages.specs.declared.voter.Message.{Message}
use Rattle.simplex_messages.specs.declared.voter.Message.TheVariants as mail
use Rattle.simplex_messages.specs.declared.voter.VoterInput.{VoterInput}
use Rattle.simplex_messages.specs.declared.voter.VoterInput.TheVariants as inputs
use Rattle.model_steps.specs.Desk.{Doing, begun, tell, make, hand, append, seek, send_vote, send_certificate, report}
use Rattle.model_steps.specs.Voter.{Standing, answer_to, is_of, settle_proposal, proposal_stands, propose, stage, give_up, act_on_deadline, act_on_proposal, act_on_verify, settle_certify, take_verdict, act_on_certify, record_of, adds, adding, block_for, certificate_view, act_on_certificate, act_on_mail, vote_notarize, vote_finalize, open_requests, sync, publish_verdict, publish_nullify, publish_notarization, publish_nullification, publish_finalization, update_message, update_batcher, with_certificate, end_of_step, prune_at, prune, begin_iteration, finished, take_proposal, first_answered, acted, stepped, activity_of, certificate_in, report_if, updated_if, replay_verdict, replay_record, replay_all, floor_view, stand_on, is_final_from, keep_floor, blank_desk, started}
use Rattle.law_run.specs.Sayings.{Each}
use Rattle.law_run.proofs.Speaking.{Each-append}
use Rattle.law_run.proofs.Telling.{some_is, gives}
use Rattle.law_run.specs.Answers.{vouched_in}
use Rattle.law_run.proofs.Knowing.{ToldFrom, notarize_from}
use Rattle.law_run.proofs.Asking as asking

-- an own notarize that is appended is of such a payload
abbrev pub RecordFrom : (List ℕ → Type 0) → Artifact → Type 0
RecordFrom P (artifacts.Notarize v) = P v.proposal.payload
RecordFrom P _ = Unit {0}

abbrev pub CallFrom : (List ℕ → Type 0) → Call → Type 0
CallFrom P (calls.Append section artifact) = RecordFrom P artifact
CallFrom P _ = Unit {0}

module _ (P : List ℕ → Type 0) (genesis : List ℕ) (earlier : List Asked) where
  abbrev pub IsDesk : Desk → Type 0
  IsDesk desk = asking.IsSound P genesis earlier desk.known desk.proposal desk.verify desk.asked desk.opened

  -- what a step has done so far
  pub record IsFine (cs : List Call) (known : List Fact) (pending : Option Pending) (verify : Option Opened) (asked : List Asked) (opened : ℕ) : Type 0 where
    pub calls : Each (CallFrom P) cs
    pub desk : asking.IsSound P genesis earlier known pending verify asked opened

  abbrev pub AllFine : Doing → Type 0
  AllFine d = IsFine d.calls d.desk.known d.desk.proposal d.desk.verify d.desk.asked d.desk.opened

  fine_call : (c : Call) (d : Doing) → CallFrom P c → AllFine d → AllFine (make c d)
  fine_call c d n a = record { calls = Each-append (CallFrom P) d.calls (c ∷ []) a.calls (n, tt); desk = a.desk }

  fine_append : (r : Artifact) (d : Doing) → RecordFrom P r → AllFine d → AllFine (append r d)
  fine_append r d n a = record { calls = Each-append (CallFrom P) d.calls (calls.Append (artifact_round r).view r ∷ []) a.calls (n, tt); desk = a.desk }

  fine_tell : (made : Made) (call : state.Call) (d : Doing) → ToldFrom P d.desk.known call → AllFine d → AllFine (tell made call d)
  fine_tell made call d t a = record { calls = a.calls; desk = asking.tells P genesis earlier made call d.desk t a.desk }

  fine_vote : (v : Vote) (d : Doing) → AllFine d → AllFine (send_vote v d)
  fine_vote v d a = fine_call (calls.Send channels.Vote recipients.All (format.vote.spelling v)) d tt a

  fine_desk : (cs : List Call) (desk : Desk) → Each (CallFrom P) cs → IsDesk desk → IsFine cs desk.known desk.proposal desk.verify desk.asked desk.opened
  fine_desk cs desk c n = record { calls = c; desk = n }

  -- ---- the end of a step

  fine_notarize : (made : Made) (view : ℕ) (d : Doing) → AllFine d → AllFine (vote_notarize made view d)
  unfolding vote_notarize
  fine_notarize made view d a = at (notarize_at made d.desk.known view) (notarize_from P made d.desk.known view (let k = a.desk in k.facts))
    where
      told_so : AllFine (tell made (state.ConstructNotarize view) d)
      told_so = fine_tell made (state.ConstructNotarize view) d tt a

      at : (o : Option Notarize) → IfSome o (λ v. P v.proposal.payload)
          → AllFine (option_map_or (λ n. append (artifacts.Notarize n) (tell made (state.ConstructNotarize view) d)) o (tell made (state.ConstructNotarize view) d))
      at None n = told_so
      at (Some v) n = fine_append (artifacts.Notarize v) (tell made (state.ConstructNotarize view) d) n told_so

  fine_finalize : (made : Made) (view : ℕ) (d : Doing) → AllFine d → AllFine (vote_finalize made view d)
  unfolding vote_finalize
  fine_finalize made view d a = at (finalize_at made d.desk.known view)
    where
      told_so : AllFine (tell made (state.ConstructFinalize view) d)
      told_so = fine_tell made (state.ConstructFinalize view) d tt a

      at : (o : Option Finalize) → AllFine (option_map_or (λ n. append (artifacts.Finalize n) (tell made (state.ConstructFinalize view) d)) o (tell made (state.ConstructFinalize view) d))
      at None = told_so
      at (Some v) = fine_append (artifacts.Finalize v) (tell made (state.ConstructFinalize view) d) tt told_so

  fine_requests : (made : Made) (now : ℕ) (d : Doing) → made.genesis ≡ genesis → AllFine d → AllFine (open_requests made now d)
  unfolding open_requests
  fine_requests made now d g a = fine_desk d.calls (reconciled made now d.desk) a.calls (asking.desk_reconciled P genesis earlier made now d.desk g a.desk)

  fine_sync : (view : ℕ) (d : Doing) → AllFine d → AllFine (sync view d)
  fine_sync view d a = at d.wrote
    where
      at : (b : Bool) → AllFine (if b then make (calls.Sync view) d else d)
      at true = fine_call (calls.Sync view) d tt a
      at false = a

  fine_verdict : (d : Doing) → AllFine d → AllFine (publish_verdict d)
  unfolding publish_verdict
  fine_verdict d a = at d.verdict
    where
      one : (n : Notarization) (good b : Bool) → (let told = hand (handed.Resolver (resolver.Certified n good)) d in AllFine (if b then report (activities.Certification n) told else told))
      one n good true = fine_call (calls.Report (activities.Certification n)) (hand (handed.Resolver (resolver.Certified n good)) d) tt a
      one n good false = a

      at : (o : Option (Notarization × Bool)) → AllFine (option_map_or (λ v.
          let told = hand (handed.Resolver (resolver.Certified v.0 v.1)) d in
          if v.1 then report (activities.Certification v.0) told else told) o d)
      at None = a
      at (Some v) = one v.0 v.1 v.1

  fine_option : (o : Option Certificate) (d : Doing) → AllFine d → AllFine (with_certificate o d)
  fine_option None d a = a
  fine_option (Some c) d a = fine_call (calls.Send channels.Certificate recipients.All (format.certificate.spelling c)) d tt a

  fine_nullify : (d : Doing) → AllFine d → AllFine (publish_nullify d)
  unfolding publish_nullify
  fine_nullify d a = at d.nullify
    where
      at : (o : Option (Nullify × Option Certificate)) → AllFine (option_map_or (λ n. with_certificate n.1 (send_vote (votes.Nullify n.0) d)) o d)
      at None = a
      at (Some x) = fine_option x.1 (send_vote (votes.Nullify x.0) d) (fine_vote (votes.Nullify x.0) d a)

  fine_option_notarize : (o : Option Notarize) (d : Doing) → AllFine d → AllFine (option_map_or (λ n. send_vote (votes.Notarize n) d) o d)
  fine_option_notarize None d a = a
  fine_option_notarize (Some v) d a = fine_vote (votes.Notarize v) d a

  fine_option_finalize : (o : Option Finalize) (d : Doing) → AllFine d → AllFine (option_map_or (λ n. send_vote (votes.Finalize n) d) o d)
  fine_option_finalize None d a = a
  fine_option_finalize (Some v) d a = fine_vote (votes.Finalize v) d a

  fine_shown : (c : Certificate) (r : Activity) (d : Doing) → AllFine d → AllFine (report r (send_certificate c d))
  fine_shown c r d a = fine_call (calls.Report r) (send_certificate c d) tt (fine_call (calls.Send channels.Certificate recipients.All (format.certificate.spelling c)) d tt a)

  fine_notarization : (made : Made) (view : ℕ) (d : Doing) → AllFine d → AllFine (publish_notarization made view d)
  unfolding publish_notarization
  fine_notarization made view d a = at (unsent_notarization d.desk.known view)
    where
      told_so : AllFine (tell made (state.BroadcastNotarization view) d)
      told_so = fine_tell made (state.BroadcastNotarization view) d tt a

      at : (o : Option Notarization) → AllFine (option_map_or (λ n. report (activities.Notarization n) (send_certificate (certificates.Notarization n) (tell made (state.BroadcastNotarization view) d))) o (tell made (state.BroadcastNotarization view) d))
      at None = told_so
      at (Some n) = fine_shown (certificates.Notarization n) (activities.Notarization n) (tell made (state.BroadcastNotarization view) d) told_so

  fine_nullification : (made : Made) (view : ℕ) (d : Doing) → AllFine d → AllFine (publish_nullification made view d)
  unfolding publish_nullification
  fine_nullification made view d a = at (unsent_nullification d.desk.known view)
    where
      told_so : AllFine (tell made (state.BroadcastNullification view) d)
      told_so = fine_tell made (state.BroadcastNullification view) d tt a

      at : (o : Option Nullification) → AllFine (option_map_or (λ n. report (activities.Nullification n) (send_certificate (certificates.Nullification n) (tell made (state.BroadcastNullification view) d))) o (tell made (state.BroadcastNullification view) d))
      at None = told_so
      at (Some n) = fine_shown (certificates.Nullification n) (activities.Nullification n) (tell made (state.BroadcastNullification view) d) told_so

  fine_finalization : (made : Made) (view : ℕ) (d : Doing) → AllFine d → AllFine (publish_finalization made view d)
  unfolding publish_finalization
  fine_finalization made view d a = at (unsent_finalization d.desk.known view)
    where
      told_so : AllFine (tell made (state.BroadcastFinalization view) d)
      told_so = fine_tell made (state.BroadcastFinalization view) d tt a

      at : (o : Option Finalization) → AllFine (option_map_or (λ n. report (activities.Finalization n) (send_certificate (certificates.Finalization n) (tell made (state.BroadcastFinalization view) d))) o (tell made (state.BroadcastFinalization view) d))
      at None = told_so
      at (Some n) = fine_shown (certificates.Finalization n) (activities.Finalization n) (tell made (state.BroadcastFinalization view) d) told_so

  fine_update : (made : Made) (before : ℕ) (d : Doing) → AllFine d → AllFine (update_batcher made before d)
  unfolding update_batcher
  fine_update made before d a = at (nat_lt before (current_of made d.desk.known))
    where
      at : (b : Bool) → AllFine (if b then hand (update_message made d.desk.known (forwardable_at d.desk.known (current_of made d.desk.known - 1))) d else d)
      at true = a
      at false = a

  fine_end : (made : Made) (now before view : ℕ) (d : Doing) → made.genesis ≡ genesis → AllFine d → AllFine (end_of_step made now before view d)
  unfolding end_of_step
  fine_end made now before view d g a =
      let notarize = notarize_at made d.desk.known view in
      let voted = vote_notarize made view d in
      let finalize = finalize_at made voted.desk.known view in
      let finalized = vote_finalize made view voted in
      let opened = sync view (open_requests made now finalized) in
      let first = publish_nullify (publish_verdict opened) in
      let second = option_map_or (λ n. send_vote (votes.Notarize n) first) notarize first in
      let third = publish_notarization made view second in
      let fourth = publish_nullification made view third in
      let fifth = option_map_or (λ f. send_vote (votes.Finalize f) fourth) finalize fourth in
      let sixth = publish_finalization made view fifth in
      fine_update made before sixth
      (fine_finalization made view fifth
      (fine_option_finalize finalize fourth
      (fine_nullification made view third
      (fine_notarization made view second
      (fine_option_notarize notarize first
      (fine_nullify (publish_verdict opened)
      (fine_verdict opened
      (fine_sync view (open_requests made now finalized)
      (fine_requests made now finalized g (fine_finalize made view voted (fine_notarize made view d a)))))))))))

  fine_iteration : (made : Made) (now : ℕ) (d : Doing) → made.genesis ≡ genesis → AllFine d → AllFine (begin_iteration made now d)
  unfolding begin_iteration prune
  fine_iteration made now d g a =
      let begun = seek (record d { desk = iterated made now d.desk }) in
      at begun (fine_desk d.calls (iterated made now d.desk) a.calls (asking.desk_iterated P genesis earlier made now d.desk g a.desk)) (prune_answer made begun.desk.known)
    where
      at : (b : Doing) → AllFine b → (o : Option ℕ) → AllFine (prune_at o (tell made state.Prune b))
      at b n None = fine_tell made state.Prune b tt n
      at b n (Some least) = fine_call (calls.Prune least) (tell made state.Prune b) tt (fine_tell made state.Prune b tt n)

  -- ---- acting

  -- an answer that waits stands for such a payload
  pub record IsGood (given : ℕ × Answer) : Type 0 where
    pub asked : Asked
    pub is : slice_get earlier given.0 ≡ Some asked
    pub good : (payload : List ℕ) → vouched_in (Some asked) given.1 ≡ Some payload → P payload

  good_answer : (given : List (ℕ × Answer)) (number : ℕ) (answer : Answer) → Each IsGood given → answer_to given number ≡ Some answer → IsGood (number, answer)
  good_answer [] number answer g e = cc
  good_answer (x ∷ rest) number answer g e = at (is_of number x) refl (good_answer rest number answer g.1) e
    where
      at : (b : Bool) → is_of number x ≡ b → (answer_to rest number ≡ Some answer → IsGood (number, answer)) → option_map (λ (y : ℕ × Answer). y.1) (if b then Some x else find (is_of number) rest) ≡ Some answer → IsGood (number, answer)
      at true h later k =
          let n : x.0 ≡ number = eqb-true x.0 number h in
          let a : x.1 ≡ answer = cc in
          record { asked = g.0.asked; is = ap (slice_get earlier) (sym n) ∙ g.0.is; good = λ payload v. g.0.good payload (ap (vouched_in (Some g.0.asked)) a ∙ v) }
      at false h later k = later k

  fine_settled : (d : Doing) → AllFine d → AllFine (settle_proposal d)
  fine_settled d a = record { calls = a.calls; desk = asking.settled P genesis earlier d.desk.known d.desk.proposal None d.desk.verify d.desk.asked d.desk.opened tt a.desk }

  fine_stands : (p : Pending) (s : ProposalState) (d : Doing) → asking.StateFrom P genesis earlier s → AllFine d → AllFine (proposal_stands p s d)
  fine_stands p s d n a = record { calls = a.calls; desk = asking.settled P genesis earlier d.desk.known d.desk.proposal (Some (record p { state = s; is_answered = false })) d.desk.verify d.desk.asked d.desk.opened n a.desk }

  fine_propose : (made : Made) (p : Pending) (payload : List ℕ) (d : Doing) → P payload → AllFine d → AllFine (propose made p payload d).0
  unfolding propose
  fine_propose made p payload d n a = at (records_answer made d.desk.known (pending_view p))
    where
      told_so : AllFine (settle_proposal (tell made (state.Proposed p.context payload) d))
      told_so = fine_settled (tell made (state.Proposed p.context payload) d) (fine_tell made (state.Proposed p.context payload) d n a)

      pair : Bool → Doing × Option ℕ
      pair t =
          let told = settle_proposal (tell made (state.Proposed p.context payload) d) in
          if t then (make (calls.Relay payload (plans.Propose p.context.round)) told, Some (pending_view p)) else (told, None)

      at : (t : Bool) → AllFine (pair t).0
      at true = fine_call (calls.Relay payload (plans.Propose p.context.round)) (settle_proposal (tell made (state.Proposed p.context payload) d)) tt told_so
      at false = told_so

  fine_stage : (made : Made) (p : Pending) (payload : List ℕ) (d : Doing) → P payload → AllFine d → AllFine (stage made p payload d).0
  unfolding stage
  fine_stage made p payload d n a = at (is_certified d.desk.known (pending_parent p))
    where
      pair : Bool → Doing × Option ℕ
      pair t = if t then propose made p payload d else (proposal_stands p (Held payload) (make (calls.Relay payload (plans.Prepare p.context.round)) d), None)

      at : (t : Bool) → AllFine (pair t).0
      at true = fine_propose made p payload d n a
      at false = fine_stands p (Held payload) (make (calls.Relay payload (plans.Prepare p.context.round)) d) n (fine_call (calls.Relay payload (plans.Prepare p.context.round)) d tt a)

  fine_given_up : (made : Made) (now : ℕ) (p : Pending) (s : ProposalState) (d : Doing) → AllFine d → AllFine (give_up made now p s d).0
  unfolding give_up
  fine_given_up made now p Preparing d a = fine_stands p Closed d tt a
  fine_given_up made now p _ d a =
      fine_settled (tell made (state.TriggerTimeout (pending_view p) MissingProposal now) d) (fine_tell made (state.TriggerTimeout (pending_view p) MissingProposal now) d tt a)

  fine_proposal : (made : Made) (now : ℕ) (p : Pending) (number : ℕ) (answer : Answer) (d : Doing) → IsGood (number, answer) → AllFine d → AllFine (act_on_proposal made now p answer d).0
  unfolding act_on_proposal
  fine_proposal made now p number (answers.Payload payload) d g a = fine_propose made p payload d (g.good payload refl) a
  fine_proposal made now p number (answers.Handoff handoffs.Wait) d g a = fine_stands p Waiting d tt a
  fine_proposal made now p number (answers.Handoff (handoffs.Stage payload)) d g a = fine_stage made p payload d (g.good payload refl) a
  fine_proposal made now p number (answers.Handoff (handoffs.Vote payload)) d g a = fine_propose made p payload d (g.good payload refl) a
  fine_proposal made now p number (answers.Verdict good) d g a = a
  fine_proposal made now p number answers.Closed d g a = fine_given_up made now p p.state d a

  unverified : (d : Doing) → AllFine d → IsFine d.calls d.desk.known d.desk.proposal None d.desk.asked d.desk.opened
  unverified d a = record { calls = a.calls; desk = asking.unverified P genesis earlier d.desk.known d.desk.proposal d.desk.verify d.desk.asked d.desk.opened a.desk }

  -- a good verdict is on the payload that was asked
  approved : (known : List Fact) (v : Opened) → asking.IsAsked P genesis earlier known [] v → IsGood (v.number, answers.Verdict true) → IfSome (verify_asked known v.view) (λ p. P p.payload)
  approved known v asked g =
      let there : slice_get earlier v.number ≡ Some (asks.Verify asked.context asked.proposal.payload) = ap (λ (xs : List Asked). slice_get xs v.number) (sym (append-nil earlier)) ∙ asked.asks in
      let same : Some g.asked ≡ Some (asks.Verify asked.context asked.proposal.payload) = sym g.is ∙ there in
      let p : P asked.proposal.payload = g.good asked.proposal.payload (ap (λ o. vouched_in o (answers.Verdict true)) same) in
      subst (λ o. IfSome o (λ q. P q.payload)) (sym asked.known_so) p

  fine_verify : (made : Made) (now : ℕ) (s : Standing) (v : Opened) (answer : Answer) → s.desk.asked ≡ [] → s.desk.verify ≡ Some v → IsGood (v.number, answer) → AllFine (begun s.desk)
      → AllFine (act_on_verify made now v answer (begun s.desk)).0
  unfolding act_on_verify
  fine_verify made now s v (answers.Verdict true) none e g a =
      let n = a.desk in
      let asked : asking.IsAsked P genesis earlier s.desk.known s.desk.asked v = subst (λ o. IfSome o (asking.IsAsked P genesis earlier s.desk.known s.desk.asked)) e n.given in
      fine_tell made (state.Verified v.view) (record (begun s.desk) { desk = record s.desk { verify = None } })
      (approved s.desk.known v (subst (λ xs. asking.IsAsked P genesis earlier s.desk.known xs v) none asked) g) (unverified (begun s.desk) a)
  fine_verify made now s v (answers.Verdict false) none e g a =
      fine_tell made (state.VerificationFailed v.view InvalidProposal now) (record (begun s.desk) { desk = record s.desk { verify = None } }) tt (unverified (begun s.desk) a)
  fine_verify made now s v _ none e g a =
      fine_tell made (state.VerificationFailed v.view IgnoredProposal now) (record (begun s.desk) { desk = record s.desk { verify = None } }) tt (unverified (begun s.desk) a)

  fine_taken_verdict : (made : Made) (view : ℕ) (good : Bool) (o : Option Notarization) (d : Doing) → AllFine d → AllFine (take_verdict made view good o d).0
  fine_taken_verdict made view good None d a = a
  fine_taken_verdict made view good (Some n) d a = fine_append (artifacts.Certification n.proposal.round good) d tt a

  fine_certify : (made : Made) (now : ℕ) (c : Opened) (answer : Answer) (d : Doing) → AllFine d → AllFine (act_on_certify made now c answer d).0
  unfolding act_on_certify
  fine_certify made now c (answers.Verdict good) d a =
      fine_taken_verdict made c.view good (certified_answer d.desk.known c.view) (tell made (state.Certified c.view good now) (settle_certify c.number d))
      (fine_tell made (state.Certified c.view good now) (settle_certify c.number d) tt a)
  fine_certify made now c _ d a = a

  -- ---- a certificate

  plain_record : (c : Certificate) → RecordFrom P (record_of c)
  plain_record (certificates.Notarization n) = tt
  plain_record (certificates.Nullification n) = tt
  plain_record (certificates.Finalization n) = tt

  plain_adding : (known : List Fact) (c : Certificate) (now : ℕ) → ToldFrom P known (adding c now)
  plain_adding known (certificates.Notarization n) now = tt
  plain_adding known (certificates.Nullification n) now = tt
  plain_adding known (certificates.Finalization n) now = tt

  fine_blocked : (o : Option ℕ) (d : Doing) → AllFine d → AllFine (block_for o d)
  fine_blocked None d a = a
  fine_blocked (Some leader) d a = fine_call (calls.Block leader LeaderConflict) d tt a

  fine_certificate : (made : Made) (now : ℕ) (c : Certificate) (d : Doing) → AllFine d → AllFine (act_on_certificate made now c d).0
  unfolding act_on_certificate
  fine_certificate made now c d a = at (not (admits_certificate made d.desk.known (certificate_view c))) (adds made d.desk.known c)
    where
      told_so : AllFine (tell made (adding c now) d)
      told_so = fine_tell made (adding c now) d (plain_adding d.desk.known c now) a

      pair : Bool → Bool → Doing × Option ℕ
      pair past new =
          let known = d.desk.known in
          let told = tell made (adding c now) d in
          if past then (told, None)
          else if new
          then (
            hand (handed.Resolver (resolver.Updated c))
                (block_for (replay_answer made known (record_of c))
                (append (record_of c) (record told { added = d.added ++ c ∷ [] }))),
            Some (certificate_view c),
          )
          else (told, Some (certificate_view c))

      at : (past new : Bool) → AllFine (pair past new).0
      at true new = told_so
      at false false = told_so
      at false true =
          let x = record (tell made (adding c now) d) { added = d.added ++ c ∷ [] } in
          fine_blocked (replay_answer made d.desk.known (record_of c)) (append (record_of c) x) (fine_append (record_of c) x (plain_record c) told_so)

  fine_mail : (made : Made) (now : ℕ) (message : Message) (d : Doing) → AllFine d → AllFine (act_on_mail made now message d).0
  unfolding act_on_mail
  fine_mail made now (mail.Proposal proposal) d a = fine_tell made (state.SetProposal (view_of proposal) proposal) d tt a
  fine_mail made now (mail.Timeout round reason) d a = fine_tell made (state.TriggerTimeout round.view reason now) d tt a
  fine_mail made now (mail.Verified c) d a = fine_certificate made now c d a

  -- ---- the deadline

  fine_deadline : (made : Made) (now : ℕ) (d : Doing) → AllFine d → AllFine (act_on_deadline made now d)
  unfolding act_on_deadline
  fine_deadline made now d a = at (nullify_at made (current_of made d.desk.known))
    where
      told_so : AllFine (tell made (state.ConstructNullify (current_of made d.desk.known) LeaderTimeout now) d)
      told_so = fine_tell made (state.ConstructNullify (current_of made d.desk.known) LeaderTimeout now) d tt a

      one : (n : Nullify) (t : Bool)
          → AllFine (if t
          then record (tell made (state.ConstructNullify (current_of made d.desk.known) LeaderTimeout now) d) { nullify = Some (n, best_certificate made d.desk.known) }
          else record (append (artifacts.Nullify n) (tell made (state.ConstructNullify (current_of made d.desk.known) LeaderTimeout now) d)) { nullify = Some (n, None) })
      one n true = told_so
      one n false = fine_append (artifacts.Nullify n) (tell made (state.ConstructNullify (current_of made d.desk.known) LeaderTimeout now) d) tt told_so

      at : (o : Option Nullify) → AllFine (option_map_or (λ n.
          if has_nullified d.desk.known (current_of made d.desk.known)
          then record (tell made (state.ConstructNullify (current_of made d.desk.known) LeaderTimeout now) d) { nullify = Some (n, best_certificate made d.desk.known) }
          else record (append (artifacts.Nullify n) (tell made (state.ConstructNullify (current_of made d.desk.known) LeaderTimeout now) d)) { nullify = Some (n, None) })
          o d)
      at None = a
      at (Some n) = one n (has_nullified d.desk.known (current_of made d.desk.known))

  -- ---- a step

  -- a voter between two steps: its desk, which asks nothing yet, and its answers
  pub record IsReady (s : Standing) : Type 0 where
    pub quiet : s.desk.asked ≡ []
    pub desk : IsDesk s.desk
    pub answers : Each IsGood s.answers

  fine_nothing : (s : Standing) → IsReady s → AllFine (begun s.desk)
  fine_nothing s r = record { calls = tt; desk = r.desk }

  fine_answer : (made : Made) (now : ℕ) (s : Standing) (p : Pending) (outcome : Doing × Option ℕ) (o : Option Answer) → IsReady s → answer_to s.answers p.number ≡ o
      → option_map (λ answer. act_on_proposal made now p answer (begun s.desk)) o ≡ Some outcome → AllFine outcome.0
  fine_answer made now s p outcome None r h e = cc
  fine_answer made now s p outcome (Some answer) r h e =
      subst (λ (o : Doing × Option ℕ). AllFine o.0) (some_is _ outcome e)
      (fine_proposal made now p p.number answer (begun s.desk) (good_answer s.answers p.number answer r.answers h) (fine_nothing s r))

  fine_taken : (made : Made) (now : ℕ) (s : Standing) (p : Pending) (at : ProposalState) (outcome : Doing × Option ℕ) → asking.StateFrom P genesis earlier at → IsReady s
      → take_proposal made now s p at ≡ Some outcome → AllFine outcome.0
  fine_taken made now s p (Held payload) outcome n r e = held (is_certified s.desk.known (pending_parent p)) e
    where
      held : (t : Bool) → (if t then Some (propose made p payload (begun s.desk)) else None) ≡ Some outcome → AllFine outcome.0
      held true h = subst (λ (o : Doing × Option ℕ). AllFine o.0) (some_is _ outcome h) (fine_propose made p payload (begun s.desk) n (fine_nothing s r))
      held false h = cc
  fine_taken made now s p Preparing outcome n r e = fine_answer made now s p outcome (answer_to s.answers p.number) r refl e
  fine_taken made now s p Proposing outcome n r e = fine_answer made now s p outcome (answer_to s.answers p.number) r refl e
  fine_taken made now s p Waiting outcome n r e = cc
  fine_taken made now s p Closed outcome n r e = cc

  fine_pending : (made : Made) (now : ℕ) (s : Standing) (outcome : Doing × Option ℕ) (o : Option Pending) → asking.PendingFrom P genesis earlier o → IsReady s
      → option_and_then (λ (p : Pending). take_proposal made now s p p.state) o ≡ Some outcome → AllFine outcome.0
  fine_pending made now s outcome None n r e = cc
  fine_pending made now s outcome (Some p) n r e = fine_taken made now s p p.state outcome n r e

  fine_opened : (made : Made) (now : ℕ) (s : Standing) (outcome : Doing × Option ℕ) (o : Option Opened) → s.desk.verify ≡ o → IsReady s
      → option_and_then (λ (v : Opened). option_map (λ answer. act_on_verify made now v answer (begun s.desk)) (answer_to s.answers v.number)) o ≡ Some outcome → AllFine outcome.0
  fine_opened made now s outcome None f r e = cc
  fine_opened made now s outcome (Some v) f r e = at (answer_to s.answers v.number) refl e
    where
      at : (o : Option Answer) → answer_to s.answers v.number ≡ o → option_map (λ answer. act_on_verify made now v answer (begun s.desk)) o ≡ Some outcome → AllFine outcome.0
      at None h k = cc
      at (Some answer) h k =
          subst (λ (o : Doing × Option ℕ). AllFine o.0) (some_is _ outcome k)
          (fine_verify made now s v answer r.quiet f (good_answer s.answers v.number answer r.answers h) (fine_nothing s r))

  fine_acted : (made : Made) (now : ℕ) (s : Standing) (input : VoterInput) (outcome : Doing × Option ℕ) → IsReady s → acted made now s input ≡ Some outcome → AllFine outcome.0
  unfolding acted
  fine_acted made now s (inputs.Mail message) outcome r e =
      subst (λ (o : Doing × Option ℕ). AllFine o.0) (some_is _ outcome e) (fine_mail made now message (begun s.desk) (fine_nothing s r))
  fine_acted made now s inputs.Timer outcome r e = due (nat_le (deadline_of made s.desk.known).0 now) e
    where
      due : (t : Bool) → (if t then Some (act_on_deadline made now (begun s.desk), Some (current_of made s.desk.known)) else None) ≡ Some outcome → AllFine outcome.0
      due true h = subst (λ (o : Doing × Option ℕ). AllFine o.0) (some_is _ outcome h) (fine_deadline made now (begun s.desk) (fine_nothing s r))
      due false h = cc
  fine_acted made now s inputs.Propose outcome r e = fine_pending made now s outcome s.desk.proposal (let n = r.desk in n.held) r e
  fine_acted made now s inputs.Verify outcome r e = fine_opened made now s outcome s.desk.verify refl r e
  fine_acted made now s inputs.Certify outcome r e =
      gives (λ (o : Doing × Option ℕ). AllFine o.0) (λ (taken : Opened × Answer). act_on_certify made now taken.0 taken.1 (begun s.desk)) (first_answered s.desk.certify s.answers) outcome
      (λ taken. fine_certify made now taken.0 taken.1 (begun s.desk) (fine_nothing s r)) e

  fine_finished : (made : Made) (now before : ℕ) (outcome : Doing × Option ℕ) → made.genesis ≡ genesis → AllFine outcome.0 → AllFine (finished made now before outcome)
  unfolding finished
  fine_finished made now before (d, None) g a = fine_iteration made now d g a
  fine_finished made now before (d, Some view) g a = fine_iteration made now (end_of_step made now before view d) g (fine_end made now before view d g a)

  pub step_fine : (made : Made) (now : ℕ) (s : Standing) (input : VoterInput) (d : Doing) → made.genesis ≡ genesis → IsReady s → stepped made now s input ≡ Some d → AllFine d
  unfolding stepped
  step_fine made now s input d g r e = at (acted made now s input) refl e
    where
      at : (o : Option (Doing × Option ℕ)) → acted made now s input ≡ o → option_map (finished made now (current_of made s.desk.known)) o ≡ Some d → AllFine d
      at None f h = cc
      at (Some outcome) f h =
          subst AllFine (some_is _ d h) (fine_finished made now (current_of made s.desk.known) outcome g (fine_acted made now s input outcome r f))

  -- ---- a start

  fine_reported : (o : Option Activity) (d : Doing) → AllFine d → AllFine (report_if o d)
  fine_reported None d a = a
  fine_reported (Some r) d a = fine_call (calls.Report r) d tt a

  fine_updated : (o : Option Certificate) (d : Doing) → AllFine d → AllFine (updated_if o d)
  fine_updated None d a = a
  fine_updated (Some c) d a = a

  fine_kept_verdict : (good : Bool) (o : Option Notarization) (d : Doing) → AllFine d → AllFine (replay_verdict good o d)
  fine_kept_verdict good None d a = a
  fine_kept_verdict true (Some n) d a = fine_call (calls.Report (activities.Certification n)) d tt a
  fine_kept_verdict false (Some n) d a = a

  fine_plain_record : (made : Made) (now : ℕ) (d : Doing) (r : Artifact) → AllFine d
      → AllFine (updated_if (certificate_in r) (report_if (activity_of r) (block_for (replay_answer made d.desk.known r) (tell made (state.Replay r now) d))))
  fine_plain_record made now d r a =
      let told = tell made (state.Replay r now) d in
      let blocked = block_for (replay_answer made d.desk.known r) told in
      fine_updated (certificate_in r) (report_if (activity_of r) blocked)
      (fine_reported (activity_of r) blocked (fine_blocked (replay_answer made d.desk.known r) told (fine_tell made (state.Replay r now) d tt a)))

  fine_replay : (made : Made) (now : ℕ) (d : Doing) (r : Artifact) → AllFine d → AllFine (replay_record made now d r)
  unfolding replay_record
  fine_replay made now d (artifacts.Certification r good) a =
      fine_kept_verdict good (certified_answer d.desk.known r.view) (tell made (state.Replay (artifacts.Certification r good) now) d) (fine_tell made (state.Replay (artifacts.Certification r good) now) d tt a)
  fine_replay made now d (artifacts.Notarize v) a = fine_plain_record made now d (artifacts.Notarize v) a
  fine_replay made now d (artifacts.Nullify v) a = fine_plain_record made now d (artifacts.Nullify v) a
  fine_replay made now d (artifacts.Finalize v) a = fine_plain_record made now d (artifacts.Finalize v) a
  fine_replay made now d (artifacts.Notarization v) a = fine_plain_record made now d (artifacts.Notarization v) a
  fine_replay made now d (artifacts.Nullification v) a = fine_plain_record made now d (artifacts.Nullification v) a
  fine_replay made now d (artifacts.Finalization v) a = fine_plain_record made now d (artifacts.Finalization v) a

  fine_records : (made : Made) (now floor : ℕ) (d : Doing) (rs : List Artifact) → AllFine d → AllFine (replay_all made now floor d rs)
  unfolding replay_all
  fine_records made now floor d [] a = a
  fine_records made now floor d (r ∷ rest) a =
      fine_records made now floor (if nat_lt floor (artifact_round r).view then replay_record made now d r else d) rest (at (nat_lt floor (artifact_round r).view))
    where
      at : (b : Bool) → AllFine (if b then replay_record made now d r else d)
      at true = fine_replay made now d r a
      at false = a

  fine_kept_floor : (floor : Floor) (records : List Artifact) (d : Doing) → AllFine d → AllFine (keep_floor floor records d)
  fine_kept_floor (floors.Genesis payload) records d a = a
  fine_kept_floor (floors.Finalized f) records d a = at (list_any (is_final_from (view_of f.proposal)) records)
    where
      at : (b : Bool) → AllFine (if b then d else make (calls.Sync (view_of f.proposal)) (append (artifacts.Finalization f) d))
      at true = a
      at false = fine_call (calls.Sync (view_of f.proposal)) (append (artifacts.Finalization f) d) tt (fine_append (artifacts.Finalization f) d tt a)

-- ---- where nothing was asked before

-- the start is at the genesis digest, or above view 0
abbrev pub FloorStands : List ℕ → Floor → Type 0
FloorStands genesis (floors.Genesis payload) = payload ≡ genesis
FloorStands genesis (floors.Finalized f) = 0 < view_of f.proposal

fine_floor : (P : List ℕ → Type 0) (genesis : List ℕ) (made : Made) (now : ℕ) (floor : Floor) → FloorStands genesis floor → AllFine P genesis [] (stand_on made now floor (begun blank_desk))
unfolding facts_of first_of last_finalized greatest_of
fine_floor P genesis made now (floors.Genesis payload) n =
    record { calls = tt; desk = record { facts = (tt, tt); stands = inl (ap Some n); held = tt; given = tt; rooted = tt; count = refl } }
fine_floor P genesis made now (floors.Finalized f) n =
    record { calls = (tt, tt); desk = record { facts = (tt, (tt, (tt, tt))); stands = inr (omega (arith, n)); held = tt; given = tt; rooted = tt; count = refl } }

pub start_fine : (P : List ℕ → Type 0) (genesis : List ℕ) (made : Made) (now : ℕ) (floor : Floor) (records : List Artifact) → made.genesis ≡ genesis → FloorStands genesis floor
    → AllFine P genesis [] (started made now floor records)
unfolding started
start_fine P genesis made now floor records g f =
    let read = replay_all made now (floor_view floor) (stand_on made now floor (begun blank_desk)) records in
    let replayed = hand (handed.Resolver resolver.Replayed) read in
    let kept = keep_floor floor records replayed in
    fine_iteration P genesis [] made now (hand (update_message made kept.desk.known None) kept) g
    (fine_kept_floor P genesis [] floor records replayed
    (fine_records P genesis [] made now (floor_view floor) (stand_on made now floor (begun blank_desk)) records (fine_floor P genesis made now floor f)))
