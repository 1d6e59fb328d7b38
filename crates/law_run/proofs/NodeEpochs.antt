-- What a voter of the one member does in a step and in a start names its epoch.
use Rattle.simplex_types.specs.declared.cause.BlockCause.TheVariants.{LeaderConflict}
use Rattle.std.proofs.Common.{◌≡◌, ℕ, ◌-◌, not, Bool, true, false, nat_lt, nat_le, List, [], ◌∷◌, ◌++◌, map, Contains, Option, Some, None, refl, sym, subst, if◌then◌else◌}
use Rattle.std.specs.List.{list_any}
use Rattle.std.specs.Option.{IfSome, option_map, option_map_or, option_and_then}
use Rattle.simplex_values.specs.declared.answer.Answer.{Answer}
use Rattle.simplex_values.specs.declared.answer.Answer.TheVariants as answers
use Rattle.simplex_values.specs.declared.answer.Handoff.TheVariants as handoffs
use Rattle.simplex_values.specs.declared.plan.Channel.TheVariants as channels
use Rattle.simplex_values.specs.declared.plan.Plan.TheVariants as plans
use Rattle.simplex_values.specs.declared.plan.Recipients.TheVariants as recipients
use Rattle.simplex_values.specs.declared.timeout.TimeoutReason.TheVariants.{LeaderTimeout, MissingProposal, IgnoredProposal, InvalidProposal}
use Rattle.simplex_wire.specs.declared.artifact.Artifact.{Artifact}
use Rattle.simplex_wire.specs.declared.artifact.Artifact.TheVariants as artifacts
use Rattle.simplex_wire.specs.declared.certificate.Certificate.{Certificate}
use Rattle.simplex_wire.specs.declared.certificate.Certificate.TheVariants as certificates
use Rattle.simplex_wire.specs.declared.certificate.Notarization.{Notarization}
use Rattle.simplex_wire.specs.declared.certificate.Nullification.{Nullification}
use Rattle.simplex_wire.specs.declared.certificate.Finalization.{Finalization}
use Rattle.simplex_wire.specs.declared.vote.Vote.{Vote}
use Rattle.simplex_wire.specs.declared.vote.Vote.TheVariants as votes
use Rattle.simplex_wire.specs.declared.vote.Notarize.{Notarize}
use Rattle.simplex_wire.specs.declared.vote.Nullify.{Nullify}
use Rattle.simplex_wire.specs.declared.vote.Finalize.{Finalize}
use Rattle.simplex_wire.specs.Fields.{artifact_round, vote_subject, certificate_subject, subject_round}
use Rattle.simplex_wire.specs.Message as format
use Rattle.simplex_types.specs.declared.activity.Activity.{Activity}
use Rattle.simplex_types.specs.declared.activity.Activity.TheVariants as activities
use Rattle.simplex_types.specs.declared.floor.Floor.{Floor}
use Rattle.simplex_types.specs.declared.floor.Floor.TheVariants as floors
use Rattle.model_rules.specs.declared.request.ProposalState.{ProposalState}
use Rattle.model_rules.specs.declared.request.ProposalState.TheVariants.{Preparing, Proposing, Waiting, Held, Closed}
use Rattle.model_rules.specs.Known.{Made, Fact, view_of, has_nullified}
use Rattle.model_rules.specs.Views.{current_of, admits_certificate}
use Rattle.model_rules.specs.Slot.{records_answer}
use Rattle.model_rules.specs.Ancestry.{is_certified}
use Rattle.model_rules.specs.Votes.{notarize_at, finalize_at, nullify_at}
use Rattle.model_rules.specs.Deadline.{deadline_of}
use Rattle.model_rules.specs.Best.{best_certificate, forwardable_at}
use Rattle.model_rules.specs.Calls as state
use Rattle.model_rules.specs.Calls.{certified_answer, replay_answer, unsent_notarization, unsent_nullification, unsent_finalization, prune_answer}
use Rattle.model_rules.specs.Pending.{Desk, Pending, Opened, Sought, pending_view, pending_parent, reconciled, iterated}
use Rattle.simplex_messages.specs.declared.call.Call.{Call}
use Rattle.simplex_messages.specs.declared.call.Call.TheVariants as calls
use Rattle.simplex_messages.specs.declared.handed.Handed.{Handed}
use Rattle.simplex_messages.specs.declared.handed.Handed.TheVariants as handed
use Rattle.simplex_messages.specs.declared.batcher.Message.TheVariants as batcher
use Rattle.simplex_messages.specs.declared.resolver.MailboxMessage.TheVariants as resolver
use Rattle.simplex_messages.specs.declared.voter.Message.{Message}
use Rattle.simplex_messages.specs.declared.voter.Message.TheVariants as mail
use Rattle.simplex_messages.specs.declared.voter.VoterInput.{VoterInput}
use Rattle.simplex_messages.specs.declared.voter.VoterInput.TheVariants as inputs
use Rattle.model_steps.specs.Desk.{Doing, begun, tell, make, hand, append, resolve_of, seek, send_vote, send_certificate, report}
use Rattle.model_steps.specs.Voter.{Standing, answer_to, settle_proposal, proposal_stands, propose, stage, give_up, act_on_deadline, act_on_proposal, act_on_verify, settle_certify, take_verdict, act_on_certify, record_of, adds, adding, block_for, certificate_view, act_on_certificate, act_on_mail, vote_notarize, vote_finalize, open_requests, sync, publish_verdict, publish_nullify, publish_notarization, publish_nullification, publish_finalization, with_certificate, update_message, update_batcher, end_of_step, prune_at, prune, begin_iteration, take_proposal, first_answered, acted, finished, stepped, activity_of, certificate_in, report_if, updated_if, replay_verdict, replay_record, floor_view, replay_all, stand_on, is_final_from, keep_floor, blank_desk, started}
use Rattle.law_agreement.proofs.ListFacts.{Contains-here, Contains-there}
use Rattle.law_run.specs.Sayings.{Each}
use Rattle.law_run.proofs.Speaking.{Each-append, Each-map}
use Rattle.law_run.proofs.Telling.{some_is, gives, gives_some}
use Rattle.law_run.proofs.NodeNaming.{Names, NamesRecord, NamesCall, NamesHanded, NamesPending, NamesInput, NamesFloor, NamesTold, NamesDesk, told_named, notarize_named, finalize_named, nullify_named, desk_reconciled, desk_iterated}

-- what a step has done so far names the epoch
pub record Named (epoch : ℕ) (cs : List Call) (hs : List Handed) (facts : List Fact) (p : Option Pending) (n : Option (Nullify × Option Certificate)) : Type 0 where
  pub in_calls : Each (NamesCall epoch) cs
  pub in_handed : Each (NamesHanded epoch) hs
  pub in_known : Names epoch facts
  pub in_pending : NamesPending epoch p
  pub in_nullify : IfSome n (λ x. x.0.round.epoch ≡ epoch)

abbrev pub AllNamed : ℕ → Doing → Type 0
AllNamed epoch d = Named epoch d.calls d.handed d.desk.known d.desk.proposal d.nullify

named_call : (epoch : ℕ) (c : Call) (d : Doing) → NamesCall epoch c → AllNamed epoch d → AllNamed epoch (make c d)
named_call epoch c d n a =
    record { in_calls = Each-append (NamesCall epoch) d.calls (c ∷ []) a.in_calls (n, tt); in_handed = a.in_handed; in_known = a.in_known; in_pending = a.in_pending; in_nullify = a.in_nullify }

named_append : (epoch : ℕ) (r : Artifact) (d : Doing) → NamesRecord epoch r → AllNamed epoch d → AllNamed epoch (append r d)
named_append epoch r d n a =
    record { in_calls = Each-append (NamesCall epoch) d.calls (calls.Append (artifact_round r).view r ∷ []) a.in_calls (n, tt); in_handed = a.in_handed; in_known = a.in_known; in_pending = a.in_pending; in_nullify = a.in_nullify }

named_hand : (epoch : ℕ) (h : Handed) (d : Doing) → NamesHanded epoch h → AllNamed epoch d → AllNamed epoch (hand h d)
named_hand epoch h d n a =
    record { in_calls = a.in_calls; in_handed = Each-append (NamesHanded epoch) d.handed (h ∷ []) a.in_handed (n, tt); in_known = a.in_known; in_pending = a.in_pending; in_nullify = a.in_nullify }

named_tell : (made : Made) (call : state.Call) (d : Doing) → NamesTold made.epoch call → AllNamed made.epoch d → AllNamed made.epoch (tell made call d)
named_tell made call d t a =
    record { in_calls = a.in_calls; in_handed = a.in_handed; in_known = told_named made d.desk.known call t a.in_known; in_pending = a.in_pending; in_nullify = a.in_nullify }

named_seek : (epoch : ℕ) (d : Doing) → AllNamed epoch d → AllNamed epoch (seek d)
named_seek epoch d a =
    record {
      in_calls = a.in_calls;
      in_handed = Each-append (NamesHanded epoch) d.handed (map (λ s. handed.Resolver (resolve_of s)) d.desk.sought) a.in_handed
          (Each-map (NamesHanded epoch) (λ (s : Sought). handed.Resolver (resolve_of s)) d.desk.sought (λ x. tt));
      in_known = a.in_known;
      in_pending = a.in_pending;
      in_nullify = a.in_nullify;
    }

named_vote : (epoch : ℕ) (v : Vote) (d : Doing) → (subject_round (vote_subject v)).epoch ≡ epoch → AllNamed epoch d → AllNamed epoch (send_vote v d)
named_vote epoch v d n a =
    named_call epoch (calls.Send channels.Vote recipients.All (format.vote.spelling v)) (hand (handed.Batcher (batcher.Constructed v)) d) tt
    (named_hand epoch (handed.Batcher (batcher.Constructed v)) d n a)

named_desk : (epoch : ℕ) (d : Doing) (desk : Desk) → NamesDesk epoch desk → AllNamed epoch d → AllNamed epoch (record d { desk = desk })
named_desk epoch d desk n a = record { in_calls = a.in_calls; in_handed = a.in_handed; in_known = n.known; in_pending = n.pending; in_nullify = a.in_nullify }

desk_of : (epoch : ℕ) (d : Doing) → AllNamed epoch d → NamesDesk epoch d.desk
desk_of epoch d a = record { known = a.in_known; pending = a.in_pending }

-- ---- the end of a step

named_notarize : (made : Made) (view : ℕ) (d : Doing) → AllNamed made.epoch d → AllNamed made.epoch (vote_notarize made view d)
unfolding vote_notarize
named_notarize made view d a = at (notarize_at made d.desk.known view) (notarize_named made.epoch made d.desk.known view a.in_known)
  where
    told_so : AllNamed made.epoch (tell made (state.ConstructNotarize view) d)
    told_so = named_tell made (state.ConstructNotarize view) d tt a

    at : (o : Option Notarize) → IfSome o (λ v. v.proposal.round.epoch ≡ made.epoch)
        → AllNamed made.epoch (option_map_or (λ n. append (artifacts.Notarize n) (tell made (state.ConstructNotarize view) d)) o (tell made (state.ConstructNotarize view) d))
    at None n = told_so
    at (Some v) n = named_append made.epoch (artifacts.Notarize v) (tell made (state.ConstructNotarize view) d) n told_so

named_finalize : (made : Made) (view : ℕ) (d : Doing) → AllNamed made.epoch d → AllNamed made.epoch (vote_finalize made view d)
unfolding vote_finalize
named_finalize made view d a = at (finalize_at made d.desk.known view) (finalize_named made.epoch made d.desk.known view a.in_known)
  where
    told_so : AllNamed made.epoch (tell made (state.ConstructFinalize view) d)
    told_so = named_tell made (state.ConstructFinalize view) d tt a

    at : (o : Option Finalize) → IfSome o (λ v. v.proposal.round.epoch ≡ made.epoch)
        → AllNamed made.epoch (option_map_or (λ n. append (artifacts.Finalize n) (tell made (state.ConstructFinalize view) d)) o (tell made (state.ConstructFinalize view) d))
    at None n = told_so
    at (Some v) n = named_append made.epoch (artifacts.Finalize v) (tell made (state.ConstructFinalize view) d) n told_so

named_requests : (made : Made) (now : ℕ) (d : Doing) → AllNamed made.epoch d → AllNamed made.epoch (open_requests made now d)
unfolding open_requests
named_requests made now d a =
    named_seek made.epoch (record d { desk = reconciled made now d.desk })
    (named_desk made.epoch d (reconciled made now d.desk) (desk_reconciled made now d.desk (desk_of made.epoch d a)) a)

named_sync : (epoch view : ℕ) (d : Doing) → AllNamed epoch d → AllNamed epoch (sync view d)
named_sync epoch view d a = at d.wrote
  where
    at : (b : Bool) → AllNamed epoch (if b then make (calls.Sync view) d else d)
    at true = named_call epoch (calls.Sync view) d tt a
    at false = a

named_verdict : (epoch : ℕ) (d : Doing) → AllNamed epoch d → AllNamed epoch (publish_verdict d)
unfolding publish_verdict
named_verdict epoch d a = at d.verdict
  where
    one : (n : Notarization) (good b : Bool) → (let told = hand (handed.Resolver (resolver.Certified n good)) d in AllNamed epoch (if b then report (activities.Certification n) told else told))
    one n good true = named_call epoch (calls.Report (activities.Certification n)) (hand (handed.Resolver (resolver.Certified n good)) d) tt (named_hand epoch (handed.Resolver (resolver.Certified n good)) d tt a)
    one n good false = named_hand epoch (handed.Resolver (resolver.Certified n good)) d tt a

    at : (o : Option (Notarization × Bool)) → AllNamed epoch (option_map_or (λ v.
        let told = hand (handed.Resolver (resolver.Certified v.0 v.1)) d in
        if v.1 then report (activities.Certification v.0) told else told) o d)
    at None = a
    at (Some v) = one v.0 v.1 v.1

named_option : (epoch : ℕ) (o : Option Certificate) (d : Doing) → AllNamed epoch d → AllNamed epoch (with_certificate o d)
named_option epoch None d a = a
named_option epoch (Some c) d a = named_call epoch (calls.Send channels.Certificate recipients.All (format.certificate.spelling c)) d tt a

named_nullify : (epoch : ℕ) (d : Doing) → AllNamed epoch d → AllNamed epoch (publish_nullify d)
unfolding publish_nullify
named_nullify epoch d a = at d.nullify a.in_nullify
  where
    at : (o : Option (Nullify × Option Certificate)) → IfSome o (λ x. x.0.round.epoch ≡ epoch) → AllNamed epoch (option_map_or (λ n. with_certificate n.1 (send_vote (votes.Nullify n.0) d)) o d)
    at None n = a
    at (Some x) n = named_option epoch x.1 (send_vote (votes.Nullify x.0) d) (named_vote epoch (votes.Nullify x.0) d n a)

named_option_notarize : (epoch : ℕ) (o : Option Notarize) (d : Doing) → IfSome o (λ v. v.proposal.round.epoch ≡ epoch) → AllNamed epoch d → AllNamed epoch (option_map_or (λ n. send_vote (votes.Notarize n) d) o d)
named_option_notarize epoch None d n a = a
named_option_notarize epoch (Some v) d n a = named_vote epoch (votes.Notarize v) d n a

named_option_finalize : (epoch : ℕ) (o : Option Finalize) (d : Doing) → IfSome o (λ v. v.proposal.round.epoch ≡ epoch) → AllNamed epoch d → AllNamed epoch (option_map_or (λ n. send_vote (votes.Finalize n) d) o d)
named_option_finalize epoch None d n a = a
named_option_finalize epoch (Some v) d n a = named_vote epoch (votes.Finalize v) d n a

named_shown : (epoch : ℕ) (c : Certificate) (r : Activity) (d : Doing) → AllNamed epoch d → AllNamed epoch (report r (send_certificate c d))
named_shown epoch c r d a = named_call epoch (calls.Report r) (send_certificate c d) tt (named_call epoch (calls.Send channels.Certificate recipients.All (format.certificate.spelling c)) d tt a)

named_notarization : (made : Made) (view : ℕ) (d : Doing) → AllNamed made.epoch d → AllNamed made.epoch (publish_notarization made view d)
unfolding publish_notarization
named_notarization made view d a = at (unsent_notarization d.desk.known view)
  where
    told_so : AllNamed made.epoch (tell made (state.BroadcastNotarization view) d)
    told_so = named_tell made (state.BroadcastNotarization view) d tt a

    at : (o : Option Notarization) → AllNamed made.epoch (option_map_or (λ n. report (activities.Notarization n) (send_certificate (certificates.Notarization n) (tell made (state.BroadcastNotarization view) d))) o (tell made (state.BroadcastNotarization view) d))
    at None = told_so
    at (Some n) = named_shown made.epoch (certificates.Notarization n) (activities.Notarization n) (tell made (state.BroadcastNotarization view) d) told_so

named_nullification : (made : Made) (view : ℕ) (d : Doing) → AllNamed made.epoch d → AllNamed made.epoch (publish_nullification made view d)
unfolding publish_nullification
named_nullification made view d a = at (unsent_nullification d.desk.known view)
  where
    told_so : AllNamed made.epoch (tell made (state.BroadcastNullification view) d)
    told_so = named_tell made (state.BroadcastNullification view) d tt a

    at : (o : Option Nullification) → AllNamed made.epoch (option_map_or (λ n. report (activities.Nullification n) (send_certificate (certificates.Nullification n) (tell made (state.BroadcastNullification view) d))) o (tell made (state.BroadcastNullification view) d))
    at None = told_so
    at (Some n) = named_shown made.epoch (certificates.Nullification n) (activities.Nullification n) (tell made (state.BroadcastNullification view) d) told_so

named_finalization : (made : Made) (view : ℕ) (d : Doing) → AllNamed made.epoch d → AllNamed made.epoch (publish_finalization made view d)
unfolding publish_finalization
named_finalization made view d a = at (unsent_finalization d.desk.known view)
  where
    told_so : AllNamed made.epoch (tell made (state.BroadcastFinalization view) d)
    told_so = named_tell made (state.BroadcastFinalization view) d tt a

    at : (o : Option Finalization) → AllNamed made.epoch (option_map_or (λ n. report (activities.Finalization n) (send_certificate (certificates.Finalization n) (tell made (state.BroadcastFinalization view) d))) o (tell made (state.BroadcastFinalization view) d))
    at None = told_so
    at (Some n) = named_shown made.epoch (certificates.Finalization n) (activities.Finalization n) (tell made (state.BroadcastFinalization view) d) told_so

named_update : (made : Made) (before : ℕ) (d : Doing) → AllNamed made.epoch d → AllNamed made.epoch (update_batcher made before d)
unfolding update_batcher
named_update made before d a = at (nat_lt before (current_of made d.desk.known))
  where
    at : (b : Bool) → AllNamed made.epoch (if b then hand (update_message made d.desk.known (forwardable_at d.desk.known (current_of made d.desk.known - 1))) d else d)
    at true = named_hand made.epoch (update_message made d.desk.known (forwardable_at d.desk.known (current_of made d.desk.known - 1))) d tt a
    at false = a

named_end : (made : Made) (now before view : ℕ) (d : Doing) → AllNamed made.epoch d → AllNamed made.epoch (end_of_step made now before view d)
unfolding end_of_step
named_end made now before view d a =
    let notarize = notarize_at made d.desk.known view in
    let voted = vote_notarize made view d in
    let finalize = finalize_at made voted.desk.known view in
    let finalized = vote_finalize made view voted in
    let opened = sync view (open_requests made now finalized) in
    let first = publish_nullify (publish_verdict opened) in
    let second = option_map_or (λ n. send_vote (votes.Notarize n) first) notarize first in
    let third = publish_notarization made view second in
    let fourth = publish_nullification made view third in
    let fifth = option_map_or (λ f. send_vote (votes.Finalize f) fourth) finalize fourth in
    let sixth = publish_finalization made view fifth in
    let v = named_notarize made view d a in
    named_update made before sixth
    (named_finalization made view fifth
    (named_option_finalize made.epoch finalize fourth (finalize_named made.epoch made voted.desk.known view v.in_known)
    (named_nullification made view third
    (named_notarization made view second
    (named_option_notarize made.epoch notarize first (notarize_named made.epoch made d.desk.known view a.in_known)
    (named_nullify made.epoch (publish_verdict opened)
    (named_verdict made.epoch opened
    (named_sync made.epoch view (open_requests made now finalized)
    (named_requests made now finalized (named_finalize made view voted v))))))))))

named_iteration : (made : Made) (now : ℕ) (d : Doing) → AllNamed made.epoch d → AllNamed made.epoch (begin_iteration made now d)
unfolding begin_iteration prune
named_iteration made now d a =
    let begun = seek (record d { desk = iterated made now d.desk }) in
    at begun (named_seek made.epoch (record d { desk = iterated made now d.desk })
    (named_desk made.epoch d (iterated made now d.desk) (desk_iterated made now d.desk (desk_of made.epoch d a)) a)) (prune_answer made begun.desk.known)
  where
    at : (b : Doing) → AllNamed made.epoch b → (o : Option ℕ) → AllNamed made.epoch (prune_at o (tell made state.Prune b))
    at b n None = named_tell made state.Prune b tt n
    at b n (Some least) = named_call made.epoch (calls.Prune least) (tell made state.Prune b) tt (named_tell made state.Prune b tt n)

-- ---- acting

named_settled : (epoch : ℕ) (d : Doing) → AllNamed epoch d → AllNamed epoch (settle_proposal d)
named_settled epoch d a = record { in_calls = a.in_calls; in_handed = a.in_handed; in_known = a.in_known; in_pending = tt; in_nullify = a.in_nullify }

named_stands : (epoch : ℕ) (p : Pending) (s : ProposalState) (d : Doing) → p.context.round.epoch ≡ epoch → AllNamed epoch d → AllNamed epoch (proposal_stands p s d)
named_stands epoch p s d n a = record { in_calls = a.in_calls; in_handed = a.in_handed; in_known = a.in_known; in_pending = n; in_nullify = a.in_nullify }

named_propose : (made : Made) (p : Pending) (payload : List ℕ) (d : Doing) → p.context.round.epoch ≡ made.epoch → AllNamed made.epoch d → AllNamed made.epoch (propose made p payload d).0
unfolding propose
named_propose made p payload d n a = at (records_answer made d.desk.known (pending_view p))
  where
    told_so : AllNamed made.epoch (settle_proposal (tell made (state.Proposed p.context payload) d))
    told_so = named_settled made.epoch (tell made (state.Proposed p.context payload) d) (named_tell made (state.Proposed p.context payload) d n a)

    pair : Bool → Doing × Option ℕ
    pair t =
        let told = settle_proposal (tell made (state.Proposed p.context payload) d) in
        if t then (make (calls.Relay payload (plans.Propose p.context.round)) told, Some (pending_view p)) else (told, None)

    at : (t : Bool) → AllNamed made.epoch (pair t).0
    at true = named_call made.epoch (calls.Relay payload (plans.Propose p.context.round)) (settle_proposal (tell made (state.Proposed p.context payload) d)) tt told_so
    at false = told_so

named_stage : (made : Made) (p : Pending) (payload : List ℕ) (d : Doing) → p.context.round.epoch ≡ made.epoch → AllNamed made.epoch d → AllNamed made.epoch (stage made p payload d).0
unfolding stage
named_stage made p payload d n a = at (is_certified d.desk.known (pending_parent p))
  where
    pair : Bool → Doing × Option ℕ
    pair t = if t then propose made p payload d else (proposal_stands p (Held payload) (make (calls.Relay payload (plans.Prepare p.context.round)) d), None)

    at : (t : Bool) → AllNamed made.epoch (pair t).0
    at true = named_propose made p payload d n a
    at false = named_stands made.epoch p (Held payload) (make (calls.Relay payload (plans.Prepare p.context.round)) d) n (named_call made.epoch (calls.Relay payload (plans.Prepare p.context.round)) d tt a)

named_given_up : (made : Made) (now : ℕ) (p : Pending) (s : ProposalState) (d : Doing) → p.context.round.epoch ≡ made.epoch → AllNamed made.epoch d → AllNamed made.epoch (give_up made now p s d).0
unfolding give_up
named_given_up made now p Preparing d n a = named_stands made.epoch p Closed d n a
named_given_up made now p _ d n a =
    named_settled made.epoch (tell made (state.TriggerTimeout (pending_view p) MissingProposal now) d) (named_tell made (state.TriggerTimeout (pending_view p) MissingProposal now) d tt a)

named_proposal : (made : Made) (now : ℕ) (p : Pending) (answer : Answer) (d : Doing) → p.context.round.epoch ≡ made.epoch → AllNamed made.epoch d → AllNamed made.epoch (act_on_proposal made now p answer d).0
unfolding act_on_proposal
named_proposal made now p (answers.Payload payload) d n a = named_propose made p payload d n a
named_proposal made now p (answers.Handoff handoffs.Wait) d n a = named_stands made.epoch p Waiting d n a
named_proposal made now p (answers.Handoff (handoffs.Stage payload)) d n a = named_stage made p payload d n a
named_proposal made now p (answers.Handoff (handoffs.Vote payload)) d n a = named_propose made p payload d n a
named_proposal made now p (answers.Verdict good) d n a = a
named_proposal made now p answers.Closed d n a = named_given_up made now p p.state d n a

named_plain : (epoch : ℕ) (d : Doing) (desk : Desk) → desk.known ≡ d.desk.known → desk.proposal ≡ d.desk.proposal → AllNamed epoch d → AllNamed epoch (record d { desk = desk })
named_plain epoch d desk k p a =
    record { in_calls = a.in_calls; in_handed = a.in_handed; in_known = subst (Names epoch) (sym k) a.in_known; in_pending = subst (NamesPending epoch) (sym p) a.in_pending; in_nullify = a.in_nullify }

named_verify : (made : Made) (now : ℕ) (v : Opened) (answer : Answer) (d : Doing) → AllNamed made.epoch d → AllNamed made.epoch (act_on_verify made now v answer d).0
unfolding act_on_verify
named_verify made now v (answers.Verdict true) d a =
    named_tell made (state.Verified v.view) (record d { desk = record d.desk { verify = None } }) tt (named_plain made.epoch d (record d.desk { verify = None }) refl refl a)
named_verify made now v (answers.Verdict false) d a =
    named_tell made (state.VerificationFailed v.view InvalidProposal now) (record d { desk = record d.desk { verify = None } }) tt (named_plain made.epoch d (record d.desk { verify = None }) refl refl a)
named_verify made now v _ d a =
    named_tell made (state.VerificationFailed v.view IgnoredProposal now) (record d { desk = record d.desk { verify = None } }) tt (named_plain made.epoch d (record d.desk { verify = None }) refl refl a)

named_taken_verdict : (made : Made) (view : ℕ) (good : Bool) (o : Option Notarization) (d : Doing) → AllNamed made.epoch d → AllNamed made.epoch (take_verdict made view good o d).0
named_taken_verdict made view good None d a = a
named_taken_verdict made view good (Some n) d a =
    let x = named_append made.epoch (artifacts.Certification n.proposal.round good) d tt a in
    record { in_calls = x.in_calls; in_handed = x.in_handed; in_known = x.in_known; in_pending = x.in_pending; in_nullify = x.in_nullify }

named_certify : (made : Made) (now : ℕ) (c : Opened) (answer : Answer) (d : Doing) → AllNamed made.epoch d → AllNamed made.epoch (act_on_certify made now c answer d).0
unfolding act_on_certify
named_certify made now c (answers.Verdict good) d a =
    named_taken_verdict made c.view good (certified_answer d.desk.known c.view) (tell made (state.Certified c.view good now) (settle_certify c.number d))
    (named_tell made (state.Certified c.view good now) (settle_certify c.number d) tt (named_plain made.epoch d (settle_certify c.number d).desk refl refl a))
named_certify made now c _ d a = named_plain made.epoch d (settle_certify c.number d).desk refl refl a

-- ---- a certificate

named_record : (epoch : ℕ) (c : Certificate) → (subject_round (certificate_subject c)).epoch ≡ epoch → NamesRecord epoch (record_of c)
named_record epoch (certificates.Notarization n) e = e
named_record epoch (certificates.Nullification n) e = e
named_record epoch (certificates.Finalization n) e = e

named_adding : (epoch : ℕ) (c : Certificate) (now : ℕ) → (subject_round (certificate_subject c)).epoch ≡ epoch → NamesTold epoch (adding c now)
named_adding epoch (certificates.Notarization n) now e = e
named_adding epoch (certificates.Nullification n) now e = e
named_adding epoch (certificates.Finalization n) now e = e

named_blocked : (epoch : ℕ) (o : Option ℕ) (d : Doing) → AllNamed epoch d → AllNamed epoch (block_for o d)
named_blocked epoch None d a = a
named_blocked epoch (Some leader) d a = named_call epoch (calls.Block leader LeaderConflict) d tt a

named_certificate : (made : Made) (now : ℕ) (c : Certificate) (d : Doing) → (subject_round (certificate_subject c)).epoch ≡ made.epoch → AllNamed made.epoch d → AllNamed made.epoch (act_on_certificate made now c d).0
unfolding act_on_certificate
named_certificate made now c d e a = at (not (admits_certificate made d.desk.known (certificate_view c))) (adds made d.desk.known c)
  where
    told_so : AllNamed made.epoch (tell made (adding c now) d)
    told_so = named_tell made (adding c now) d (named_adding made.epoch c now e) a

    pair : Bool → Bool → Doing × Option ℕ
    pair past new =
        let known = d.desk.known in
        let told = tell made (adding c now) d in
        if past then (told, None)
        else if new
        then (
          hand (handed.Resolver (resolver.Updated c))
              (block_for (replay_answer made known (record_of c))
              (append (record_of c) (record told { added = d.added ++ c ∷ [] }))),
          Some (certificate_view c),
        )
        else (told, Some (certificate_view c))

    at : (past new : Bool) → AllNamed made.epoch (pair past new).0
    at true new = told_so
    at false false = told_so
    at false true =
        let x = record (tell made (adding c now) d) { added = d.added ++ c ∷ [] } in
        let y : AllNamed made.epoch x = record { in_calls = told_so.in_calls; in_handed = told_so.in_handed; in_known = told_so.in_known; in_pending = told_so.in_pending; in_nullify = told_so.in_nullify } in
        let z = append (record_of c) x in
        named_hand made.epoch (handed.Resolver (resolver.Updated c)) (block_for (replay_answer made d.desk.known (record_of c)) z) tt
        (named_blocked made.epoch (replay_answer made d.desk.known (record_of c)) z (named_append made.epoch (record_of c) x (named_record made.epoch c e) y))

named_mail : (made : Made) (now : ℕ) (message : Message) (d : Doing) → NamesInput made.epoch (inputs.Mail message) → AllNamed made.epoch d → AllNamed made.epoch (act_on_mail made now message d).0
unfolding act_on_mail
named_mail made now (mail.Proposal proposal) d n a = named_tell made (state.SetProposal (view_of proposal) proposal) d n a
named_mail made now (mail.Timeout round reason) d n a = named_tell made (state.TriggerTimeout round.view reason now) d tt a
named_mail made now (mail.Verified c) d n a = named_certificate made now c d n a

-- ---- the deadline

named_deadline : (made : Made) (now : ℕ) (d : Doing) → AllNamed made.epoch d → AllNamed made.epoch (act_on_deadline made now d)
unfolding act_on_deadline
named_deadline made now d a = at (nullify_at made (current_of made d.desk.known)) (nullify_named made (current_of made d.desk.known))
  where
    told_so : AllNamed made.epoch (tell made (state.ConstructNullify (current_of made d.desk.known) LeaderTimeout now) d)
    told_so = named_tell made (state.ConstructNullify (current_of made d.desk.known) LeaderTimeout now) d tt a

    one : (n : Nullify) (t : Bool) → n.round.epoch ≡ made.epoch
        → AllNamed made.epoch (if t
        then record (tell made (state.ConstructNullify (current_of made d.desk.known) LeaderTimeout now) d) { nullify = Some (n, best_certificate made d.desk.known) }
        else record (append (artifacts.Nullify n) (tell made (state.ConstructNullify (current_of made d.desk.known) LeaderTimeout now) d)) { nullify = Some (n, None) })
    one n true e = record { in_calls = told_so.in_calls; in_handed = told_so.in_handed; in_known = told_so.in_known; in_pending = told_so.in_pending; in_nullify = e }
    one n false e =
        let x = named_append made.epoch (artifacts.Nullify n) (tell made (state.ConstructNullify (current_of made d.desk.known) LeaderTimeout now) d) e told_so in
        record { in_calls = x.in_calls; in_handed = x.in_handed; in_known = x.in_known; in_pending = x.in_pending; in_nullify = e }

    at : (o : Option Nullify) → IfSome o (λ v. v.round.epoch ≡ made.epoch)
        → AllNamed made.epoch (option_map_or (λ n.
        if has_nullified d.desk.known (current_of made d.desk.known)
        then record (tell made (state.ConstructNullify (current_of made d.desk.known) LeaderTimeout now) d) { nullify = Some (n, best_certificate made d.desk.known) }
        else record (append (artifacts.Nullify n) (tell made (state.ConstructNullify (current_of made d.desk.known) LeaderTimeout now) d)) { nullify = Some (n, None) })
        o d)
    at None e = a
    at (Some n) e = one n (has_nullified d.desk.known (current_of made d.desk.known)) e

-- ---- a step

named_nothing : (epoch : ℕ) (desk : Desk) → NamesDesk epoch desk → AllNamed epoch (begun desk)
named_nothing epoch desk n = record { in_calls = tt; in_handed = tt; in_known = n.known; in_pending = n.pending; in_nullify = tt }

named_taken : (made : Made) (now : ℕ) (s : Standing) (p : Pending) (at : ProposalState) (outcome : Doing × Option ℕ) → p.context.round.epoch ≡ made.epoch
    → AllNamed made.epoch (begun s.desk) → take_proposal made now s p at ≡ Some outcome → AllNamed made.epoch outcome.0
named_taken made now s p (Held payload) outcome n a e = held (is_certified s.desk.known (pending_parent p)) e
  where
    held : (t : Bool) → (if t then Some (propose made p payload (begun s.desk)) else None) ≡ Some outcome → AllNamed made.epoch outcome.0
    held true h = subst (λ (o : Doing × Option ℕ). AllNamed made.epoch o.0) (some_is _ outcome h) (named_propose made p payload (begun s.desk) n a)
    held false h = cc
named_taken made now s p Preparing outcome n a e =
    gives (λ (o : Doing × Option ℕ). AllNamed made.epoch o.0) (λ answer. act_on_proposal made now p answer (begun s.desk)) (answer_to s.answers p.number) outcome (λ answer. named_proposal made now p answer (begun s.desk) n a) e
named_taken made now s p Proposing outcome n a e =
    gives (λ (o : Doing × Option ℕ). AllNamed made.epoch o.0) (λ answer. act_on_proposal made now p answer (begun s.desk)) (answer_to s.answers p.number) outcome (λ answer. named_proposal made now p answer (begun s.desk) n a) e
named_taken made now s p Waiting outcome n a e = cc
named_taken made now s p Closed outcome n a e = cc

named_pending : (made : Made) (now : ℕ) (s : Standing) (outcome : Doing × Option ℕ) (o : Option Pending) → NamesPending made.epoch o
    → AllNamed made.epoch (begun s.desk) → option_and_then (λ (p : Pending). take_proposal made now s p p.state) o ≡ Some outcome → AllNamed made.epoch outcome.0
named_pending made now s outcome None n a e = cc
named_pending made now s outcome (Some p) n a e = named_taken made now s p p.state outcome n a e

named_acted : (made : Made) (now : ℕ) (s : Standing) (input : VoterInput) (outcome : Doing × Option ℕ) → NamesInput made.epoch input → NamesDesk made.epoch s.desk
    → acted made now s input ≡ Some outcome → AllNamed made.epoch outcome.0
unfolding acted
named_acted made now s (inputs.Mail message) outcome b g e =
    subst (λ (o : Doing × Option ℕ). AllNamed made.epoch o.0) (some_is _ outcome e) (named_mail made now message (begun s.desk) b (named_nothing made.epoch s.desk g))
named_acted made now s inputs.Timer outcome b g e = due (nat_le (deadline_of made s.desk.known).0 now) e
  where
    due : (t : Bool) → (if t then Some (act_on_deadline made now (begun s.desk), Some (current_of made s.desk.known)) else None) ≡ Some outcome → AllNamed made.epoch outcome.0
    due true h = subst (λ (o : Doing × Option ℕ). AllNamed made.epoch o.0) (some_is _ outcome h) (named_deadline made now (begun s.desk) (named_nothing made.epoch s.desk g))
    due false h = cc
named_acted made now s inputs.Propose outcome b g e = named_pending made now s outcome s.desk.proposal g.pending (named_nothing made.epoch s.desk g) e
named_acted made now s inputs.Verify outcome b g e =
    gives_some (λ (o : Doing × Option ℕ). AllNamed made.epoch o.0) (λ (v : Opened). option_map (λ answer. act_on_verify made now v answer (begun s.desk)) (answer_to s.answers v.number)) s.desk.verify outcome
    (λ v. gives (λ (o : Doing × Option ℕ). AllNamed made.epoch o.0) (λ answer. act_on_verify made now v answer (begun s.desk)) (answer_to s.answers v.number) outcome
    (λ answer. named_verify made now v answer (begun s.desk) (named_nothing made.epoch s.desk g))) e
named_acted made now s inputs.Certify outcome b g e =
    gives (λ (o : Doing × Option ℕ). AllNamed made.epoch o.0) (λ (taken : Opened × Answer). act_on_certify made now taken.0 taken.1 (begun s.desk)) (first_answered s.desk.certify s.answers) outcome
    (λ taken. named_certify made now taken.0 taken.1 (begun s.desk) (named_nothing made.epoch s.desk g)) e

named_finished : (made : Made) (now before : ℕ) (outcome : Doing × Option ℕ) → AllNamed made.epoch outcome.0 → AllNamed made.epoch (finished made now before outcome)
unfolding finished
named_finished made now before (d, None) a = named_iteration made now d a
named_finished made now before (d, Some view) a = named_iteration made now (end_of_step made now before view d) (named_end made now before view d a)

pub step_named : (made : Made) (now : ℕ) (s : Standing) (input : VoterInput) (d : Doing) → NamesInput made.epoch input → NamesDesk made.epoch s.desk
    → stepped made now s input ≡ Some d → AllNamed made.epoch d
unfolding stepped
step_named made now s input d b g e = at (acted made now s input) refl e
  where
    at : (o : Option (Doing × Option ℕ)) → acted made now s input ≡ o → option_map (finished made now (current_of made s.desk.known)) o ≡ Some d → AllNamed made.epoch d
    at None f h = cc
    at (Some outcome) f h =
        subst (AllNamed made.epoch) (some_is _ d h)
        (named_finished made now (current_of made s.desk.known) outcome (named_acted made now s input outcome b g f))

-- ---- a start

named_reported : (epoch : ℕ) (o : Option Activity) (d : Doing) → AllNamed epoch d → AllNamed epoch (report_if o d)
named_reported epoch None d a = a
named_reported epoch (Some r) d a = named_call epoch (calls.Report r) d tt a

named_updated : (epoch : ℕ) (o : Option Certificate) (d : Doing) → AllNamed epoch d → AllNamed epoch (updated_if o d)
named_updated epoch None d a = a
named_updated epoch (Some c) d a = named_hand epoch (handed.Resolver (resolver.Updated c)) d tt a

named_kept_verdict : (epoch : ℕ) (good : Bool) (o : Option Notarization) (d : Doing) → AllNamed epoch d → AllNamed epoch (replay_verdict good o d)
named_kept_verdict epoch good None d a = a
named_kept_verdict epoch true (Some n) d a = named_hand epoch (handed.Resolver (resolver.Certified n true)) (report (activities.Certification n) d) tt (named_call epoch (calls.Report (activities.Certification n)) d tt a)
named_kept_verdict epoch false (Some n) d a = named_hand epoch (handed.Resolver (resolver.Certified n false)) d tt a

named_plain_record : (made : Made) (now : ℕ) (d : Doing) (r : Artifact) → NamesRecord made.epoch r → AllNamed made.epoch d
    → AllNamed made.epoch (updated_if (certificate_in r) (report_if (activity_of r) (block_for (replay_answer made d.desk.known r) (tell made (state.Replay r now) d))))
named_plain_record made now d r n a =
    let told = tell made (state.Replay r now) d in
    let blocked = block_for (replay_answer made d.desk.known r) told in
    named_updated made.epoch (certificate_in r) (report_if (activity_of r) blocked)
    (named_reported made.epoch (activity_of r) blocked (named_blocked made.epoch (replay_answer made d.desk.known r) told (named_tell made (state.Replay r now) d n a)))

named_replay : (made : Made) (now : ℕ) (d : Doing) (r : Artifact) → NamesRecord made.epoch r → AllNamed made.epoch d → AllNamed made.epoch (replay_record made now d r)
unfolding replay_record
named_replay made now d (artifacts.Certification r good) n a =
    named_kept_verdict made.epoch good (certified_answer d.desk.known r.view) (tell made (state.Replay (artifacts.Certification r good) now) d) (named_tell made (state.Replay (artifacts.Certification r good) now) d tt a)
named_replay made now d (artifacts.Notarize v) n a = named_plain_record made now d (artifacts.Notarize v) n a
named_replay made now d (artifacts.Nullify v) n a = named_plain_record made now d (artifacts.Nullify v) n a
named_replay made now d (artifacts.Finalize v) n a = named_plain_record made now d (artifacts.Finalize v) n a
named_replay made now d (artifacts.Notarization v) n a = named_plain_record made now d (artifacts.Notarization v) n a
named_replay made now d (artifacts.Nullification v) n a = named_plain_record made now d (artifacts.Nullification v) n a
named_replay made now d (artifacts.Finalization v) n a = named_plain_record made now d (artifacts.Finalization v) n a

named_records : (made : Made) (now floor : ℕ) (d : Doing) (rs : List Artifact) → ((r : Artifact) → Contains rs r → NamesRecord made.epoch r) → AllNamed made.epoch d → AllNamed made.epoch (replay_all made now floor d rs)
unfolding replay_all
named_records made now floor d [] n a = a
named_records made now floor d (r ∷ rest) n a =
    named_records made now floor (if nat_lt floor (artifact_round r).view then replay_record made now d r else d) rest (λ x c. n x (Contains-there r rest x c))
    (at (nat_lt floor (artifact_round r).view))
  where
    at : (b : Bool) → AllNamed made.epoch (if b then replay_record made now d r else d)
    at true = named_replay made now d r (n r (Contains-here r rest)) a
    at false = a

named_floor : (made : Made) (now : ℕ) (floor : Floor) → NamesFloor made.epoch floor → AllNamed made.epoch (stand_on made now floor (begun blank_desk))
named_floor made now (floors.Genesis payload) n =
    named_tell made (state.SetFloor (floors.Genesis payload) now) (begun blank_desk) tt (named_nothing made.epoch blank_desk (record { known = tt; pending = tt }))
named_floor made now (floors.Finalized f) n =
    let told = tell made (state.SetFloor (floors.Finalized f) now) (begun blank_desk) in
    named_call made.epoch (calls.Report (activities.Finalization f)) (hand (handed.Resolver (resolver.Updated (certificates.Finalization f))) told) tt
    (named_hand made.epoch (handed.Resolver (resolver.Updated (certificates.Finalization f))) told tt
    (named_tell made (state.SetFloor (floors.Finalized f) now) (begun blank_desk) n (named_nothing made.epoch blank_desk (record { known = tt; pending = tt }))))

named_kept_floor : (epoch : ℕ) (floor : Floor) (records : List Artifact) (d : Doing) → NamesFloor epoch floor → AllNamed epoch d → AllNamed epoch (keep_floor floor records d)
named_kept_floor epoch (floors.Genesis payload) records d n a = a
named_kept_floor epoch (floors.Finalized f) records d n a = at (list_any (is_final_from (view_of f.proposal)) records)
  where
    at : (b : Bool) → AllNamed epoch (if b then d else make (calls.Sync (view_of f.proposal)) (append (artifacts.Finalization f) d))
    at true = a
    at false = named_call epoch (calls.Sync (view_of f.proposal)) (append (artifacts.Finalization f) d) tt (named_append epoch (artifacts.Finalization f) d n a)

pub start_named : (made : Made) (now : ℕ) (floor : Floor) (records : List Artifact) → NamesFloor made.epoch floor → ((r : Artifact) → Contains records r → NamesRecord made.epoch r)
    → AllNamed made.epoch (started made now floor records)
unfolding started
start_named made now floor records f r =
    let read = replay_all made now (floor_view floor) (stand_on made now floor (begun blank_desk)) records in
    let replayed = hand (handed.Resolver resolver.Replayed) read in
    let kept = keep_floor floor records replayed in
    named_iteration made now (hand (update_message made kept.desk.known None) kept)
    (named_hand made.epoch (update_message made kept.desk.known None) kept tt
    (named_kept_floor made.epoch floor records replayed f
    (named_hand made.epoch (handed.Resolver resolver.Replayed) read tt
    (named_records made now (floor_view floor) (stand_on made now floor (begun blank_desk)) records r (named_floor made now floor f)))))
