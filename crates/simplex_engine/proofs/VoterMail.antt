-- A voter hands nothing to itself.
use Rattle.std.proofs.Common.{◌≡◌, refl, subst, ℕ, Bool, true, false, List, [], ◌∷◌, ◌++◌, map, Option, Some, None}
use Rattle.std.specs.Prelude.{if◌then◌else◌, nat_le, unwrap_or}
use Rattle.std.specs.List.{filter_map, list_any}
use Rattle.std.specs.Option.{option_map, option_map_or, option_and_then}
use Rattle.std.proofs.lemmas.List.Elements.{filter_map-append}
use Rattle.simplex_values.specs.declared.answer.Answer.{Answer}
use Rattle.simplex_values.specs.declared.answer.Answer.TheVariants as answers
use Rattle.simplex_values.specs.declared.answer.Handoff.TheVariants as handoffs
use Rattle.simplex_wire.specs.declared.vote.Nullify.{Nullify}
use Rattle.simplex_wire.specs.declared.certificate.Certificate.{Certificate}
use Rattle.simplex_wire.specs.declared.certificate.Notarization.{Notarization}
use Rattle.simplex_wire.specs.declared.artifact.Artifact.{Artifact}
use Rattle.simplex_wire.specs.declared.artifact.Artifact.TheVariants as artifacts
use Rattle.simplex_types.specs.declared.activity.Activity.{Activity}
use Rattle.simplex_types.specs.declared.activity.Activity.TheVariants as activities
use Rattle.simplex_values.specs.declared.timeout.TimeoutReason.TheVariants.{LeaderTimeout}
use Rattle.simplex_types.specs.declared.floor.Floor.{Floor}
use Rattle.simplex_types.specs.declared.floor.Floor.TheVariants as floors
use Rattle.model_rules.specs.declared.request.ProposalState.{ProposalState}
use Rattle.model_rules.specs.declared.request.ProposalState.TheVariants.{Preparing, Proposing, Waiting, Held, Closed}
use Rattle.model_rules.specs.Known.{Made, view_of, has_nullified}
use Rattle.model_rules.specs.Views.{current_of}
use Rattle.model_rules.specs.Best.{best_certificate}
use Rattle.model_rules.specs.Deadline.{deadline_of}
use Rattle.model_rules.specs.Calls as state
use Rattle.model_rules.specs.Calls.{replay_answer}
use Rattle.model_rules.specs.Pending.{Pending, Opened, Sought}
use Rattle.simplex_journal.specs.Journal.{Section}
use Rattle.simplex_messages.specs.declared.handed.Handed.{Handed}
use Rattle.simplex_messages.specs.declared.handed.Handed.TheVariants as handed
use Rattle.simplex_messages.specs.declared.step.Stop.{Stop}
use Rattle.simplex_messages.specs.declared.step.Stop.TheVariants as stops
use Rattle.simplex_messages.specs.declared.resolver.MailboxMessage.{MailboxMessage}
use Rattle.simplex_messages.specs.declared.resolver.MailboxMessage.TheVariants as resolver
use Rattle.simplex_messages.specs.declared.voter.Message.{Message}
use Rattle.simplex_messages.specs.declared.voter.Message.TheVariants as mail
use Rattle.simplex_messages.specs.declared.voter.VoterInput.{VoterInput}
use Rattle.simplex_messages.specs.declared.voter.VoterInput.TheVariants as inputs
use Rattle.model_steps.specs.Desk.{Doing, begun, tell, hand, append, report, resolve_of}
use Rattle.model_steps.specs.Performed.{Performed, performed, whole, broken}
use Rattle.model_steps.specs.Voter.{Standing, answer_to, act_on_deadline, propose, stage, give_up, act_on_proposal, act_on_verify, take_verdict, act_on_certify, act_on_certificate, act_on_mail, block_for, record_of, adding, activity_of, certificate_in, is_final_from, vote_notarize, vote_finalize, open_requests, sync, publish_verdict, publish_nullify, with_certificate, publish_notarization, publish_nullification, publish_finalization, update_batcher, end_of_step, prune_at, prune, begin_iteration, finished, take_proposal, acted, stepped, report_if, updated_if, replay_verdict, replay_record, replay_all, stand_on, keep_floor, started}
use Rattle.model_steps.specs.VoterLife.{VoterMade, Given, place_of, start_performed, start_given, step_given, idle}
use Rattle.model_steps.specs.Engine.{for_voter}

-- none of these is for the voter
pub record Quiet (messages : List Handed) : Type 0 where
  pub none : filter_map for_voter messages ≡ []

-- nothing that was handed on so far is for the voter
abbrev Calm : Doing → Type 0
Calm doing = Quiet doing.handed

abbrev CalmActed : Doing × Option ℕ → Type 0
CalmActed acted = Quiet acted.0.handed

-- ---- lists

quiet-nil : Quiet []
quiet-nil = record { none = refl }

quiet-one : (message : MailboxMessage) → Quiet (handed.Resolver message ∷ [])
quiet-one message = record { none = refl }

quiet-sought : (sought : List Sought) → Quiet (map (λ s. handed.Resolver (resolve_of s)) sought)
quiet-sought [] = quiet-nil
quiet-sought (s ∷ rest) = record { none = (quiet-sought rest).none }

quiet-append : (xs ys : List Handed) → Quiet xs → Quiet ys → Quiet (xs ++ ys)
quiet-append xs ys q r = record { none = rw (filter_map-append, q.none, r.none) refl }

-- ---- choices

calm-if : (test : Bool) (x y : Doing) → Calm x → Calm y → Calm (if test then x else y)
calm-if true x y q r = q
calm-if false x y q r = r

calm-if-acted : (test : Bool) (x y : Doing × Option ℕ) → CalmActed x → CalmActed y → CalmActed (if test then x else y)
calm-if-acted true x y q r = q
calm-if-acted false x y q r = r

calm-option : {A : Type 0} (f : A → Doing) (o : Option A) (d : Doing) → ((a : A) → Calm (f a)) → Calm d → Calm (option_map_or f o d)
calm-option f None d q r = r
calm-option f (Some a) d q r = q a

-- what a step may do, if it does anything
pub record IfCalm (acted : Option (Doing × Option ℕ)) : Type 0 where
  pub calm : (a : Doing × Option ℕ) → acted ≡ Some a → CalmActed a

ifcalm-none : IfCalm None
ifcalm-none = record { calm = λ a e. cc }

if-some : (x y : Doing × Option ℕ) → CalmActed x → Some x ≡ Some y → CalmActed y
if-some x y q e = subst (λ o. CalmActed (unwrap_or o x)) e q

ifcalm-some : (acted : Doing × Option ℕ) → CalmActed acted → IfCalm (Some acted)
ifcalm-some acted q = record { calm = λ a e. if-some acted a q e }

ifcalm-map : {A : Type 0} (f : A → Doing × Option ℕ) (o : Option A) → ((a : A) → CalmActed (f a)) → IfCalm (option_map f o)
ifcalm-map f None q = ifcalm-none
ifcalm-map f (Some a) q = ifcalm-some _ (q a)

ifcalm-then : {A : Type 0} (f : A → Option (Doing × Option ℕ)) (o : Option A) → ((a : A) → IfCalm (f a)) → IfCalm (option_and_then f o)
ifcalm-then f None q = ifcalm-none
ifcalm-then f (Some a) q = q a

ifcalm-if : (test : Bool) (acted : Doing × Option ℕ) → CalmActed acted → IfCalm (if test then Some acted else None)
ifcalm-if true acted q = ifcalm-some acted q
ifcalm-if false acted q = ifcalm-none

-- ---- acting

calm-deadline : (made : Made) (now : ℕ) (doing : Doing) → Calm doing → Calm (act_on_deadline made now doing)
unfolding act_on_deadline
calm-deadline made now doing q =
    let view = current_of made doing.desk.known in
    let told = tell made (state.ConstructNullify view LeaderTimeout now) doing in
    calm-option _ _ _
    (λ n. calm-if (has_nullified doing.desk.known view) (record told { nullify = Some (n, best_certificate made doing.desk.known) })
    (record (append (artifacts.Nullify n) told) { nullify = Some (n, None) }) q q)
    q

calm-propose : (made : Made) (p : Pending) (payload : List ℕ) (doing : Doing) → Calm doing → CalmActed (propose made p payload doing)
unfolding propose
calm-propose made p payload doing q = calm-if-acted _ _ _ q q

calm-stage : (made : Made) (p : Pending) (payload : List ℕ) (doing : Doing) → Calm doing → CalmActed (stage made p payload doing)
unfolding stage
calm-stage made p payload doing q = calm-if-acted _ _ _ (calm-propose made p payload doing q) q

calm-give_up : (made : Made) (now : ℕ) (p : Pending) (at : ProposalState) (doing : Doing) → Calm doing → CalmActed (give_up made now p at doing)
unfolding give_up
calm-give_up made now p Preparing doing q = q
calm-give_up made now p Proposing doing q = q
calm-give_up made now p Waiting doing q = q
calm-give_up made now p (Held payload) doing q = q
calm-give_up made now p Closed doing q = q

calm-proposal : (made : Made) (now : ℕ) (p : Pending) (answer : Answer) (doing : Doing) → Calm doing → CalmActed (act_on_proposal made now p answer doing)
unfolding act_on_proposal
calm-proposal made now p (answers.Payload payload) doing q = calm-propose made p payload doing q
calm-proposal made now p (answers.Handoff handoffs.Wait) doing q = q
calm-proposal made now p (answers.Handoff (handoffs.Stage payload)) doing q = calm-stage made p payload doing q
calm-proposal made now p (answers.Handoff (handoffs.Vote payload)) doing q = calm-propose made p payload doing q
calm-proposal made now p (answers.Verdict good) doing q = q
calm-proposal made now p answers.Closed doing q = calm-give_up made now p p.state doing q

calm-verify : (made : Made) (now : ℕ) (v : Opened) (answer : Answer) (doing : Doing) → Calm doing → CalmActed (act_on_verify made now v answer doing)
unfolding act_on_verify
calm-verify made now v (answers.Payload payload) doing q = q
calm-verify made now v (answers.Handoff decision) doing q = q
calm-verify made now v (answers.Verdict true) doing q = q
calm-verify made now v (answers.Verdict false) doing q = q
calm-verify made now v answers.Closed doing q = q

calm-verdict : (made : Made) (view : ℕ) (good : Bool) (n : Option Notarization) (doing : Doing) → Calm doing → CalmActed (take_verdict made view good n doing)
calm-verdict made view good None doing q = q
calm-verdict made view good (Some n) doing q = q

calm-certify : (made : Made) (now : ℕ) (c : Opened) (answer : Answer) (doing : Doing) → Calm doing → CalmActed (act_on_certify made now c answer doing)
unfolding act_on_certify
calm-certify made now c (answers.Payload payload) doing q = q
calm-certify made now c (answers.Handoff decision) doing q = q
calm-certify made now c (answers.Verdict good) doing q = calm-verdict made c.view good _ _ q
calm-certify made now c answers.Closed doing q = q

calm-block : (leader : Option ℕ) (doing : Doing) → Calm doing → Calm (block_for leader doing)
calm-block None doing q = q
calm-block (Some leader) doing q = q

calm-certificate : (made : Made) (now : ℕ) (certificate : Certificate) (doing : Doing) → Calm doing → CalmActed (act_on_certificate made now certificate doing)
unfolding act_on_certificate
calm-certificate made now certificate doing q =
    let told = calm-block (replay_answer made doing.desk.known (record_of certificate))
    (append (record_of certificate) (record (tell made (adding certificate now) doing) { added = doing.added ++ certificate ∷ [] })) q in
    let handed = quiet-append _ (handed.Resolver (resolver.Updated certificate) ∷ []) told (record { none = refl }) in
    search (calm-if-acted, q, handed)

calm-mail : (made : Made) (now : ℕ) (message : Message) (doing : Doing) → Calm doing → CalmActed (act_on_mail made now message doing)
unfolding act_on_mail
calm-mail made now (mail.Proposal proposal) doing q = q
calm-mail made now (mail.Timeout round reason) doing q = q
calm-mail made now (mail.Verified certificate) doing q = calm-certificate made now certificate doing q

-- ---- the end of a step

calm-vote_notarize : (made : Made) (view : ℕ) (doing : Doing) → Calm doing → Calm (vote_notarize made view doing)
unfolding vote_notarize
calm-vote_notarize made view doing q = calm-option _ _ _ (λ n. q) q

calm-vote_finalize : (made : Made) (view : ℕ) (doing : Doing) → Calm doing → Calm (vote_finalize made view doing)
unfolding vote_finalize
calm-vote_finalize made view doing q = calm-option _ _ _ (λ n. q) q

calm-requests : (made : Made) (now : ℕ) (doing : Doing) → Calm doing → Calm (open_requests made now doing)
unfolding open_requests
calm-requests made now doing q = quiet-append _ _ q (quiet-sought _)

calm-sync : (view : ℕ) (doing : Doing) → Calm doing → Calm (sync view doing)
calm-sync view doing q = calm-if _ _ _ q q

calm-publish_verdict : (doing : Doing) → Calm doing → Calm (publish_verdict doing)
unfolding publish_verdict
calm-publish_verdict doing q =
    calm-option _ _ _
    (λ (v : Notarization × Bool).
    let told = hand (handed.Resolver (resolver.Certified v.0 v.1)) doing in
    let calm : Calm told = quiet-append _ _ q (quiet-one _) in
    calm-if v.1 (report (activities.Certification v.0) told) told calm calm)
    q

calm-with : (certificate : Option Certificate) (doing : Doing) → Calm doing → Calm (with_certificate certificate doing)
calm-with None doing q = q
calm-with (Some certificate) doing q = q

calm-publish_nullify : (doing : Doing) → Calm doing → Calm (publish_nullify doing)
unfolding publish_nullify
calm-publish_nullify doing q =
    calm-option _ _ _ (λ (n : Nullify × Option Certificate). calm-with n.1 _ (quiet-append _ _ q (record { none = refl }))) q

calm-publish_notarization : (made : Made) (view : ℕ) (doing : Doing) → Calm doing → Calm (publish_notarization made view doing)
unfolding publish_notarization
calm-publish_notarization made view doing q = calm-option _ _ _ (λ n. q) q

calm-publish_nullification : (made : Made) (view : ℕ) (doing : Doing) → Calm doing → Calm (publish_nullification made view doing)
unfolding publish_nullification
calm-publish_nullification made view doing q = calm-option _ _ _ (λ n. q) q

calm-publish_finalization : (made : Made) (view : ℕ) (doing : Doing) → Calm doing → Calm (publish_finalization made view doing)
unfolding publish_finalization
calm-publish_finalization made view doing q = calm-option _ _ _ (λ n. q) q

calm-update : (made : Made) (before : ℕ) (doing : Doing) → Calm doing → Calm (update_batcher made before doing)
unfolding update_batcher
calm-update made before doing q = calm-if _ _ _ (quiet-append _ _ q (record { none = refl })) q

calm-end : (made : Made) (now before view : ℕ) (doing : Doing) → Calm doing → Calm (end_of_step made now before view doing)
unfolding end_of_step
calm-end made now before view doing q =
    let voted = calm-vote_finalize made view _ (calm-vote_notarize made view doing q) in
    let opened = calm-sync view _ (calm-requests made now _ voted) in
    let nullified = calm-publish_nullify _ (calm-publish_verdict _ opened) in
    let notarized = calm-publish_notarization made view _ (calm-option _ _ _ (λ n. quiet-append _ _ nullified (record { none = refl })) nullified) in
    let given_up = calm-publish_nullification made view _ notarized in
    let finalized = calm-publish_finalization made view _ (calm-option _ _ _ (λ f. quiet-append _ _ given_up (record { none = refl })) given_up) in
    calm-update made before _ finalized

calm-prune_at : (least : Option ℕ) (doing : Doing) → Calm doing → Calm (prune_at least doing)
calm-prune_at None doing q = q
calm-prune_at (Some least) doing q = q

calm-iteration : (made : Made) (now : ℕ) (doing : Doing) → Calm doing → Calm (begin_iteration made now doing)
unfolding begin_iteration prune
calm-iteration made now doing q = calm-prune_at _ _ (quiet-append _ _ q (quiet-sought _))

calm-finished : (made : Made) (now before : ℕ) (acted : Doing × Option ℕ) → CalmActed acted → Calm (finished made now before acted)
unfolding finished
calm-finished made now before (doing, None) q = calm-iteration made now _ q
calm-finished made now before (doing, Some view) q = calm-iteration made now _ (calm-end made now before view doing q)

-- ---- a step

calm-take : (made : Made) (now : ℕ) (s : Standing) (p : Pending) (at : ProposalState) → IfCalm (take_proposal made now s p at)
calm-take made now s p Preparing = ifcalm-map _ _ (λ answer. calm-proposal made now p answer _ quiet-nil)
calm-take made now s p Proposing = ifcalm-map _ _ (λ answer. calm-proposal made now p answer _ quiet-nil)
calm-take made now s p Waiting = ifcalm-none
calm-take made now s p (Held payload) = ifcalm-if _ _ (calm-propose made p payload _ quiet-nil)
calm-take made now s p Closed = ifcalm-none

calm-acted : (made : Made) (now : ℕ) (s : Standing) (input : VoterInput) → IfCalm (acted made now s input)
unfolding acted
calm-acted made now s (inputs.Mail message) = ifcalm-some (act_on_mail made now message (begun s.desk)) (calm-mail made now message (begun s.desk) quiet-nil)
calm-acted made now s inputs.Timer =
    ifcalm-if (nat_le (deadline_of made s.desk.known).0 now) (act_on_deadline made now (begun s.desk), Some (current_of made s.desk.known))
    (calm-deadline made now (begun s.desk) quiet-nil)
calm-acted made now s inputs.Propose = ifcalm-then _ _ (λ p. calm-take made now s p p.state)
calm-acted made now s inputs.Verify =
    ifcalm-then _ _ (λ (v : Opened).
    ifcalm-map (λ answer. act_on_verify made now v answer (begun s.desk)) (answer_to s.answers v.number)
    (λ answer. calm-verify made now v answer (begun s.desk) quiet-nil))
calm-acted made now s inputs.Certify =
    ifcalm-map _ _ (λ (taken : Opened × Answer). calm-certify made now taken.0 taken.1 (begun s.desk) quiet-nil)

quiet-at : (stop : Stop) (doing : Doing) (sections : List Section) (place : Option ℕ) → Calm doing
    → Quiet (option_map_or (broken stop doing sections) place (whole doing sections)).out.handed
quiet-at stop doing sections None q = record { none = q.none }
quiet-at stop doing sections (Some place) q = quiet-nil

quiet-performed : (stop : Stop) (doing : Doing) (sections : List Section) → Calm doing → Quiet (performed stop doing sections).out.handed
unfolding performed
quiet-performed stop doing sections q = quiet-at stop doing sections _ q

quiet-stepped : (made : Made) (now before : ℕ) (stop : Stop) (sections : List Section) (o : Option (Doing × Option ℕ)) → IfCalm o
    → Quiet (option_map_or (λ doing. performed stop doing sections) (option_map (finished made now before) o) (idle sections)).out.handed
quiet-stepped made now before stop sections None q = quiet-nil
quiet-stepped made now before stop sections (Some acted) q = quiet-performed stop _ sections (calm-finished made now before acted (q.calm acted refl))

-- a step hands the voter nothing
pub step-quiet : (made : VoterMade) (past : List Given) (input : VoterInput) (now : ℕ) (stop : Stop)
    → filter_map for_voter (step_given made past input now stop).out.handed ≡ []
unfolding step_given stepped
step-quiet made past input now stop =
    let before = place_of made past in
    (quiet-stepped made.rules now _ stop before.sections _ (calm-acted made.rules now before.standing input)).none

-- ---- a start

calm-report_if : (activity : Option Activity) (doing : Doing) → Calm doing → Calm (report_if activity doing)
calm-report_if None doing q = q
calm-report_if (Some activity) doing q = q

calm-updated_if : (certificate : Option Certificate) (doing : Doing) → Calm doing → Calm (updated_if certificate doing)
calm-updated_if None doing q = q
calm-updated_if (Some certificate) doing q = quiet-append _ _ q (record { none = refl })

calm-replay_verdict : (good : Bool) (n : Option Notarization) (doing : Doing) → Calm doing → Calm (replay_verdict good n doing)
calm-replay_verdict true None doing q = q
calm-replay_verdict false None doing q = q
calm-replay_verdict true (Some n) doing q = quiet-append _ _ q (record { none = refl })
calm-replay_verdict false (Some n) doing q = quiet-append _ _ q (record { none = refl })

calm-told : (made : Made) (now : ℕ) (doing : Doing) (artifact : Artifact) → Calm doing
    → Calm (updated_if (certificate_in artifact) (report_if (activity_of artifact)
    (block_for (replay_answer made doing.desk.known artifact) (tell made (state.Replay artifact now) doing))))
calm-told made now doing artifact q = calm-updated_if _ _ (calm-report_if _ _ (calm-block _ _ q))

calm-record : (made : Made) (now : ℕ) (doing : Doing) (artifact : Artifact) → Calm doing → Calm (replay_record made now doing artifact)
unfolding replay_record
calm-record made now doing (artifacts.Certification round good) q = calm-replay_verdict good _ _ q
calm-record made now doing (artifacts.Notarize v) q = calm-told made now doing (artifacts.Notarize v) q
calm-record made now doing (artifacts.Notarization n) q = calm-told made now doing (artifacts.Notarization n) q
calm-record made now doing (artifacts.Nullify v) q = calm-told made now doing (artifacts.Nullify v) q
calm-record made now doing (artifacts.Nullification n) q = calm-told made now doing (artifacts.Nullification n) q
calm-record made now doing (artifacts.Finalize v) q = calm-told made now doing (artifacts.Finalize v) q
calm-record made now doing (artifacts.Finalization f) q = calm-told made now doing (artifacts.Finalization f) q

calm-records : (made : Made) (now floor : ℕ) (records : List Artifact) (doing : Doing) → Calm doing → Calm (replay_all made now floor doing records)
unfolding replay_all
calm-records made now floor [] doing q = q
calm-records made now floor (artifact ∷ rest) doing q =
    calm-records made now floor rest _ (calm-if _ _ _ (calm-record made now doing artifact q) q)

calm-stand : (made : Made) (now : ℕ) (floor : Floor) (doing : Doing) → Calm doing → Calm (stand_on made now floor doing)
calm-stand made now (floors.Genesis payload) doing q = q
calm-stand made now (floors.Finalized f) doing q = quiet-append _ _ q (record { none = refl })

calm-keep : (floor : Floor) (records : List Artifact) (doing : Doing) → Calm doing → Calm (keep_floor floor records doing)
calm-keep (floors.Genesis payload) records doing q = q
calm-keep (floors.Finalized f) records doing q =
    let view = view_of f.proposal in
    let kept = sync view (append (artifacts.Finalization f) doing) in
    calm-if (list_any (is_final_from view) records) doing kept q (calm-sync view (append (artifacts.Finalization f) doing) q)

calm-started : (made : Made) (now : ℕ) (floor : Floor) (records : List Artifact) → Calm (started made now floor records)
unfolding started
calm-started made now floor records =
    let replayed = quiet-append _ _ (calm-records made now _ records _ (calm-stand made now floor _ quiet-nil)) (record { none = refl }) in
    calm-iteration made now _ (quiet-append _ _ (calm-keep floor records _ replayed) (record { none = refl }))

quiet-if : (test : Bool) (x y : Performed) → Quiet x.out.handed → Quiet y.out.handed → Quiet (if test then x else y).out.handed
quiet-if true x y q r = q
quiet-if false x y q r = r

quiet-start : (stop : Stop) (floor : Floor) (doing : Doing) (sections : List Section) → Calm doing → Quiet (start_performed stop floor doing sections).out.handed
unfolding start_performed
quiet-start stops.None floor doing sections q = quiet-performed _ doing sections q
quiet-start (stops.Cut call keep) floor doing sections q = quiet-performed _ doing sections q
quiet-start (stops.Fail call keep) floor doing sections q = quiet-if _ _ _ quiet-nil (quiet-performed _ doing sections q)

-- a start hands the voter nothing
pub start-quiet : (made : VoterMade) (past : List Given) (now : ℕ) (stop : Stop) → filter_map for_voter (start_given made past now stop).out.handed ≡ []
unfolding start_given
start-quiet made past now stop = (quiet-start stop made.floor _ _ (calm-started made.rules now made.floor _)).none
