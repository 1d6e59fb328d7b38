-- But for own votes nothing is learned once a step has acted.
use Rattle.std.proofs.Common.{◌≡◌, ℕ, ◌-◌, nat_lt, Bool, true, false, cond, List, [], ◌∷◌, ◌++◌, filter, Option, Some, None, refl, sym, ap, ◌∙◌, subst, if◌then◌else◌}
use Rattle.std.specs.Option.{option_map_or}
use Rattle.simplex_wire.specs.declared.certificate.Certificate.{Certificate}
use Rattle.simplex_wire.specs.declared.certificate.Certificate.TheVariants as certificates
use Rattle.simplex_wire.specs.declared.certificate.Notarization.{Notarization}
use Rattle.simplex_wire.specs.declared.certificate.Nullification.{Nullification}
use Rattle.simplex_wire.specs.declared.certificate.Finalization.{Finalization}
use Rattle.simplex_wire.specs.declared.artifact.Artifact.TheVariants as artifacts
use Rattle.simplex_wire.specs.declared.vote.Notarize.{Notarize}
use Rattle.simplex_wire.specs.declared.vote.Nullify.{Nullify}
use Rattle.simplex_wire.specs.declared.vote.Finalize.{Finalize}
use Rattle.simplex_wire.specs.declared.vote.Vote.TheVariants as votes
use Rattle.simplex_types.specs.declared.activity.Activity.TheVariants as activities
use Rattle.model_rules.specs.Known.{Made, Fact, FloorAt, Added, Taken, Answered, Approved, Judged, Voted, Published, Expired, Failed, Broadcast, ProposalAsked, ProposalFreed, VerifyAsked, CertifyAsked, MissingAsked, ParentAsked, Pruned}
use Rattle.model_rules.specs.Votes.{notarize_at, finalize_at}
use Rattle.model_rules.specs.Views.{current_of}
use Rattle.model_rules.specs.Best.{forwardable_at}
use Rattle.model_rules.specs.Calls as state
use Rattle.model_rules.specs.Calls.{fact_of, facts_of, unsent_notarization, unsent_nullification, unsent_finalization, prune_answer}
use Rattle.model_rules.specs.Pending.{reconciled, iterated}
use Rattle.simplex_messages.specs.declared.call.Call.TheVariants as calls
use Rattle.simplex_messages.specs.declared.handed.Handed.TheVariants as handed
use Rattle.simplex_messages.specs.declared.resolver.MailboxMessage.TheVariants as resolver
use Rattle.model_steps.specs.Desk.{Doing, tell, make, hand, append, seek, send_vote, send_certificate, report}
use Rattle.model_steps.specs.Voter.{vote_notarize, vote_finalize, open_requests, sync, publish_verdict, with_certificate, publish_nullify, publish_notarization, publish_nullification, publish_finalization, update_message, update_batcher, end_of_step, prune_at, prune, begin_iteration, finished}
use Rattle.law_member.specs.Learned.{is_lasting, lasting, additions}
use Rattle.law_member.specs.Tidings.{of_proposals}
use Rattle.law_member.proofs.Quiet.{Same, told_quiet, reconciled_same, iterated_same}
use Rattle.model_audit.specs.Alike.{is_verdict, verdicts}

-- the same certificates, verdicts and proposals
pub record Later (before after : List Fact) : Type 0 where
  pub certificates : additions after ≡ additions before
  pub judged : verdicts after ≡ verdicts before
  pub proposals : of_proposals after ≡ of_proposals before

later_itself : (a : List Fact) → Later a a
later_itself a = record { certificates = refl; judged = refl; proposals = refl }

later_then : (a b c : List Fact) → Later a b → Later b c → Later a c
later_then a b c p q = record { certificates = q.certificates ∙ p.certificates; judged = q.judged ∙ p.judged; proposals = q.proposals ∙ p.proposals }

-- ---- a verdict lasts

verdict_lasts : (f : Fact) → is_lasting f ≡ false → is_verdict f ≡ false
verdict_lasts (FloorAt v p) e = refl
verdict_lasts (Added c now) e = refl
verdict_lasts (Taken p) e = refl
verdict_lasts (Answered p) e = refl
verdict_lasts (Approved p) e = refl
verdict_lasts (Judged v good now) e = cc
verdict_lasts (Voted vote) e = refl
verdict_lasts (Published v now) e = refl
verdict_lasts (Expired v r now) e = refl
verdict_lasts (Failed v r) e = refl
verdict_lasts (Broadcast k v) e = refl
verdict_lasts (ProposalAsked v) e = refl
verdict_lasts (ProposalFreed v) e = refl
verdict_lasts (VerifyAsked p) e = refl
verdict_lasts (CertifyAsked v) e = refl
verdict_lasts (MissingAsked p v k) e = refl
verdict_lasts (ParentAsked p) e = refl
verdict_lasts (Pruned v) e = refl

-- what is told of lasting facts, is told of some of them
pub within : (some all : Fact → Bool) → ((f : Fact) → all f ≡ false → some f ≡ false) → (known : List Fact) → filter some (filter all known) ≡ filter some known
within some all less [] = refl
within some all less (f ∷ known) = at (within some all less known) (all f) refl
  where
    at : filter some (filter all known) ≡ filter some known → (b : Bool) → all f ≡ b → filter some (cond b (f ∷ filter all known) (filter all known)) ≡ cond (some f) (f ∷ filter some known) (filter some known)
    at same true e = ap (λ rest. cond (some f) (f ∷ rest) rest) same
    at same false e = same ∙ sym (ap (λ b. cond b (f ∷ filter some known) (filter some known)) (less f e))

pub verdicts_last : (known : List Fact) → verdicts (lasting known) ≡ verdicts known
verdicts_last = within is_verdict is_lasting verdict_lasts

later_same : (a b : List Fact) → Same a b → Later a b
later_same a b s = record { certificates = s.adds; judged = sym (verdicts_last b) ∙ ap verdicts s.lasts ∙ verdicts_last a; proposals = s.learns }

-- ---- own votes

later_notarized : (known : List Fact) (o : Option Notarize) → Later known (fact_of (λ v. Voted (votes.Notarize v)) o ++ known)
later_notarized known None = later_itself known
later_notarized known (Some v) = record { certificates = refl; judged = refl; proposals = refl }

later_finalized : (known : List Fact) (o : Option Finalize) → Later known (fact_of (λ v. Voted (votes.Finalize v)) o ++ known)
later_finalized known None = later_itself known
later_finalized known (Some v) = record { certificates = refl; judged = refl; proposals = refl }

notarize_later : (made : Made) (view : ℕ) (d : Doing) → Later d.desk.known (vote_notarize made view d).desk.known
unfolding vote_notarize facts_of
notarize_later made view d = at (notarize_at made d.desk.known view) (later_notarized d.desk.known (notarize_at made d.desk.known view))
  where
    at : (o : Option Notarize) → Later d.desk.known (tell made (state.ConstructNotarize view) d).desk.known
        → Later d.desk.known (option_map_or (λ n. append (artifacts.Notarize n) (tell made (state.ConstructNotarize view) d)) o (tell made (state.ConstructNotarize view) d)).desk.known
    at None l = l
    at (Some n) l = l

finalize_later : (made : Made) (view : ℕ) (d : Doing) → Later d.desk.known (vote_finalize made view d).desk.known
unfolding vote_finalize facts_of
finalize_later made view d = at (finalize_at made d.desk.known view) (later_finalized d.desk.known (finalize_at made d.desk.known view))
  where
    at : (o : Option Finalize) → Later d.desk.known (tell made (state.ConstructFinalize view) d).desk.known
        → Later d.desk.known (option_map_or (λ n. append (artifacts.Finalize n) (tell made (state.ConstructFinalize view) d)) o (tell made (state.ConstructFinalize view) d)).desk.known
    at None l = l
    at (Some n) l = l

-- ---- what is published

requests_later : (made : Made) (now : ℕ) (d : Doing) → Later d.desk.known (open_requests made now d).desk.known
unfolding open_requests
requests_later made now d = later_same d.desk.known (reconciled made now d.desk).known (reconciled_same made now d.desk)

sync_known : (view : ℕ) (d : Doing) → (sync view d).desk.known ≡ d.desk.known
sync_known view d = at d.wrote
  where
    at : (b : Bool) → (if b then make (calls.Sync view) d else d).desk.known ≡ d.desk.known
    at true = refl
    at false = refl

verdict_known : (d : Doing) → (publish_verdict d).desk.known ≡ d.desk.known
unfolding publish_verdict
verdict_known d = at d.verdict
  where
    judged : (n : Notarization) (good : Bool) → (if good then report (activities.Certification n) (hand (handed.Resolver (resolver.Certified n good)) d) else hand (handed.Resolver (resolver.Certified n good)) d).desk.known ≡ d.desk.known
    judged n true = refl
    judged n false = refl

    at : (o : Option (Notarization × Bool)) → (option_map_or (λ v. let told = hand (handed.Resolver (resolver.Certified v.0 v.1)) d in if v.1 then report (activities.Certification v.0) told else told) o d).desk.known ≡ d.desk.known
    at None = refl
    at (Some v) = judged v.0 v.1

nullify_known : (d : Doing) → (publish_nullify d).desk.known ≡ d.desk.known
unfolding publish_nullify
nullify_known d = at d.nullify
  where
    along : (n : Nullify) (o : Option Certificate) → (with_certificate o (send_vote (votes.Nullify n) d)).desk.known ≡ d.desk.known
    along n None = refl
    along n (Some c) = refl

    at : (o : Option (Nullify × Option Certificate)) → (option_map_or (λ n. with_certificate n.1 (send_vote (votes.Nullify n.0) d)) o d).desk.known ≡ d.desk.known
    at None = refl
    at (Some n) = along n.0 n.1

notarization_later : (made : Made) (view : ℕ) (d : Doing) → Later d.desk.known (publish_notarization made view d).desk.known
unfolding publish_notarization
notarization_later made view d =
    at (unsent_notarization d.desk.known view) (later_same d.desk.known (tell made (state.BroadcastNotarization view) d).desk.known (told_quiet made d.desk.known (state.BroadcastNotarization view) tt))
  where
    at : (o : Option Notarization) → Later d.desk.known (tell made (state.BroadcastNotarization view) d).desk.known
        → Later d.desk.known (option_map_or (λ n. report (activities.Notarization n) (send_certificate (certificates.Notarization n) (tell made (state.BroadcastNotarization view) d))) o (tell made (state.BroadcastNotarization view) d)).desk.known
    at None l = l
    at (Some n) l = l

nullification_later : (made : Made) (view : ℕ) (d : Doing) → Later d.desk.known (publish_nullification made view d).desk.known
unfolding publish_nullification
nullification_later made view d =
    at (unsent_nullification d.desk.known view) (later_same d.desk.known (tell made (state.BroadcastNullification view) d).desk.known (told_quiet made d.desk.known (state.BroadcastNullification view) tt))
  where
    at : (o : Option Nullification) → Later d.desk.known (tell made (state.BroadcastNullification view) d).desk.known
        → Later d.desk.known (option_map_or (λ n. report (activities.Nullification n) (send_certificate (certificates.Nullification n) (tell made (state.BroadcastNullification view) d))) o (tell made (state.BroadcastNullification view) d)).desk.known
    at None l = l
    at (Some n) l = l

finalization_later : (made : Made) (view : ℕ) (d : Doing) → Later d.desk.known (publish_finalization made view d).desk.known
unfolding publish_finalization
finalization_later made view d =
    at (unsent_finalization d.desk.known view) (later_same d.desk.known (tell made (state.BroadcastFinalization view) d).desk.known (told_quiet made d.desk.known (state.BroadcastFinalization view) tt))
  where
    at : (o : Option Finalization) → Later d.desk.known (tell made (state.BroadcastFinalization view) d).desk.known
        → Later d.desk.known (option_map_or (λ n. report (activities.Finalization n) (send_certificate (certificates.Finalization n) (tell made (state.BroadcastFinalization view) d))) o (tell made (state.BroadcastFinalization view) d)).desk.known
    at None l = l
    at (Some n) l = l

sent_known : {A : Type 0} (f : A → Doing → Doing) (o : Option A) (d : Doing) → ((a : A) → (f a d).desk.known ≡ d.desk.known) → (option_map_or (λ a. f a d) o d).desk.known ≡ d.desk.known
sent_known f None d same = refl
sent_known f (Some a) d same = same a

update_known : (made : Made) (before : ℕ) (d : Doing) → (update_batcher made before d).desk.known ≡ d.desk.known
unfolding update_batcher
update_known made before d = at (nat_lt before (current_of made d.desk.known))
  where
    at : (b : Bool) → (if b then hand (update_message made d.desk.known (forwardable_at d.desk.known (current_of made d.desk.known - 1))) d else d).desk.known ≡ d.desk.known
    at true = refl
    at false = refl

-- ---- the end of a step, and the next iteration

later_is : (a b c : List Fact) → c ≡ b → Later a b → Later a c
later_is a b c e l = subst (Later a) (sym e) l

pub ends_later : (made : Made) (now before view : ℕ) (d : Doing) → Later d.desk.known (end_of_step made now before view d).desk.known
unfolding end_of_step
ends_later made now before view d =
    let notarize = notarize_at made d.desk.known view in
    let voted = vote_notarize made view d in
    let finalize = finalize_at made voted.desk.known view in
    let finalized = vote_finalize made view voted in
    let asked = open_requests made now finalized in
    let opened = sync view asked in
    let judged = publish_verdict opened in
    let nullified = publish_nullify judged in
    let sent = option_map_or (λ n. send_vote (votes.Notarize n) nullified) notarize nullified in
    let notarized = publish_notarization made view sent in
    let given_up = publish_nullification made view notarized in
    let last = option_map_or (λ f. send_vote (votes.Finalize f) given_up) finalize given_up in
    let final = publish_finalization made view last in
    let a = later_then d.desk.known voted.desk.known finalized.desk.known (notarize_later made view d) (finalize_later made view voted) in
    let b = later_then d.desk.known finalized.desk.known asked.desk.known a (requests_later made now finalized) in
    let same : sent.desk.known ≡ asked.desk.known =
    sent_known (λ n. send_vote (votes.Notarize n)) notarize nullified (λ n. refl) ∙ nullify_known judged ∙ verdict_known opened ∙ sync_known view asked in
    let c = later_then d.desk.known sent.desk.known notarized.desk.known (later_is d.desk.known asked.desk.known sent.desk.known same b) (notarization_later made view sent) in
    let e = later_then d.desk.known notarized.desk.known given_up.desk.known c (nullification_later made view notarized) in
    let f = later_is d.desk.known given_up.desk.known last.desk.known (sent_known (λ f. send_vote (votes.Finalize f)) finalize given_up (λ n. refl)) e in
    let g = later_then d.desk.known last.desk.known final.desk.known f (finalization_later made view last) in
    later_is d.desk.known final.desk.known (update_batcher made before final).desk.known (update_known made before final) g

pruned_known : (o : Option ℕ) (d : Doing) → (prune_at o d).desk.known ≡ d.desk.known
pruned_known None d = refl
pruned_known (Some least) d = refl

begins_later : (made : Made) (now : ℕ) (d : Doing) → Later d.desk.known (begin_iteration made now d).desk.known
unfolding begin_iteration prune
begins_later made now d =
    let asked = seek (record d { desk = iterated made now d.desk }) in
    let told = tell made state.Prune asked in
    later_is d.desk.known told.desk.known (prune_at (prune_answer made asked.desk.known) told).desk.known (pruned_known (prune_answer made asked.desk.known) told)
    (later_then d.desk.known asked.desk.known told.desk.known (later_same d.desk.known asked.desk.known (iterated_same made now d.desk))
    (later_same asked.desk.known told.desk.known (told_quiet made asked.desk.known state.Prune tt)))

pub finishes_later : (made : Made) (now before : ℕ) (d : Doing) (o : Option ℕ) → Later d.desk.known (finished made now before (d, o)).desk.known
unfolding finished
finishes_later made now before d None = begins_later made now d
finishes_later made now before d (Some view) =
    later_then d.desk.known (end_of_step made now before view d).desk.known (begin_iteration made now (end_of_step made now before view d)).desk.known
    (ends_later made now before view d) (begins_later made now (end_of_step made now before view d))
