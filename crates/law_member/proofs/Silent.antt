-- Before it publishes, a step hands no constructed vote to the batcher.
use Rattle.std.proofs.Common.{◌≡◌, ℕ, not, Bool, true, false, nat_le, List, [], ◌∷◌, ◌++◌, Option, Some, None, sym, subst, if◌then◌else◌}
use Rattle.std.specs.Option.{option_map, option_map_or, option_and_then}
use Rattle.simplex_values.specs.declared.answer.Answer.{Answer}
use Rattle.simplex_values.specs.declared.answer.Answer.TheVariants as answers
use Rattle.simplex_values.specs.declared.answer.Handoff.TheVariants as handoffs
use Rattle.simplex_values.specs.declared.plan.Plan.TheVariants as plans
use Rattle.simplex_values.specs.declared.timeout.TimeoutReason.TheVariants.{LeaderTimeout}
use Rattle.simplex_wire.specs.declared.certificate.Certificate.{Certificate}
use Rattle.simplex_wire.specs.declared.certificate.Notarization.{Notarization}
use Rattle.simplex_wire.specs.declared.artifact.Artifact.TheVariants as artifacts
use Rattle.simplex_wire.specs.declared.vote.Notarize.{Notarize}
use Rattle.simplex_wire.specs.declared.vote.Nullify.{Nullify}
use Rattle.simplex_wire.specs.declared.vote.Finalize.{Finalize}
use Rattle.simplex_messages.specs.declared.call.Call.TheVariants as calls
use Rattle.simplex_messages.specs.declared.handed.Handed.TheVariants as handed
use Rattle.simplex_messages.specs.declared.resolver.MailboxMessage.TheVariants as resolver
use Rattle.simplex_messages.specs.declared.voter.Message.{Message}
use Rattle.simplex_messages.specs.declared.voter.Message.TheVariants as mail
use Rattle.simplex_messages.specs.declared.voter.VoterInput.{VoterInput}
use Rattle.simplex_messages.specs.declared.voter.VoterInput.TheVariants as inputs
use Rattle.model_rules.specs.declared.request.ProposalState.{ProposalState}
use Rattle.model_rules.specs.declared.request.ProposalState.TheVariants.{Preparing, Proposing, Waiting, Held, Closed}
use Rattle.model_rules.specs.Known.{Made, has_nullified}
use Rattle.model_rules.specs.Views.{current_of, admits_certificate}
use Rattle.model_rules.specs.Slot.{records_answer}
use Rattle.model_rules.specs.Ancestry.{is_certified}
use Rattle.model_rules.specs.Deadline.{deadline_of}
use Rattle.model_rules.specs.Best.{best_certificate}
use Rattle.model_rules.specs.Votes.{notarize_at, nullify_at, finalize_at}
use Rattle.model_rules.specs.Calls as state
use Rattle.model_rules.specs.Calls.{replay_answer, certified_answer, prune_answer}
use Rattle.model_rules.specs.Pending.{Pending, Opened, pending_view, pending_parent, reconciled, iterated}
use Rattle.model_steps.specs.Desk.{Doing, begun, tell, make, hand, append, resolve_of, seek}
use Rattle.model_steps.specs.Voter.{Standing, answer_to, settle_proposal, proposal_stands, settle_certify, propose, stage, give_up, act_on_deadline, act_on_proposal, act_on_verify, act_on_certify, take_verdict, record_of, adds, adding, block_for, certificate_view, act_on_certificate, act_on_mail, take_proposal, first_answered, acted, vote_notarize, vote_finalize, open_requests, sync, prune_at, prune, begin_iteration}
use Rattle.law_agreement.specs.Member.{Member}
use Rattle.law_member.specs.Life.{AreVotesSent}
use Rattle.law_member.proofs.Constructing.{AreSilent, AreSilent-append, AreSilent-map, all_silent, AreVotesSent-append}
use Rattle.law_member.proofs.Living.{behind}
use Rattle.law_member.proofs.Simulating.{behind-push}

abbrev pub Silent : Doing → Type 0
Silent d = AreSilent d.handed

-- ---- what a step acts on

silent_propose : (made : Made) (p : Pending) (payload : List ℕ) (d : Doing) → Silent d → Silent (propose made p payload d).0
unfolding propose
silent_propose made p payload d s = at (records_answer made d.desk.known (pending_view p))
  where
    at : (t : Bool) → (let told = settle_proposal (tell made (state.Proposed p.context payload) d) in
        let outcome : Doing × Option ℕ = if t then (make (calls.Relay payload (plans.Propose p.context.round)) told, Some (pending_view p)) else (told, None) in
        Silent outcome.0)
    at true = s
    at false = s

silent_stage : (made : Made) (p : Pending) (payload : List ℕ) (d : Doing) → Silent d → Silent (stage made p payload d).0
unfolding stage
silent_stage made p payload d s = at (is_certified d.desk.known (pending_parent p))
  where
    at : (t : Bool) → (let outcome : Doing × Option ℕ = if t then propose made p payload d
        else (proposal_stands p (Held payload) (make (calls.Relay payload (plans.Prepare p.context.round)) d), None) in Silent outcome.0)
    at true = silent_propose made p payload d s
    at false = s

silent_give_up : (made : Made) (now : ℕ) (p : Pending) (at : ProposalState) (d : Doing) → Silent d → Silent (give_up made now p at d).0
unfolding give_up
silent_give_up made now p Preparing d s = s
silent_give_up made now p _ d s = s

silent_proposal : (made : Made) (now : ℕ) (p : Pending) (answer : Answer) (d : Doing) → Silent d → Silent (act_on_proposal made now p answer d).0
unfolding act_on_proposal
silent_proposal made now p (answers.Payload payload) d s = silent_propose made p payload d s
silent_proposal made now p (answers.Handoff handoffs.Wait) d s = s
silent_proposal made now p (answers.Handoff (handoffs.Stage payload)) d s = silent_stage made p payload d s
silent_proposal made now p (answers.Handoff (handoffs.Vote payload)) d s = silent_propose made p payload d s
silent_proposal made now p (answers.Verdict good) d s = s
silent_proposal made now p answers.Closed d s = silent_give_up made now p p.state d s

silent_verify : (made : Made) (now : ℕ) (v : Opened) (answer : Answer) (d : Doing) → Silent d → Silent (act_on_verify made now v answer d).0
unfolding act_on_verify
silent_verify made now v (answers.Verdict true) d s = s
silent_verify made now v (answers.Verdict false) d s = s
silent_verify made now v _ d s = s

silent_verdict : (made : Made) (view : ℕ) (good : Bool) (o : Option Notarization) (d : Doing) → Silent d → Silent (take_verdict made view good o d).0
silent_verdict made view good None d s = s
silent_verdict made view good (Some n) d s = s

silent_certify : (made : Made) (now : ℕ) (c : Opened) (answer : Answer) (d : Doing) → Silent d → Silent (act_on_certify made now c answer d).0
unfolding act_on_certify
silent_certify made now c (answers.Verdict good) d s =
    silent_verdict made c.view good (certified_answer d.desk.known c.view) (tell made (state.Certified c.view good now) (settle_certify c.number d)) s
silent_certify made now c _ d s = s

silent_block : (o : Option ℕ) (d : Doing) → Silent d → Silent (block_for o d)
silent_block None d s = s
silent_block (Some leader) d s = s

silent_certificate : (made : Made) (now : ℕ) (c : Certificate) (d : Doing) → Silent d → Silent (act_on_certificate made now c d).0
unfolding act_on_certificate
silent_certificate made now c d s = at (admits_certificate made d.desk.known (certificate_view c)) (adds made d.desk.known c)
  where
    at : (admitted added : Bool) → (let known = d.desk.known in let told = tell made (adding c now) d in
        let outcome : Doing × Option ℕ = if not admitted then (told, None)
        else if added
        then (
          hand (handed.Resolver (resolver.Updated c))
              (block_for (replay_answer made known (record_of c))
              (append (record_of c) (record told { added = d.added ++ c ∷ [] }))),
          Some (certificate_view c),
        )
        else (told, Some (certificate_view c)) in Silent outcome.0)
    at false added = s
    at true false = s
    at true true =
        let noted = append (record_of c) (record (tell made (adding c now) d) { added = d.added ++ c ∷ [] }) in
        let o = replay_answer made d.desk.known (record_of c) in
        AreSilent-append (block_for o noted).handed (handed.Resolver (resolver.Updated c) ∷ []) (silent_block o noted s) (tt, tt)

silent_mail : (made : Made) (now : ℕ) (message : Message) (d : Doing) → Silent d → Silent (act_on_mail made now message d).0
unfolding act_on_mail
silent_mail made now (mail.Proposal proposal) d s = s
silent_mail made now (mail.Timeout round reason) d s = s
silent_mail made now (mail.Verified c) d s = silent_certificate made now c d s

silent_deadline : (made : Made) (now : ℕ) (d : Doing) → Silent d → Silent (act_on_deadline made now d)
unfolding act_on_deadline
silent_deadline made now d s = at (nullify_at made (current_of made d.desk.known))
  where
    one : (n : Nullify) (t : Bool) → Silent (if t
        then record (tell made (state.ConstructNullify (current_of made d.desk.known) LeaderTimeout now) d) { nullify = Some (n, best_certificate made d.desk.known) }
        else record (append (artifacts.Nullify n) (tell made (state.ConstructNullify (current_of made d.desk.known) LeaderTimeout now) d)) { nullify = Some (n, None) })
    one n true = s
    one n false = s

    at : (o : Option Nullify) → Silent (option_map_or (λ n.
        if has_nullified d.desk.known (current_of made d.desk.known)
        then record (tell made (state.ConstructNullify (current_of made d.desk.known) LeaderTimeout now) d) { nullify = Some (n, best_certificate made d.desk.known) }
        else record (append (artifacts.Nullify n) (tell made (state.ConstructNullify (current_of made d.desk.known) LeaderTimeout now) d)) { nullify = Some (n, None) })
        o d)
    at None = s
    at (Some n) = one n (has_nullified d.desk.known (current_of made d.desk.known))

-- ---- whatever its source holds

abbrev SilentOutcome : Doing × Option ℕ → Type 0
SilentOutcome outcome = Silent outcome.0

pub some_is : {A : Type 0} (a b : A) → Some a ≡ Some b → a ≡ b
some_is a b e = cc

-- what an option gives, its value gives
pub gives : {A B : Type 0} (P : B → Type 0) (f : A → B) (o : Option A) (b : B) → ((a : A) → P (f a)) → option_map f o ≡ Some b → P b
gives P f None b each e = cc
gives P f (Some a) b each e = subst P (some_is (f a) b e) (each a)

pub gives_some : {A B : Type 0} (P : B → Type 0) (f : A → Option B) (o : Option A) (b : B) → ((a : A) → f a ≡ Some b → P b) → option_and_then f o ≡ Some b → P b
gives_some P f None b each e = cc
gives_some P f (Some a) b each e = each a e

silent_taken : (made : Made) (now : ℕ) (s : Standing) (p : Pending) (at : ProposalState) (outcome : Doing × Option ℕ) → take_proposal made now s p at ≡ Some outcome → SilentOutcome outcome
silent_taken made now s p (Held payload) outcome e = held (is_certified s.desk.known (pending_parent p)) e
  where
    held : (t : Bool) → (if t then Some (propose made p payload (begun s.desk)) else None) ≡ Some outcome → SilentOutcome outcome
    held true h = subst SilentOutcome (some_is _ outcome h) (silent_propose made p payload (begun s.desk) tt)
    held false h = cc
silent_taken made now s p Preparing outcome e =
    gives SilentOutcome (λ answer. act_on_proposal made now p answer (begun s.desk)) (answer_to s.answers p.number) outcome (λ answer. silent_proposal made now p answer (begun s.desk) tt) e
silent_taken made now s p Proposing outcome e =
    gives SilentOutcome (λ answer. act_on_proposal made now p answer (begun s.desk)) (answer_to s.answers p.number) outcome (λ answer. silent_proposal made now p answer (begun s.desk) tt) e
silent_taken made now s p Waiting outcome e = cc
silent_taken made now s p Closed outcome e = cc

pub silent_acted : (made : Made) (now : ℕ) (s : Standing) (input : VoterInput) (outcome : Doing × Option ℕ) → acted made now s input ≡ Some outcome → AreSilent outcome.0.handed
unfolding acted
silent_acted made now s (inputs.Mail message) outcome e = subst SilentOutcome (some_is _ outcome e) (silent_mail made now message (begun s.desk) tt)
silent_acted made now s inputs.Timer outcome e = due (nat_le (deadline_of made s.desk.known).0 now) e
  where
    due : (t : Bool) → (if t then Some (act_on_deadline made now (begun s.desk), Some (current_of made s.desk.known)) else None) ≡ Some outcome → SilentOutcome outcome
    due true h = subst SilentOutcome (some_is _ outcome h) (silent_deadline made now (begun s.desk) tt)
    due false h = cc
silent_acted made now s inputs.Propose outcome e =
    gives_some SilentOutcome (λ (p : Pending). take_proposal made now s p p.state) s.desk.proposal outcome (λ p. silent_taken made now s p p.state outcome) e
silent_acted made now s inputs.Verify outcome e =
    gives_some SilentOutcome (λ (v : Opened). option_map (λ answer. act_on_verify made now v answer (begun s.desk)) (answer_to s.answers v.number)) s.desk.verify outcome
    (λ v. gives SilentOutcome (λ answer. act_on_verify made now v answer (begun s.desk)) (answer_to s.answers v.number) outcome (λ answer. silent_verify made now v answer (begun s.desk) tt)) e
silent_acted made now s inputs.Certify outcome e =
    gives SilentOutcome (λ (taken : Opened × Answer). act_on_certify made now taken.0 taken.1 (begun s.desk)) (first_answered s.desk.certify s.answers) outcome
    (λ taken. silent_certify made now taken.0 taken.1 (begun s.desk) tt) e

-- ---- up to the sync

pub silent_notarize : (made : Made) (view : ℕ) (d : Doing) → AreSilent d.handed → AreSilent (vote_notarize made view d).handed
unfolding vote_notarize
silent_notarize made view d s = at (notarize_at made d.desk.known view)
  where
    at : (o : Option Notarize) → Silent (option_map_or (λ n. append (artifacts.Notarize n) (tell made (state.ConstructNotarize view) d)) o (tell made (state.ConstructNotarize view) d))
    at None = s
    at (Some n) = s

pub silent_finalize : (made : Made) (view : ℕ) (d : Doing) → AreSilent d.handed → AreSilent (vote_finalize made view d).handed
unfolding vote_finalize
silent_finalize made view d s = at (finalize_at made d.desk.known view)
  where
    at : (o : Option Finalize) → Silent (option_map_or (λ f. append (artifacts.Finalize f) (tell made (state.ConstructFinalize view) d)) o (tell made (state.ConstructFinalize view) d))
    at None = s
    at (Some f) = s

sought_silent : (d : Doing) → AreSilent d.handed → AreSilent (seek d).handed
sought_silent d s = AreSilent-append d.handed _ s (AreSilent-map (λ x. handed.Resolver (resolve_of x)) d.desk.sought (λ x. tt))

pub silent_requests : (made : Made) (now : ℕ) (d : Doing) → AreSilent d.handed → AreSilent (open_requests made now d).handed
unfolding open_requests
silent_requests made now d s = sought_silent (record d { desk = reconciled made now d.desk }) s

pub silent_sync : (view : ℕ) (d : Doing) → AreSilent d.handed → AreSilent (sync view d).handed
silent_sync view d s = at d.wrote
  where
    at : (b : Bool) → Silent (if b then make (calls.Sync view) d else d)
    at true = s
    at false = s

-- ---- the next iteration sends nothing, and seeks

pub iteration_hands : (made : Made) (m : Member) (now : ℕ) (d : Doing) → AreVotesSent (behind m d.calls).sent d.handed
    → AreVotesSent (behind m (begin_iteration made now d).calls).sent (begin_iteration made now d).handed
unfolding begin_iteration prune
iteration_hands made m now d h =
    let started = seek (record d { desk = iterated made now d.desk }) in
    at started
    (AreVotesSent-append (behind m d.calls).sent d.handed _ h
    (all_silent (behind m d.calls).sent _ (AreSilent-map (λ x. handed.Resolver (resolve_of x)) (iterated made now d.desk).sought (λ x. tt))))
    (prune_answer made started.desk.known)
  where
    at : (b : Doing) → AreVotesSent (behind m b.calls).sent b.handed → (o : Option ℕ)
        → AreVotesSent (behind m (prune_at o (tell made state.Prune b)).calls).sent (prune_at o (tell made state.Prune b)).handed
    at b k None = k
    at b k (Some least) = subst (λ (n : Member). AreVotesSent n.sent b.handed) (sym (behind-push m b.calls (calls.Prune least))) k
