-- What a voter says in a step, and in a start.
use Rattle.simplex_types.specs.declared.cause.BlockCause.TheVariants.{LeaderConflict}
use Rattle.std.proofs.Common.{◌≡◌, ℕ, zero, suc, ◌-◌, ◌==◌, not, Bool, true, false, nat_lt, nat_le, List, [], ◌∷◌, ◌++◌, take, Option, Some, None, refl, sym, ap, subst, append_assoc, if◌then◌else◌}
use Rattle.std.specs.List.{list_any}
use Rattle.std.specs.Option.{option_or, option_map, option_map_or, option_and_then}
use Rattle.simplex_values.specs.declared.answer.Answer.{Answer}
use Rattle.simplex_values.specs.declared.answer.Answer.TheVariants as answers
use Rattle.simplex_values.specs.declared.answer.Handoff.TheVariants as handoffs
use Rattle.simplex_values.specs.declared.plan.Plan.TheVariants as plans
use Rattle.simplex_values.specs.declared.timeout.TimeoutReason.TheVariants.{LeaderTimeout, MissingProposal, IgnoredProposal, InvalidProposal, FailedCertification}
use Rattle.simplex_values.specs.Terms.{next_term_start}
use Rattle.simplex_wire.specs.declared.vote.Nullify.{Nullify}
use Rattle.simplex_wire.specs.declared.vote.Vote.TheVariants as votes
use Rattle.simplex_wire.specs.declared.certificate.Certificate.{Certificate}
use Rattle.simplex_wire.specs.declared.certificate.Certificate.TheVariants as certificates
use Rattle.simplex_wire.specs.declared.certificate.Notarization.{Notarization}
use Rattle.simplex_wire.specs.declared.certificate.Nullification.{Nullification}
use Rattle.simplex_wire.specs.declared.artifact.Artifact.{Artifact}
use Rattle.simplex_wire.specs.declared.artifact.Artifact.TheVariants as artifacts
use Rattle.simplex_wire.specs.Fields.{artifact_round}
use Rattle.simplex_types.specs.declared.activity.Activity.{Activity}
use Rattle.simplex_types.specs.declared.activity.Activity.TheVariants as activities
use Rattle.simplex_types.specs.declared.floor.Floor.{Floor}
use Rattle.simplex_types.specs.declared.floor.Floor.TheVariants as floors
use Rattle.model_rules.specs.declared.request.ProposalState.{ProposalState}
use Rattle.model_rules.specs.declared.request.ProposalState.TheVariants.{Preparing, Proposing, Waiting, Held, Closed}
use Rattle.simplex_wire.specs.declared.certificate.CertificateKind.TheVariants as kinds
use Rattle.model_rules.specs.Known.{Made, Fact, Added, Judged, Voted, Published, FloorAt, Broadcast, view_of, notarization_of, finalization_of, has_nullified}
use Rattle.model_rules.specs.Views.{current_of, admits_certificate}
use Rattle.model_rules.specs.Slot.{records_answer}
use Rattle.model_rules.specs.Ancestry.{is_certified, has_true_verdict}
use Rattle.model_rules.specs.Votes.{nullify_at}
use Rattle.model_rules.specs.Deadline.{deadline_of, triggered}
use Rattle.model_rules.specs.Best.{greater, opening_nullification, best_certificate}
use Rattle.model_rules.specs.Calls as state
use Rattle.model_rules.specs.Calls.{facts_of, replay_answer, takes_verdict, certified_answer, judged, only_if, replay_facts}
use Rattle.model_rules.specs.Pending.{Pending, Opened, pending_view, pending_parent}
use Rattle.simplex_messages.specs.declared.call.Call.TheVariants as calls
use Rattle.simplex_messages.specs.declared.handed.Handed.TheVariants as handed
use Rattle.simplex_messages.specs.declared.resolver.MailboxMessage.TheVariants as resolver
use Rattle.simplex_messages.specs.declared.voter.Message.{Message}
use Rattle.simplex_messages.specs.declared.voter.Message.TheVariants as mail
use Rattle.simplex_messages.specs.declared.voter.VoterInput.{VoterInput}
use Rattle.simplex_messages.specs.declared.voter.VoterInput.TheVariants as inputs
use Rattle.model_steps.specs.Desk.{Doing, begun, tell, make, hand, append, report}
use Rattle.model_steps.specs.Voter.{Standing, answer_to, settle_proposal, proposal_stands, propose, stage, give_up, act_on_deadline, act_on_proposal, act_on_verify, settle_certify, take_verdict, act_on_certify, record_of, adds, adding, block_for, certificate_view, act_on_certificate, act_on_mail, take_proposal, first_answered, acted, end_of_step, finished, stepped, activity_of, certificate_in, report_if, updated_if, replay_verdict, replay_record, floor_view, replay_all, stand_on, is_final_from, keep_floor, update_message, blank_desk, started}
use Rattle.simplex_journal.specs.Journal.{Section}
use Rattle.simplex_messages.specs.declared.step.Stop.{Stop}
use Rattle.simplex_messages.specs.declared.step.Stop.TheVariants as stops
use Rattle.model_steps.specs.Performed.{stop_place, whole, broken, performed}
use Rattle.model_steps.specs.VoterLife.{before_reading, unread, start_performed}
use Rattle.law_agreement.proofs.ListFacts.{not_in_empty, Contains-here, Contains-there}
use Rattle.law_member.specs.Life.{noted}
use Rattle.law_member.proofs.Facts.{quiet_same, Quiet-triggered}
use Rattle.law_member.proofs.LifeActing.{adding_facts, nullifying_facts}
use Rattle.law_run.specs.Sayings.{Each, InRecord, InReport, InCall, AllSaid, InInput, InFloor, InRecords}
use Rattle.law_run.proofs.Speaking.{voter_calls, KnowsGood, same_good, push_good, good_notarization, good_finalization, OfOption, SaysGood, say, learn, says_told, says_made, says_handed, says_at_end, says_iteration}

-- ---- the best certificate

greater_good : (Good : Certificate → Type 0) (n : Nullification) (o : Option Nullification) (m : Nullification) → Good (certificates.Nullification n)
    → ((x : Nullification) → o ≡ Some x → Good (certificates.Nullification x)) → greater n o ≡ Some m → Good (certificates.Nullification m)
greater_good Good n o m g h e = at (option_map_or (λ (k : Nullification). nat_lt k.round.view n.round.view) o true) e
  where
    at : (b : Bool) → (if b then Some n else o) ≡ Some m → Good (certificates.Nullification m)
    at true f = let same : n ≡ m = cc in subst (λ x. Good (certificates.Nullification x)) same g
    at false f = h m f

later_good : (Good : Certificate → Type 0) (fact : Fact) (known : List Fact) → KnowsGood Good (fact ∷ known) → KnowsGood Good known
later_good Good fact known k c now h = k c now (Contains-there fact known (Added c now) h)

opening_good : (Good : Certificate → Type 0) (length : ℕ) (known : List Fact) (view : ℕ) (m : Nullification) → KnowsGood Good known
    → opening_nullification length known view ≡ Some m → Good (certificates.Nullification m)
unfolding opening_nullification
opening_good Good length [] view m k e = cc
opening_good Good length (Added (certificates.Nullification n) now ∷ known) view m k e =
    at (next_term_start length n.round.view == view) e
    (k (certificates.Nullification n) now (Contains-here (Added (certificates.Nullification n) now) known))
    (λ x h. opening_good Good length known view x (later_good Good (Added (certificates.Nullification n) now) known k) h)
  where
    at : (b : Bool) → (if b then greater n (opening_nullification length known view) else opening_nullification length known view) ≡ Some m
        → Good (certificates.Nullification n)
        → ((x : Nullification) → opening_nullification length known view ≡ Some x → Good (certificates.Nullification x))
        → Good (certificates.Nullification m)
    at true f g h = greater_good Good n (opening_nullification length known view) m g h f
    at false f g h = h m f
opening_good Good length (fact ∷ known) view m k e = opening_good Good length known view m (later_good Good fact known k) e

mapped_good : (Good : Certificate → Type 0) {A : Type 0} (f : A → Certificate) (o : Option A) → ((a : A) → o ≡ Some a → Good (f a)) → OfOption Good (option_map f o)
mapped_good Good f None h = tt
mapped_good Good f (Some a) h = h a refl

or_good : (Good : Certificate → Type 0) (o p : Option Certificate) → OfOption Good o → OfOption Good p → OfOption Good (option_or o p)
or_good Good (Some c) p g h = g
or_good Good None p g h = h

if_good : (Good : Certificate → Type 0) (b : Bool) (o : Option Certificate) → OfOption Good o → OfOption Good (if b then o else None)
if_good Good true o g = g
if_good Good false o g = tt

best_good : (Good : Certificate → Type 0) (made : Made) (known : List Fact) → KnowsGood Good known → OfOption Good (best_certificate made known)
unfolding best_certificate
best_good Good made known k =
    or_good Good (option_map certificates.Finalization (finalization_of known (current_of made known - 1))) _
    (mapped_good Good certificates.Finalization (finalization_of known (current_of made known - 1)) (λ f e. good_finalization Good known (current_of made known - 1) f k e))
    (or_good Good (if has_true_verdict known (current_of made known - 1) then option_map certificates.Notarization (notarization_of known (current_of made known - 1)) else None) _
    (if_good Good (has_true_verdict known (current_of made known - 1)) (option_map certificates.Notarization (notarization_of known (current_of made known - 1)))
    (mapped_good Good certificates.Notarization (notarization_of known (current_of made known - 1)) (λ n e. good_notarization Good known (current_of made known - 1) n k e)))
    (mapped_good Good certificates.Nullification (opening_nullification made.term_length known (current_of made known)) (λ n e. opening_good Good made.term_length known (current_of made known) n k e)))

-- ---- acting

abbrev SaysOutcome : (Certificate → Type 0) → Doing × Option ℕ → Type 0
SaysOutcome Good outcome = SaysGood Good outcome.0

says_propose : (Good : Certificate → Type 0) (made : Made) (p : Pending) (payload : List ℕ) (d : Doing) → SaysGood Good d → SaysGood Good (propose made p payload d).0
unfolding propose
says_propose Good made p payload d s = at (records_answer made d.desk.known (pending_view p))
  where
    told : SaysGood Good (settle_proposal (tell made (state.Proposed p.context payload) d))
    told = says_told Good made (state.Proposed p.context payload) d tt s

    pair : Bool → Doing × Option ℕ
    pair t =
        let told = settle_proposal (tell made (state.Proposed p.context payload) d) in
        if t then (make (calls.Relay payload (plans.Propose p.context.round)) told, Some (pending_view p)) else (told, None)

    at : (t : Bool) → SaysGood Good (pair t).0
    at true = says_made Good (calls.Relay payload (plans.Propose p.context.round)) (settle_proposal (tell made (state.Proposed p.context payload) d)) tt told
    at false = told

says_stage : (Good : Certificate → Type 0) (made : Made) (p : Pending) (payload : List ℕ) (d : Doing) → SaysGood Good d → SaysGood Good (stage made p payload d).0
unfolding stage
says_stage Good made p payload d s = at (is_certified d.desk.known (pending_parent p))
  where
    pair : Bool → Doing × Option ℕ
    pair t = if t then propose made p payload d else (proposal_stands p (Held payload) (make (calls.Relay payload (plans.Prepare p.context.round)) d), None)

    at : (t : Bool) → SaysGood Good (pair t).0
    at true = says_propose Good made p payload d s
    at false = says_made Good (calls.Relay payload (plans.Prepare p.context.round)) d tt s

says_give_up : (Good : Certificate → Type 0) (made : Made) (now : ℕ) (p : Pending) (at : ProposalState) (d : Doing) → SaysGood Good d → SaysGood Good (give_up made now p at d).0
unfolding give_up
says_give_up Good made now p Preparing d s = s
says_give_up Good made now p _ d s = says_told Good made (state.TriggerTimeout (pending_view p) MissingProposal now) d tt s

says_proposal : (Good : Certificate → Type 0) (made : Made) (now : ℕ) (p : Pending) (answer : Answer) (d : Doing) → SaysGood Good d → SaysGood Good (act_on_proposal made now p answer d).0
unfolding act_on_proposal
says_proposal Good made now p (answers.Payload payload) d s = says_propose Good made p payload d s
says_proposal Good made now p (answers.Handoff handoffs.Wait) d s = s
says_proposal Good made now p (answers.Handoff (handoffs.Stage payload)) d s = says_stage Good made p payload d s
says_proposal Good made now p (answers.Handoff (handoffs.Vote payload)) d s = says_propose Good made p payload d s
says_proposal Good made now p (answers.Verdict good) d s = s
says_proposal Good made now p answers.Closed d s = says_give_up Good made now p p.state d s

says_verify : (Good : Certificate → Type 0) (made : Made) (now : ℕ) (v : Opened) (answer : Answer) (d : Doing) → SaysGood Good d → SaysGood Good (act_on_verify made now v answer d).0
unfolding act_on_verify
says_verify Good made now v (answers.Verdict true) d s = says_told Good made (state.Verified v.view) (record d { desk = record d.desk { verify = None } }) tt s
says_verify Good made now v (answers.Verdict false) d s = says_told Good made (state.VerificationFailed v.view InvalidProposal now) (record d { desk = record d.desk { verify = None } }) tt s
says_verify Good made now v _ d s = says_told Good made (state.VerificationFailed v.view IgnoredProposal now) (record d { desk = record d.desk { verify = None } }) tt s

-- a verdict brings no certificate
judged_good : (Good : Certificate → Type 0) (made : Made) (known : List Fact) (view : ℕ) (good : Bool) (now : ℕ) → KnowsGood Good known → KnowsGood Good (judged made known view good now ++ known)
unfolding judged
judged_good Good made known view good now k = at (takes_verdict known view) good
  where
    failed : List Fact
    failed = triggered made known view FailedCertification now

    told : KnowsGood Good (Judged view good now ∷ known)
    told = push_good Good (Judged view good now) known (λ c later e. cc) k

    at : (t b : Bool) → KnowsGood Good ((if t then (if b then [] else failed) ++ Judged view good now ∷ [] else []) ++ known)
    at false b = k
    at true true = told
    at true false =
        subst (KnowsGood Good) (sym (append_assoc failed (Judged view good now ∷ []) known))
        (same_good Good made (Judged view good now ∷ known) (failed ++ Judged view good now ∷ known)
        (quiet_same made failed (Judged view good now ∷ known) (Quiet-triggered made known view FailedCertification now)) told)

certified_known : (known : List Fact) (view : ℕ) (n : Notarization) → certified_answer known view ≡ Some n → notarization_of known view ≡ Some n
unfolding certified_answer
certified_known known view n e = at (takes_verdict known view) e
  where
    at : (b : Bool) → (if b then notarization_of known view else None) ≡ Some n → notarization_of known view ≡ Some n
    at true h = h
    at false h = cc

says_verdict_taken : (Good : Certificate → Type 0) (made : Made) (view : ℕ) (good : Bool) (o : Option Notarization) (d : Doing) → ((n : Notarization) → o ≡ Some n → Good (certificates.Notarization n))
    → SaysGood Good d → SaysGood Good (take_verdict made view good o d).0
says_verdict_taken Good made view good None d g s = s
says_verdict_taken Good made view good (Some n) d g s =
    let x = say Good d.calls d.handed d.added d.desk.known d.verdict d.nullify (calls.Append (view_of n.proposal) (artifacts.Certification n.proposal.round good)) tt s in
    record { in_calls = x.in_calls; in_messages = x.in_messages; in_added = x.in_added; in_known = x.in_known; in_verdict = g n refl; in_nullify = x.in_nullify }

says_certify : (Good : Certificate → Type 0) (made : Made) (now : ℕ) (c : Opened) (answer : Answer) (d : Doing) → SaysGood Good d → SaysGood Good (act_on_certify made now c answer d).0
unfolding act_on_certify facts_of
says_certify Good made now c (answers.Verdict good) d s =
    says_verdict_taken Good made c.view good (certified_answer d.desk.known c.view) (tell made (state.Certified c.view good now) (settle_certify c.number d))
    (λ n e. good_notarization Good d.desk.known c.view n s.in_known (certified_known d.desk.known c.view n e))
    (learn Good d.calls d.handed d.added d.desk.known (judged made d.desk.known c.view good now ++ d.desk.known) d.verdict d.nullify (judged_good Good made d.desk.known c.view good now s.in_known) s)
says_certify Good made now c _ d s = s

-- ---- a certificate

in_record : (Good : Certificate → Type 0) (c : Certificate) → Good c → InRecord Good (record_of c)
in_record Good (certificates.Notarization n) g = g
in_record Good (certificates.Nullification n) g = g
in_record Good (certificates.Finalization n) g = g

says_blocked : (Good : Certificate → Type 0) (o : Option ℕ) (d : Doing) → SaysGood Good d → SaysGood Good (block_for o d)
says_blocked Good None d s = s
says_blocked Good (Some leader) d s = says_made Good (calls.Block leader LeaderConflict) d refl s

block_same : (o : Option ℕ) (d : Doing) → ((block_for o d).desk ≡ d.desk)
block_same None d = refl
block_same (Some leader) d = refl

added_good : (Good : Certificate → Type 0) (made : Made) (known : List Fact) (c : Certificate) (now : ℕ) → Good c → KnowsGood Good known → KnowsGood Good (facts_of made known (adding c now) ++ known)
added_good Good made known c now g k = subst (λ facts. KnowsGood Good (facts ++ known)) (sym (adding_facts made known c now)) (at (adds made known c))
  where
    at : (b : Bool) → KnowsGood Good (only_if b (Added c now) ++ known)
    at true = push_good Good (Added c now) known (λ x later e. let same : c ≡ x = cc in subst Good same g) k
    at false = k

says_taken : (Good : Certificate → Type 0) (made : Made) (now : ℕ) (c : Certificate) (d : Doing) → Good c → SaysGood Good d → SaysGood Good (act_on_certificate made now c d).0
unfolding act_on_certificate
says_taken Good made now c d g s = at (not (admits_certificate made d.desk.known (certificate_view c))) (adds made d.desk.known c)
  where
    told : SaysGood Good (tell made (adding c now) d)
    told = learn Good d.calls d.handed d.added d.desk.known (facts_of made d.desk.known (adding c now) ++ d.desk.known) d.verdict d.nullify (added_good Good made d.desk.known c now g s.in_known) s

    pair : Bool → Bool → Doing × Option ℕ
    pair past new =
        let known = d.desk.known in
        let told = tell made (adding c now) d in
        if past then (told, None)
        else if new
        then (
          hand (handed.Resolver (resolver.Updated c))
              (block_for (replay_answer made known (record_of c))
              (append (record_of c) (record told { added = d.added ++ c ∷ [] }))),
          Some (certificate_view c),
        )
        else (told, Some (certificate_view c))

    each_push : (xs : List Certificate) → Each Good xs → Each Good (xs ++ c ∷ [])
    each_push [] h = (g, tt)
    each_push (x ∷ xs) h = (h.0, each_push xs h.1)

    at : (past new : Bool) → SaysGood Good (pair past new).0
    at true new = told
    at false false = told
    at false true =
        let x = record (tell made (adding c now) d) { added = d.added ++ c ∷ [] } in
        let y : SaysGood Good x =
        record {
          in_calls = told.in_calls;
          in_messages = told.in_messages;
          in_added = each_push d.added told.in_added;
          in_known = told.in_known;
          in_verdict = told.in_verdict;
          in_nullify = told.in_nullify;
        } in
        let z = append (record_of c) x in
        let w : SaysGood Good z = say Good x.calls x.handed x.added x.desk.known x.verdict x.nullify (calls.Append (artifact_round (record_of c)).view (record_of c)) (in_record Good c g) y in
        says_handed Good (handed.Resolver (resolver.Updated c)) (block_for (replay_answer made d.desk.known (record_of c)) z) g
        (says_blocked Good (replay_answer made d.desk.known (record_of c)) z w)

says_mail : (Good : Certificate → Type 0) (made : Made) (now : ℕ) (message : Message) (d : Doing) → InInput Good (inputs.Mail message) → SaysGood Good d → SaysGood Good (act_on_mail made now message d).0
unfolding act_on_mail
says_mail Good made now (mail.Proposal proposal) d g s = says_told Good made (state.SetProposal (view_of proposal) proposal) d tt s
says_mail Good made now (mail.Timeout round reason) d g s = says_told Good made (state.TriggerTimeout round.view reason now) d tt s
says_mail Good made now (mail.Verified c) d g s = says_taken Good made now c d g s

-- ---- the deadline

nullify_good : (Good : Certificate → Type 0) (made : Made) (known : List Fact) (view now : ℕ) (n : Nullify) → nullify_at made view ≡ Some n → KnowsGood Good known
    → KnowsGood Good (facts_of made known (state.ConstructNullify view LeaderTimeout now) ++ known)
nullify_good Good made known view now n e k =
    subst (λ facts. KnowsGood Good (facts ++ known)) (sym (nullifying_facts made known view now n e)) (at (not (has_nullified known view)))
  where
    at : (b : Bool) → KnowsGood Good ((Published view now ∷ only_if b (Voted (votes.Nullify n))) ++ known)
    at true =
        push_good Good (Published view now) (Voted (votes.Nullify n) ∷ known) (λ c later h. cc)
        (push_good Good (Voted (votes.Nullify n)) known (λ c later h. cc) k)
    at false = push_good Good (Published view now) known (λ c later h. cc) k

says_deadline : (Good : Certificate → Type 0) (made : Made) (now : ℕ) (d : Doing) → SaysGood Good d → SaysGood Good (act_on_deadline made now d)
unfolding act_on_deadline
says_deadline Good made now d s = at (nullify_at made (current_of made d.desk.known)) refl
  where
    one : (n : Nullify) (t : Bool) → nullify_at made (current_of made d.desk.known) ≡ Some n
        → SaysGood Good (if t
        then record (tell made (state.ConstructNullify (current_of made d.desk.known) LeaderTimeout now) d) { nullify = Some (n, best_certificate made d.desk.known) }
        else record (append (artifacts.Nullify n) (tell made (state.ConstructNullify (current_of made d.desk.known) LeaderTimeout now) d)) { nullify = Some (n, None) })
    one n true e =
        let x = learn Good d.calls d.handed d.added d.desk.known (facts_of made d.desk.known (state.ConstructNullify (current_of made d.desk.known) LeaderTimeout now) ++ d.desk.known) d.verdict d.nullify
        (nullify_good Good made d.desk.known (current_of made d.desk.known) now n e s.in_known) s in
        record { in_calls = x.in_calls; in_messages = x.in_messages; in_added = x.in_added; in_known = x.in_known; in_verdict = x.in_verdict; in_nullify = best_good Good made d.desk.known s.in_known }
    one n false e =
        let x = learn Good d.calls d.handed d.added d.desk.known (facts_of made d.desk.known (state.ConstructNullify (current_of made d.desk.known) LeaderTimeout now) ++ d.desk.known) d.verdict d.nullify
        (nullify_good Good made d.desk.known (current_of made d.desk.known) now n e s.in_known) s in
        let y = say Good d.calls d.handed d.added (facts_of made d.desk.known (state.ConstructNullify (current_of made d.desk.known) LeaderTimeout now) ++ d.desk.known) d.verdict d.nullify
        (calls.Append n.round.view (artifacts.Nullify n)) tt x in
        record { in_calls = y.in_calls; in_messages = y.in_messages; in_added = y.in_added; in_known = y.in_known; in_verdict = y.in_verdict; in_nullify = tt }

    at : (o : Option Nullify) → nullify_at made (current_of made d.desk.known) ≡ o
        → SaysGood Good (option_map_or (λ n.
        if has_nullified d.desk.known (current_of made d.desk.known)
        then record (tell made (state.ConstructNullify (current_of made d.desk.known) LeaderTimeout now) d) { nullify = Some (n, best_certificate made d.desk.known) }
        else record (append (artifacts.Nullify n) (tell made (state.ConstructNullify (current_of made d.desk.known) LeaderTimeout now) d)) { nullify = Some (n, None) })
        o d)
    at None e = s
    at (Some n) e = one n (has_nullified d.desk.known (current_of made d.desk.known)) e

-- ---- a step

says_nothing : (Good : Certificate → Type 0) (s : Standing) → KnowsGood Good s.desk.known → SaysGood Good (begun s.desk)
says_nothing Good s k = record { in_calls = tt; in_messages = tt; in_added = tt; in_known = k; in_verdict = tt; in_nullify = tt }

pub some_is : {A : Type 0} (a b : A) → Some a ≡ Some b → a ≡ b
some_is a b e = cc

pub gives : {A B : Type 0} (P : B → Type 0) (f : A → B) (o : Option A) (b : B) → ((a : A) → P (f a)) → option_map f o ≡ Some b → P b
gives P f None b each e = cc
gives P f (Some a) b each e = subst P (some_is (f a) b e) (each a)

pub gives_some : {A B : Type 0} (P : B → Type 0) (f : A → Option B) (o : Option A) (b : B) → ((a : A) → f a ≡ Some b → P b) → option_and_then f o ≡ Some b → P b
gives_some P f None b each e = cc
gives_some P f (Some a) b each e = each a e

taken_says : (Good : Certificate → Type 0) (made : Made) (now : ℕ) (s : Standing) (p : Pending) (at : ProposalState) (outcome : Doing × Option ℕ)
    → SaysGood Good (begun s.desk) → take_proposal made now s p at ≡ Some outcome → SaysGood Good outcome.0
taken_says Good made now s p (Held payload) outcome g e = held (is_certified s.desk.known (pending_parent p)) e
  where
    held : (t : Bool) → (if t then Some (propose made p payload (begun s.desk)) else None) ≡ Some outcome → SaysGood Good outcome.0
    held true h = subst (λ (o : Doing × Option ℕ). SaysGood Good o.0) (some_is _ outcome h) (says_propose Good made p payload (begun s.desk) g)
    held false h = cc
taken_says Good made now s p Preparing outcome g e =
    gives (λ (o : Doing × Option ℕ). SaysGood Good o.0) (λ answer. act_on_proposal made now p answer (begun s.desk)) (answer_to s.answers p.number) outcome (λ answer. says_proposal Good made now p answer (begun s.desk) g) e
taken_says Good made now s p Proposing outcome g e =
    gives (λ (o : Doing × Option ℕ). SaysGood Good o.0) (λ answer. act_on_proposal made now p answer (begun s.desk)) (answer_to s.answers p.number) outcome (λ answer. says_proposal Good made now p answer (begun s.desk) g) e
taken_says Good made now s p Waiting outcome g e = cc
taken_says Good made now s p Closed outcome g e = cc

acted_says : (Good : Certificate → Type 0) (made : Made) (now : ℕ) (s : Standing) (input : VoterInput) (outcome : Doing × Option ℕ) → InInput Good input
    → SaysGood Good (begun s.desk) → acted made now s input ≡ Some outcome → SaysGood Good outcome.0
unfolding acted
acted_says Good made now s (inputs.Mail message) outcome b g e =
    subst (λ (o : Doing × Option ℕ). SaysGood Good o.0) (some_is _ outcome e) (says_mail Good made now message (begun s.desk) b g)
acted_says Good made now s inputs.Timer outcome b g e = due (nat_le (deadline_of made s.desk.known).0 now) e
  where
    due : (t : Bool) → (if t then Some (act_on_deadline made now (begun s.desk), Some (current_of made s.desk.known)) else None) ≡ Some outcome → SaysGood Good outcome.0
    due true h = subst (λ (o : Doing × Option ℕ). SaysGood Good o.0) (some_is _ outcome h) (says_deadline Good made now (begun s.desk) g)
    due false h = cc
acted_says Good made now s inputs.Propose outcome b g e =
    gives_some (λ (o : Doing × Option ℕ). SaysGood Good o.0) (λ (p : Pending). take_proposal made now s p p.state) s.desk.proposal outcome (λ p. taken_says Good made now s p p.state outcome g) e
acted_says Good made now s inputs.Verify outcome b g e =
    gives_some (λ (o : Doing × Option ℕ). SaysGood Good o.0) (λ (v : Opened). option_map (λ answer. act_on_verify made now v answer (begun s.desk)) (answer_to s.answers v.number)) s.desk.verify outcome
    (λ v. gives (λ (o : Doing × Option ℕ). SaysGood Good o.0) (λ answer. act_on_verify made now v answer (begun s.desk)) (answer_to s.answers v.number) outcome (λ answer. says_verify Good made now v answer (begun s.desk) g)) e
acted_says Good made now s inputs.Certify outcome b g e =
    gives (λ (o : Doing × Option ℕ). SaysGood Good o.0) (λ (taken : Opened × Answer). act_on_certify made now taken.0 taken.1 (begun s.desk)) (first_answered s.desk.certify s.answers) outcome
    (λ taken. says_certify Good made now taken.0 taken.1 (begun s.desk) g) e

finished_says : (Good : Certificate → Type 0) (made : Made) (now before : ℕ) (outcome : Doing × Option ℕ) → SaysGood Good outcome.0 → SaysGood Good (finished made now before outcome)
unfolding finished
finished_says Good made now before (d, None) g = says_iteration Good made now d g
finished_says Good made now before (d, Some view) g = says_iteration Good made now (end_of_step made now before view d) (says_at_end Good made now before view d g)

pub stepped_says : (Good : Certificate → Type 0) (made : Made) (now : ℕ) (s : Standing) (input : VoterInput) (d : Doing) → InInput Good input → KnowsGood Good s.desk.known
    → stepped made now s input ≡ Some d → SaysGood Good d
unfolding stepped
stepped_says Good made now s input d b k e = at (acted made now s input) refl e
  where
    at : (o : Option (Doing × Option ℕ)) → acted made now s input ≡ o → option_map (finished made now (current_of made s.desk.known)) o ≡ Some d → SaysGood Good d
    at None f h = cc
    at (Some outcome) f h =
        subst (SaysGood Good) (some_is _ d h)
        (finished_says Good made now (current_of made s.desk.known) outcome (acted_says Good made now s input outcome b (says_nothing Good s k) f))

-- ---- a start

in_report : (Good : Certificate → Type 0) (a : Artifact) (r : Activity) → InRecord Good a → activity_of a ≡ Some r → InReport Good r
in_report Good (artifacts.Notarization n) r g e = subst (InReport Good) (some_is _ r e) g
in_report Good (artifacts.Nullification n) r g e = subst (InReport Good) (some_is _ r e) g
in_report Good (artifacts.Finalization n) r g e = subst (InReport Good) (some_is _ r e) g
in_report Good (artifacts.Notarize v) r g e = subst (InReport Good) (some_is _ r e) tt
in_report Good (artifacts.Nullify v) r g e = subst (InReport Good) (some_is _ r e) tt
in_report Good (artifacts.Finalize v) r g e = subst (InReport Good) (some_is _ r e) tt
in_report Good (artifacts.Certification round good) r g e = cc

in_certificate : (Good : Certificate → Type 0) (a : Artifact) (c : Certificate) → InRecord Good a → certificate_in a ≡ Some c → Good c
in_certificate Good (artifacts.Notarization n) c g e = subst (λ x. Good x) (some_is _ c e) g
in_certificate Good (artifacts.Nullification n) c g e = subst (λ x. Good x) (some_is _ c e) g
in_certificate Good (artifacts.Finalization n) c g e = subst (λ x. Good x) (some_is _ c e) g
in_certificate Good (artifacts.Notarize v) c g e = cc
in_certificate Good (artifacts.Nullify v) c g e = cc
in_certificate Good (artifacts.Finalize v) c g e = cc
in_certificate Good (artifacts.Certification round good) c g e = cc

says_reported : (Good : Certificate → Type 0) (o : Option Activity) (d : Doing) → ((r : Activity) → o ≡ Some r → InReport Good r) → SaysGood Good d → SaysGood Good (report_if o d)
says_reported Good None d g s = s
says_reported Good (Some r) d g s = says_made Good (calls.Report r) d (g r refl) s

says_updated : (Good : Certificate → Type 0) (o : Option Certificate) (d : Doing) → ((c : Certificate) → o ≡ Some c → Good c) → SaysGood Good d → SaysGood Good (updated_if o d)
says_updated Good None d g s = s
says_updated Good (Some c) d g s = says_handed Good (handed.Resolver (resolver.Updated c)) d (g c refl) s

says_kept_verdict : (Good : Certificate → Type 0) (good : Bool) (o : Option Notarization) (d : Doing) → ((n : Notarization) → o ≡ Some n → Good (certificates.Notarization n)) → SaysGood Good d → SaysGood Good (replay_verdict good o d)
says_kept_verdict Good good None d g s = s
says_kept_verdict Good true (Some n) d g s =
    says_handed Good (handed.Resolver (resolver.Certified n true)) (report (activities.Certification n) d) (g n refl) (says_made Good (calls.Report (activities.Certification n)) d (g n refl) s)
says_kept_verdict Good false (Some n) d g s = says_handed Good (handed.Resolver (resolver.Certified n false)) d (g n refl) s

-- a certificate that is known again is good
certificate_known : (Good : Certificate → Type 0) (known : List Fact) (c : Certificate) (extra : Fact) (now : ℕ) → noted extra ≡ None → Good c → KnowsGood Good known
    → KnowsGood Good (extra ∷ Added c now ∷ known)
certificate_known Good known c extra now e g k =
    push_good Good extra (Added c now ∷ known) (λ x later h. (let is = ap noted h in cc (e, is)))
    (push_good Good (Added c now) known (λ x later h. let same : c ≡ x = cc in subst Good same g) k)

-- what a record makes known is good
replayed_known : (Good : Certificate → Type 0) (made : Made) (known : List Fact) (a : Artifact) (now : ℕ) → InRecord Good a → KnowsGood Good known → KnowsGood Good (replay_facts made known a now ++ known)
replayed_known Good made known (artifacts.Notarize v) now g k = push_good Good (Voted (votes.Notarize v)) known (λ c later h. cc) k
replayed_known Good made known (artifacts.Nullify v) now g k = push_good Good (Voted (votes.Nullify v)) known (λ c later h. cc) k
replayed_known Good made known (artifacts.Finalize v) now g k = push_good Good (Voted (votes.Finalize v)) known (λ c later h. cc) k
replayed_known Good made known (artifacts.Certification r good) now g k = judged_good Good made known r.view good now k
replayed_known Good made known (artifacts.Notarization n) now g k = certificate_known Good known (certificates.Notarization n) (Broadcast kinds.Notarization (view_of n.proposal)) now refl g k
replayed_known Good made known (artifacts.Nullification n) now g k = certificate_known Good known (certificates.Nullification n) (Broadcast kinds.Nullification n.round.view) now refl g k
replayed_known Good made known (artifacts.Finalization n) now g k = certificate_known Good known (certificates.Finalization n) (Broadcast kinds.Finalization (view_of n.proposal)) now refl g k

replay_told : (Good : Certificate → Type 0) (made : Made) (now : ℕ) (d : Doing) (a : Artifact) → InRecord Good a → SaysGood Good d → SaysGood Good (tell made (state.Replay a now) d)
unfolding facts_of
replay_told Good made now d a g s =
    learn Good d.calls d.handed d.added d.desk.known (replay_facts made d.desk.known a now ++ d.desk.known) d.verdict d.nullify (replayed_known Good made d.desk.known a now g s.in_known) s

says_plain_record : (Good : Certificate → Type 0) (made : Made) (now : ℕ) (d : Doing) (a : Artifact) → InRecord Good a → SaysGood Good d
    → SaysGood Good (updated_if (certificate_in a) (report_if (activity_of a) (block_for (replay_answer made d.desk.known a) (tell made (state.Replay a now) d))))
says_plain_record Good made now d a g s =
    let told = tell made (state.Replay a now) d in
    let blocked = block_for (replay_answer made d.desk.known a) told in
    says_updated Good (certificate_in a) (report_if (activity_of a) blocked) (λ c e. in_certificate Good a c g e)
    (says_reported Good (activity_of a) blocked (λ r e. in_report Good a r g e)
    (says_blocked Good (replay_answer made d.desk.known a) told (replay_told Good made now d a g s)))

says_record : (Good : Certificate → Type 0) (made : Made) (now : ℕ) (d : Doing) (a : Artifact) → InRecord Good a → SaysGood Good d → SaysGood Good (replay_record made now d a)
unfolding replay_record
says_record Good made now d (artifacts.Certification r good) g s =
    says_kept_verdict Good good (certified_answer d.desk.known r.view) (tell made (state.Replay (artifacts.Certification r good) now) d)
    (λ n e. good_notarization Good d.desk.known r.view n s.in_known (certified_known d.desk.known r.view n e)) (replay_told Good made now d (artifacts.Certification r good) tt s)
says_record Good made now d (artifacts.Notarize v) g s = says_plain_record Good made now d (artifacts.Notarize v) g s
says_record Good made now d (artifacts.Nullify v) g s = says_plain_record Good made now d (artifacts.Nullify v) g s
says_record Good made now d (artifacts.Finalize v) g s = says_plain_record Good made now d (artifacts.Finalize v) g s
says_record Good made now d (artifacts.Notarization v) g s = says_plain_record Good made now d (artifacts.Notarization v) g s
says_record Good made now d (artifacts.Nullification v) g s = says_plain_record Good made now d (artifacts.Nullification v) g s
says_record Good made now d (artifacts.Finalization v) g s = says_plain_record Good made now d (artifacts.Finalization v) g s

says_records : (Good : Certificate → Type 0) (made : Made) (now floor : ℕ) (d : Doing) (rs : List Artifact) → InRecords Good rs → SaysGood Good d → SaysGood Good (replay_all made now floor d rs)
unfolding replay_all
says_records Good made now floor d [] g s = s
says_records Good made now floor d (a ∷ rest) g s =
    says_records Good made now floor (if nat_lt floor (artifact_round a).view then replay_record made now d a else d) rest (λ x c. g x (Contains-there a rest x c))
    (at (nat_lt floor (artifact_round a).view))
  where
    at : (b : Bool) → SaysGood Good (if b then replay_record made now d a else d)
    at true = says_record Good made now d a (g a (Contains-here a rest)) s
    at false = s

pub nothing_known : (Good : Certificate → Type 0) → KnowsGood Good []
nothing_known Good c now h = absurd (not_in_empty _ h)

says_floor : (Good : Certificate → Type 0) (made : Made) (now : ℕ) (floor : Floor) → InFloor Good floor → SaysGood Good (stand_on made now floor (begun blank_desk))
unfolding facts_of
says_floor Good made now (floors.Genesis payload) g =
    record { in_calls = tt; in_messages = tt; in_added = tt; in_known = push_good Good (FloorAt 0 payload) [] (λ c later h. cc) (nothing_known Good); in_verdict = tt; in_nullify = tt }
says_floor Good made now (floors.Finalized f) g =
    let known : KnowsGood Good (facts_of made [] (state.SetFloor (floors.Finalized f) now) ++ []) =
    certificate_known Good (FloorAt (view_of f.proposal) f.proposal.payload ∷ []) (certificates.Finalization f) (Broadcast kinds.Finalization (view_of f.proposal)) now refl g
    (push_good Good (FloorAt (view_of f.proposal) f.proposal.payload) [] (λ c later h. cc) (nothing_known Good)) in
    record { in_calls = (g, tt); in_messages = (g, tt); in_added = tt; in_known = known; in_verdict = tt; in_nullify = tt }

says_kept_floor : (Good : Certificate → Type 0) (floor : Floor) (records : List Artifact) (d : Doing) → InFloor Good floor → SaysGood Good d → SaysGood Good (keep_floor floor records d)
says_kept_floor Good (floors.Genesis payload) records d g s = s
says_kept_floor Good (floors.Finalized f) records d g s = at (list_any (is_final_from (view_of f.proposal)) records)
  where
    at : (b : Bool) → SaysGood Good (if b then d else make (calls.Sync (view_of f.proposal)) (append (artifacts.Finalization f) d))
    at true = s
    at false =
        says_made Good (calls.Sync (view_of f.proposal)) (append (artifacts.Finalization f) d) tt
        (say Good d.calls d.handed d.added d.desk.known d.verdict d.nullify (calls.Append (view_of f.proposal) (artifacts.Finalization f)) g s)

pub started_says : (Good : Certificate → Type 0) (made : Made) (now : ℕ) (floor : Floor) (records : List Artifact) → InFloor Good floor → InRecords Good records
    → SaysGood Good (started made now floor records)
unfolding started
started_says Good made now floor records f r =
    let read = replay_all made now (floor_view floor) (stand_on made now floor (begun blank_desk)) records in
    let replayed = hand (handed.Resolver resolver.Replayed) read in
    let kept = keep_floor floor records replayed in
    says_iteration Good made now (hand (update_message made kept.desk.known None) kept)
    (says_handed Good (update_message made kept.desk.known None) kept tt
    (says_kept_floor Good floor records replayed f
    (says_handed Good (handed.Resolver resolver.Replayed) read tt
    (says_records Good made now (floor_view floor) (stand_on made now floor (begun blank_desk)) records r (says_floor Good made now floor f)))))

-- ---- as it was made

pub Each-take : {A : Type 0} (P : A → Type 0) (n : ℕ) (xs : List A) → Each P xs → Each P (take n xs)
Each-take P zero xs h = tt
Each-take P (suc n) [] h = tt
Each-take P (suc n) (x ∷ xs) h = (h.0, Each-take P n xs h.1)

pub said : (Good : Certificate → Type 0) (stop : Stop) (d : Doing) (js : List Section) → SaysGood Good d → AllSaid Good (performed stop d js).out
unfolding performed
said Good stop d js s = at (stop_place stop d.calls)
  where
    at : (o : Option ℕ) → AllSaid Good (option_map_or (broken stop d js) o (whole d js)).out
    at None = record { calls = voter_calls Good d.calls s.in_calls; handed = s.in_messages; added = s.in_added }
    at (Some place) = record { calls = Each-take (InCall Good) place d.calls (voter_calls Good d.calls s.in_calls); handed = tt; added = tt }

pub said_at_start : (Good : Certificate → Type 0) (stop : Stop) (floor : Floor) (d : Doing) (js : List Section) → SaysGood Good d → AllSaid Good (start_performed stop floor d js).out
unfolding start_performed
said_at_start Good stops.None floor d js s = said Good stops.None d js s
said_at_start Good (stops.Cut call keep) floor d js s = said Good (stops.Cut call keep) d js s
said_at_start Good (stops.Fail call keep) floor d js s = at (call == 1)
  where
    at : (b : Bool) → AllSaid Good (if b then unread floor d keep js else performed (stops.Fail (call - 1) keep) d js).out
    at true = record { calls = Each-take (InCall Good) (before_reading floor) d.calls (voter_calls Good d.calls s.in_calls); handed = tt; added = tt }
    at false = said Good (stops.Fail (call - 1) keep) d js s
