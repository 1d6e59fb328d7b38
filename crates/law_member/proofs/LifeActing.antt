-- What a step does with what it takes, before its end.
use Rattle.simplex_types.specs.declared.cause.BlockCause.TheVariants.{LeaderConflict}
use Rattle.std.proofs.Common.{◌≡◌, ℕ, ◌<◌, not, Bool, true, false, List, [], ◌∷◌, ◌++◌, Contains, Option, Some, None, refl, sym, ap, ◌∙◌, subst, inl, inr, arith, append_assoc, eqb-true, if◌then◌else◌}
use Rattle.std.specs.Option.{is_some, option_map_or}
use Rattle.std.proofs.lemmas.Grind.{common_steps}
use Rattle.simplex_values.specs.declared.answer.Answer.{Answer}
use Rattle.simplex_values.specs.declared.answer.Answer.TheVariants as answers
use Rattle.simplex_values.specs.declared.answer.Handoff.TheVariants as handoffs
use Rattle.simplex_values.specs.declared.plan.Plan.TheVariants as plans
use Rattle.simplex_values.specs.declared.proposal.Subject.TheVariants as subjects
use Rattle.simplex_values.specs.declared.round.Round.{Round}
use Rattle.simplex_values.specs.declared.timeout.TimeoutReason.TheVariants.{LeaderTimeout, MissingProposal, IgnoredProposal, InvalidProposal, FailedCertification}
use Rattle.simplex_values.specs.Terms.{greatest_view}
use Rattle.simplex_wire.specs.declared.vote.Nullify.{Nullify}
use Rattle.simplex_wire.specs.declared.vote.Vote.{Vote}
use Rattle.simplex_wire.specs.declared.vote.Vote.TheVariants as votes
use Rattle.simplex_wire.specs.declared.certificate.Certificate.{Certificate}
use Rattle.simplex_wire.specs.declared.certificate.Certificate.TheVariants as certificates
use Rattle.simplex_wire.specs.declared.certificate.Notarization.{Notarization}
use Rattle.simplex_wire.specs.declared.artifact.Artifact.TheVariants as artifacts
use Rattle.simplex_wire.specs.Fields.{artifact_round}
use Rattle.model_rules.specs.declared.request.ProposalState.{ProposalState}
use Rattle.model_rules.specs.declared.request.ProposalState.TheVariants.{Preparing, Waiting, Held, Closed}
use Rattle.model_rules.specs.Known.{Made, Fact, Added, Judged, Voted, Published, view_of, notarization_of, is_nullify_in, has_nullified}
use Rattle.model_rules.specs.Views.{current_of, admits_certificate}
use Rattle.model_rules.specs.Slot.{records_answer}
use Rattle.model_rules.specs.Ancestry.{is_certified}
use Rattle.model_rules.specs.Votes.{nullify_at, signed_nullify}
use Rattle.model_rules.specs.Deadline.{triggered}
use Rattle.model_rules.specs.Best.{best_certificate}
use Rattle.model_rules.specs.Calls as state
use Rattle.model_rules.specs.Calls.{facts_of, adds_notarization, adds_nullification, adds_finalization, replay_answer, takes_verdict, certified_answer, judged, nullify_facts, only_if}
use Rattle.model_rules.specs.Pending.{Desk, Pending, Opened, pending_view, pending_parent}
use Rattle.simplex_messages.specs.declared.call.Call.{Call}
use Rattle.simplex_messages.specs.declared.call.Call.TheVariants as calls
use Rattle.simplex_messages.specs.declared.handed.Handed.TheVariants as handed
use Rattle.simplex_messages.specs.declared.resolver.MailboxMessage.TheVariants as resolver
use Rattle.simplex_messages.specs.declared.voter.Message.{Message}
use Rattle.simplex_messages.specs.declared.voter.Message.TheVariants as mail
use Rattle.law_agreement.proofs.ListFacts.{not_in_empty, Contains-cons_cases}
use Rattle.law_member.proofs.Stopping.{IsLowBox}
use Rattle.model_steps.specs.Desk.{Doing, begun, tell, make, hand, append}
use Rattle.model_steps.specs.Voter.{settle_proposal, proposal_stands, propose, stage, give_up, act_on_deadline, act_on_proposal, act_on_verify, settle_certify, take_verdict, act_on_certify, record_of, adds, adding, block_for, certificate_view, act_on_certificate, act_on_mail}
use Rattle.law_agreement.specs.Artifacts as member
use Rattle.law_agreement.specs.Member as life
use Rattle.law_agreement.specs.Member.{Member, run, IsLegal}
use Rattle.simplex_journal.specs.Journal.{Section}
use Rattle.law_member.specs.Life.{statement_of, memory_of, remembered, IsInOrder, IsRunning}
use Rattle.law_member.proofs.Remembering.{in_memory, one_passes}
use Rattle.law_member.proofs.LifeVoting.{may_nullify, taken_is, notarization_view_of}
use Rattle.law_member.proofs.Facts.{told_quiet, IsQuiet, Quiet, Quiet-triggered, quiet_memory, quiet_order, one_more, quiet_same}
use Rattle.law_member.proofs.Living.{subjects_of}
use Rattle.law_member.proofs.Simulating.{Writes, Stores, IsPlain, nothing_first, only_from, writes_known, writes_plain, writes_note}
use Rattle.law_member.proofs.Publishing.{Writing, Storing, nullify_waiting, remembered_push}
use Rattle.law_member.specs.Storing.{IsOwn}
use Rattle.law_member.proofs.Signing.{nullify_signed}

-- ---- a step that wrote nothing yet

pub record Fresh (made : Made) (m : Member) (cs : List Call) (wrote : Bool) (facts : List Fact) (nullify : Option (Nullify × Option Certificate)) : Type 0 where
  pub writes : (view : ℕ) → Writes made m view cs wrote facts []
  pub unwritten : wrote ≡ false
  pub none : nullify ≡ None

abbrev pub Begun : Made → Member → Doing → Type 0
Begun made m d = Fresh made m d.calls d.wrote d.desk.known d.nullify

-- what a step comes to: it touches a view, to whose section alone it wrote, or it ends, and all is stored
abbrev pub Touched : Made → Member → Doing × Option ℕ → Type 0
Touched made m (d, None) = Storing made m d []
Touched made m (d, Some view) = Writing made m view d (nullify_waiting d.nullify)

pub begin : (made : Made) (desk : Desk) (sections : List Section) (m : Member) → IsRunning made desk.known sections m → Begun made m (begun desk)
begin made desk sections m r =
    record {
      writes = λ view. record {
        sim = record { legal = tt; up = r.up; memory = r.memory; order = r.order; box = ap subjects_of r.outbox; fit = tt; sends = tt; first = nothing_first made m };
        only = only_from view m.journal r.stored;
        unwritten = λ e. r.stored;
        noted = tt;
        earlier = λ e. tt;
      };
      unwritten = refl;
      none = refl;
    }

begun_tell : (made : Made) (m : Member) (d : Doing) (call : state.Call) → IsQuiet call → Begun made m d → Begun made m (tell made call d)
begun_tell made m d call q b =
    record {
      writes = λ view. writes_known made m view d.calls d.wrote d.desk.known (facts_of made d.desk.known call ++ d.desk.known) [] (told_quiet made d.desk.known call q) (b.writes view);
      unwritten = b.unwritten;
      none = b.none;
    }

begun_make : (made : Made) (m : Member) (d : Doing) (c : Call) → IsPlain c → Begun made m d → Begun made m (make c d)
begun_make made m d c p b =
    record { writes = λ view. writes_plain made m view d.calls d.wrote d.desk.known [] c p (b.writes view); unwritten = b.unwritten; none = b.none }

untouched : (made : Made) (m : Member) (d : Doing) → Begun made m d → Storing made m d []
untouched made m d b = let w = b.writes 0 in record { sim = w.sim; stored = w.unwritten b.unwritten; kept = tt }

touched_at : (made : Made) (m : Member) (d : Doing) (view : ℕ) → Begun made m d → Writing made m view d (nullify_waiting d.nullify)
touched_at made m d view b = subst (λ o. Writing made m view d (nullify_waiting o)) (sym b.none) (b.writes view)

touched_by : (made : Made) (m : Member) (d : Doing) (o : Option ℕ) → Begun made m d → Touched made m (d, o)
touched_by made m d None b = untouched made m d b
touched_by made m d (Some view) b = touched_at made m d view b

-- ---- answers

pub propose_touches : (made : Made) (m : Member) (p : Pending) (payload : List ℕ) (d : Doing) → Begun made m d → Touched made m (propose made p payload d)
unfolding propose
propose_touches made m p payload d b = at (records_answer made d.desk.known (pending_view p))
  where
    at : (t : Bool) → (let told = settle_proposal (tell made (state.Proposed p.context payload) d) in
        Touched made m (if t then (make (calls.Relay payload (plans.Propose p.context.round)) told, Some (pending_view p)) else (told, None)))
    at true =
        touched_at made m (make (calls.Relay payload (plans.Propose p.context.round)) (settle_proposal (tell made (state.Proposed p.context payload) d))) (pending_view p)
        (begun_make made m (settle_proposal (tell made (state.Proposed p.context payload) d)) (calls.Relay payload (plans.Propose p.context.round)) tt
        (begun_tell made m d (state.Proposed p.context payload) tt b))
    at false = untouched made m (settle_proposal (tell made (state.Proposed p.context payload) d)) (begun_tell made m d (state.Proposed p.context payload) tt b)

stage_touches : (made : Made) (m : Member) (p : Pending) (payload : List ℕ) (d : Doing) → Begun made m d → Touched made m (stage made p payload d)
unfolding stage
stage_touches made m p payload d b = at (is_certified d.desk.known (pending_parent p))
  where
    at : (t : Bool) → Touched made m (if t then propose made p payload d
        else (proposal_stands p (Held payload) (make (calls.Relay payload (plans.Prepare p.context.round)) d), None))
    at true = propose_touches made m p payload d b
    at false =
        untouched made m (proposal_stands p (Held payload) (make (calls.Relay payload (plans.Prepare p.context.round)) d))
        (begun_make made m d (calls.Relay payload (plans.Prepare p.context.round)) tt b)

give_up_touches : (made : Made) (m : Member) (now : ℕ) (p : Pending) (at : ProposalState) (d : Doing) → Begun made m d → Touched made m (give_up made now p at d)
unfolding give_up
give_up_touches made m now p Preparing d b = untouched made m (proposal_stands p Closed d) b
give_up_touches made m now p _ d b =
    untouched made m (settle_proposal (tell made (state.TriggerTimeout (pending_view p) MissingProposal now) d))
    (begun_tell made m d (state.TriggerTimeout (pending_view p) MissingProposal now) tt b)

pub proposal_touches : (made : Made) (m : Member) (now : ℕ) (p : Pending) (answer : Answer) (d : Doing) → Begun made m d → Touched made m (act_on_proposal made now p answer d)
unfolding act_on_proposal
proposal_touches made m now p (answers.Payload payload) d b = propose_touches made m p payload d b
proposal_touches made m now p (answers.Handoff handoffs.Wait) d b = untouched made m (proposal_stands p Waiting d) b
proposal_touches made m now p (answers.Handoff (handoffs.Stage payload)) d b = stage_touches made m p payload d b
proposal_touches made m now p (answers.Handoff (handoffs.Vote payload)) d b = propose_touches made m p payload d b
proposal_touches made m now p (answers.Verdict good) d b = untouched made m d b
proposal_touches made m now p answers.Closed d b = give_up_touches made m now p p.state d b

pub verify_touches : (made : Made) (m : Member) (now : ℕ) (v : Opened) (answer : Answer) (d : Doing) → Begun made m d → Touched made m (act_on_verify made now v answer d)
unfolding act_on_verify
verify_touches made m now v (answers.Verdict true) d b =
    touched_at made m (tell made (state.Verified v.view) (record d { desk = record d.desk { verify = None } })) v.view
    (begun_tell made m (record d { desk = record d.desk { verify = None } }) (state.Verified v.view) tt b)
verify_touches made m now v (answers.Verdict false) d b =
    touched_at made m (tell made (state.VerificationFailed v.view InvalidProposal now) (record d { desk = record d.desk { verify = None } })) v.view
    (begun_tell made m (record d { desk = record d.desk { verify = None } }) (state.VerificationFailed v.view InvalidProposal now) tt b)
verify_touches made m now v _ d b =
    touched_at made m (tell made (state.VerificationFailed v.view IgnoredProposal now) (record d { desk = record d.desk { verify = None } })) v.view
    (begun_tell made m (record d { desk = record d.desk { verify = None } }) (state.VerificationFailed v.view IgnoredProposal now) tt b)

-- ---- a verdict

some_notarization : (o : Option Notarization) → is_some o ≡ true → (n : Notarization) × (o ≡ Some n)
some_notarization (Some n) e = (n, refl)
some_notarization None e = cc

pub taken_has : (known : List Fact) (view : ℕ) → takes_verdict known view ≡ true → is_some (notarization_of known view) ≡ true
unfolding takes_verdict
taken_has known view e = grind (arith, common_steps, e)

pub judged_taken : (made : Made) (known : List Fact) (view : ℕ) (good : Bool) (now : ℕ) → takes_verdict known view ≡ true
    → judged made known view good now ≡ (if good then [] else triggered made known view FailedCertification now) ++ Judged view good now ∷ []
unfolding judged
judged_taken made known view good now e = ap (λ t. if t then (if good then [] else triggered made known view FailedCertification now) ++ Judged view good now ∷ [] else []) e

pub judged_left : (made : Made) (known : List Fact) (view : ℕ) (good : Bool) (now : ℕ) → takes_verdict known view ≡ false → judged made known view good now ≡ []
unfolding judged
judged_left made known view good now e = ap (λ t. if t then (if good then [] else triggered made known view FailedCertification now) ++ Judged view good now ∷ [] else []) e

pub failing_quiet : (made : Made) (known : List Fact) (view : ℕ) (good : Bool) (now : ℕ) → Quiet (if good then [] else triggered made known view FailedCertification now)
failing_quiet made known view true now = tt
failing_quiet made known view false now = Quiet-triggered made known view FailedCertification now

answered_taken : (known : List Fact) (view : ℕ) → takes_verdict known view ≡ true → certified_answer known view ≡ notarization_of known view
unfolding certified_answer
answered_taken known view e = ap (λ t. if t then notarization_of known view else None) e

answered_left : (known : List Fact) (view : ℕ) → takes_verdict known view ≡ false → certified_answer known view ≡ None
unfolding certified_answer
answered_left known view e = ap (λ t. if t then notarization_of known view else None) e

certified_facts : (made : Made) (known : List Fact) (view : ℕ) (good : Bool) (now : ℕ) → facts_of made known (state.Certified view good now) ≡ judged made known view good now
unfolding facts_of
certified_facts made known view good now = refl

certify_taken : (made : Made) (m : Member) (now : ℕ) (number view : ℕ) (good : Bool) (d : Doing) (n : Notarization) → Begun made m d
    → takes_verdict d.desk.known view ≡ true → notarization_of d.desk.known view ≡ Some n
    → Touched made m (take_verdict made view good (Some n) (tell made (state.Certified view good now) (settle_certify number d)))
certify_taken made m now number view good d n b e known_n =
    let known = d.desk.known in
    let here = notarization_view_of known view n known_n in
    let extra = if good then [] else triggered made known view FailedCertification now in
    let quiet = failing_quiet made known view good now in
    let fact = Judged view good now in
    let later = facts_of made known (state.Certified view good now) ++ known in
    let same : later ≡ extra ++ (fact ∷ known) =
    ap (λ xs. xs ++ known) (certified_facts made known view good now ∙ judged_taken made known view good now e) ∙ append_assoc extra (fact ∷ []) known in
    let memory : remembered later ≡ remembered known ++ member.Judged (view_of n.proposal) good ∷ [] =
    ap remembered same ∙ quiet_memory extra (fact ∷ known) quiet ∙ remembered_push fact known ∙ ap (λ v. remembered known ++ member.Judged v good ∷ []) (sym here) in
    let order : IsInOrder made later =
    subst (IsInOrder made) (sym same) (quiet_order made extra (fact ∷ known) quiet (one_more made known fact (taken_has known view e) (b.writes view).sim.order)) in
    subst (λ o. Writes made m view (d.calls ++ calls.Append (view_of n.proposal) (artifacts.Certification n.proposal.round good) ∷ []) true later (nullify_waiting o)) (sym b.none)
    (writes_note made m view d.calls d.wrote known later [] (view_of n.proposal) (artifacts.Certification n.proposal.round good) (b.writes view) here
    (taken_is known (view_of n.proposal) good ∙ ap (takes_verdict known) here ∙ e) memory order refl tt)

pub certify_touches : (made : Made) (m : Member) (now : ℕ) (number view : ℕ) (good : Bool) (d : Doing) → Begun made m d
    → Touched made m (take_verdict made view good (certified_answer d.desk.known view) (tell made (state.Certified view good now) (settle_certify number d)))
certify_touches made m now number view good d b = at (takes_verdict d.desk.known view) refl
  where
    at : (t : Bool) → takes_verdict d.desk.known view ≡ t
        → Touched made m (take_verdict made view good (certified_answer d.desk.known view) (tell made (state.Certified view good now) (settle_certify number d)))
    at true e =
        let n = some_notarization (notarization_of d.desk.known view) (taken_has d.desk.known view e) in
        subst (λ o. Touched made m (take_verdict made view good o (tell made (state.Certified view good now) (settle_certify number d))))
        (sym (answered_taken d.desk.known view e ∙ n.1))
        (certify_taken made m now number view good d n.0 b e n.1)
    at false e =
        subst (λ o. Touched made m (take_verdict made view good o (tell made (state.Certified view good now) (settle_certify number d))))
        (sym (answered_left d.desk.known view e))
        (subst (λ facts. Stores made m d.calls (facts ++ d.desk.known) []) (sym (certified_facts made d.desk.known view good now ∙ judged_left made d.desk.known view good now e))
        (untouched made m d b))

pub answer_certify_touches : (made : Made) (m : Member) (now : ℕ) (c : Opened) (answer : Answer) (d : Doing) → Begun made m d → Touched made m (act_on_certify made now c answer d)
unfolding act_on_certify
answer_certify_touches made m now c (answers.Verdict good) d b = certify_touches made m now c.number c.view good d b
answer_certify_touches made m now c _ d b = touched_at made m (settle_certify c.number d) c.view b

-- ---- a certificate

pub adding_facts : (made : Made) (known : List Fact) (c : Certificate) (now : ℕ) → facts_of made known (adding c now) ≡ only_if (adds made known c) (Added c now)
unfolding facts_of
adding_facts made known (certificates.Notarization n) now = refl
adding_facts made known (certificates.Nullification n) now = refl
adding_facts made known (certificates.Finalization n) now = refl

adds_admits : (made : Made) (known : List Fact) (c : Certificate) → admits_certificate made known (certificate_view c) ≡ false → adds made known c ≡ false
unfolding adds_notarization adds_nullification adds_finalization
adds_admits made known (certificates.Notarization n) e = grind (arith, common_steps, e)
adds_admits made known (certificates.Nullification n) e = grind (arith, common_steps, e)
adds_admits made known (certificates.Finalization n) e = grind (arith, common_steps, e)

record_view : (c : Certificate) → (artifact_round (record_of c)).view ≡ certificate_view c
record_view (certificates.Notarization n) = refl
record_view (certificates.Nullification n) = refl
record_view (certificates.Finalization n) = refl

record_memory : (c : Certificate) → memory_of (record_of c) ≡ member.Proved (statement_of c)
record_memory (certificates.Notarization n) = refl
record_memory (certificates.Nullification n) = refl
record_memory (certificates.Finalization n) = refl

-- a certificate is noted always, and no vote waits for it
writes_certificate : (made : Made) (m : Member) (view : ℕ) (cs : List Call) (wrote : Bool) (facts later : List Fact) (c : Certificate)
    → Writes made m view cs wrote facts [] → certificate_view c ≡ view
    → remembered later ≡ remembered facts ++ member.Proved (statement_of c) ∷ [] → IsInOrder made later
    → Writes made m view (cs ++ calls.Append (artifact_round (record_of c)).view (record_of c) ∷ []) true later []
writes_certificate made m view cs wrote facts later (certificates.Notarization n) w here more order =
    writes_note made m view cs wrote facts later [] _ (artifacts.Notarization n) w here tt more order refl tt
writes_certificate made m view cs wrote facts later (certificates.Nullification n) w here more order =
    writes_note made m view cs wrote facts later [] _ (artifacts.Nullification n) w here tt more order refl tt
writes_certificate made m view cs wrote facts later (certificates.Finalization n) w here more order =
    writes_note made m view cs wrote facts later [] _ (artifacts.Finalization n) w here tt more order refl tt

blocked : (made : Made) (m : Member) (view : ℕ) (d : Doing) (o : Option ℕ) (queue : List Vote) → Writing made m view d queue → Writing made m view (block_for o d) queue
blocked made m view d None queue w = w
blocked made m view d (Some leader) queue w = writes_plain made m view d.calls d.wrote d.desk.known queue (calls.Block leader LeaderConflict) tt w

block_keeps : (o : Option ℕ) (d : Doing) → (block_for o d).nullify ≡ d.nullify
block_keeps None d = refl
block_keeps (Some leader) d = refl

certificate_touches : (made : Made) (m : Member) (now : ℕ) (c : Certificate) (d : Doing) → Begun made m d → Touched made m (act_on_certificate made now c d)
unfolding act_on_certificate
certificate_touches made m now c d b = at (admits_certificate made d.desk.known (certificate_view c)) (adds made d.desk.known c) refl refl
  where
    left : adds made d.desk.known c ≡ false → Begun made m (tell made (adding c now) d)
    left e =
        subst (λ facts. Fresh made m d.calls d.wrote (facts ++ d.desk.known) d.nullify)
        (sym (adding_facts made d.desk.known c now ∙ ap (λ t. only_if t (Added c now)) e)) b

    at : (admitted added : Bool) → admits_certificate made d.desk.known (certificate_view c) ≡ admitted → adds made d.desk.known c ≡ added
        → (let known = d.desk.known in let told = tell made (adding c now) d in
        Touched made m (if not admitted then (told, None)
        else if added
        then (
          hand (handed.Resolver (resolver.Updated c))
              (block_for (replay_answer made known (record_of c))
              (append (record_of c) (record told { added = d.added ++ c ∷ [] }))),
          Some (certificate_view c),
        )
        else (told, Some (certificate_view c))))
    at false added e f = untouched made m (tell made (adding c now) d) (left (adds_admits made d.desk.known c e))
    at true false e f = touched_at made m (tell made (adding c now) d) (certificate_view c) (left f)
    at true true e f =
        let known = d.desk.known in
        let view = certificate_view c in
        let told = tell made (adding c now) d in
        let noted = append (record_of c) (record told { added = d.added ++ c ∷ [] }) in
        let same : told.desk.known ≡ Added c now ∷ known = ap (λ facts. facts ++ known) (adding_facts made known c now ∙ ap (λ t. only_if t (Added c now)) f) in
        let written : Writing made m view noted [] =
        writes_certificate made m view d.calls d.wrote known told.desk.known c (b.writes view) refl
        (ap remembered same ∙ remembered_push (Added c now) known)
        (subst (IsInOrder made) (sym same) (one_more made known (Added c now) tt (b.writes view).sim.order)) in
        subst (λ o. Writing made m view (block_for (replay_answer made known (record_of c)) noted) (nullify_waiting o))
        (sym (block_keeps (replay_answer made known (record_of c)) noted ∙ b.none))
        (blocked made m view noted (replay_answer made known (record_of c)) [] written)

pub mail_touches : (made : Made) (m : Member) (now : ℕ) (message : Message) (d : Doing) → Begun made m d → Touched made m (act_on_mail made now message d)
unfolding act_on_mail
mail_touches made m now (mail.Proposal proposal) d b =
    touched_by made m (tell made (state.SetProposal (view_of proposal) proposal) d) _ (begun_tell made m d (state.SetProposal (view_of proposal) proposal) tt b)
mail_touches made m now (mail.Timeout round reason) d b =
    touched_at made m (tell made (state.TriggerTimeout round.view reason now) d) round.view (begun_tell made m d (state.TriggerTimeout round.view reason now) tt b)
mail_touches made m now (mail.Verified c) d b = certificate_touches made m now c d b

-- ---- the deadline

-- the member first queues again a nullify that it made before
pub record Repeats (made : Made) (m : Member) (outcome : Doing × Option ℕ) : Type 0 where
  pub first : List life.Call
  pub legal : IsLegal made.term_length m first
  pub brought : life.brought first ≡ []
  pub known : (run m first).known ≡ m.known
  pub sent : (run m first).sent ≡ m.sent
  pub journal : (run m first).journal ≡ m.journal
  pub box : IsLowBox made (run m first)
  pub touched : Touched made (run m first) outcome

pub plainly : (made : Made) (m : Member) (outcome : Doing × Option ℕ) → m.outbox ≡ [] → Touched made m outcome → Repeats made m outcome
plainly made m outcome e t =
    record { first = []; legal = tt; brought = refl; known = refl; sent = refl; journal = refl; box = λ s k. absurd (not_in_empty s (subst (λ xs. Contains (subjects_of xs) s) e k)); touched = t }

nullify_round : (made : Made) (view : ℕ) (n : Nullify) → nullify_at made view ≡ Some n → n.round ≡ record { epoch = made.epoch; view = view }
unfolding nullify_at signed_nullify
nullify_round made view n e = grind (arith, common_steps, e)

is_nullified : (view : ℕ) (fact : Fact) → is_nullify_in view fact ≡ true → (v : Nullify) × (fact ≡ Voted (votes.Nullify v)) × (v.round.view ≡ view)
is_nullified view (Voted (votes.Nullify v)) e = (v, refl, eqb-true v.round.view view e)
is_nullified view (Voted (votes.Notarize v)) e = cc
is_nullified view (Voted (votes.Finalize v)) e = cc
is_nullified view _ e = cc

same_round : (r : Round) (epoch view : ℕ) → r.epoch ≡ epoch → r.view ≡ view → r ≡ record { epoch = epoch; view = view }
same_round r epoch view e f = ap (λ n. record { epoch = n; view = r.view }) e ∙ ap (λ n. record { epoch = epoch; view = n }) f

-- a nullify that was made is remembered
made_before : (made : Made) (known : List Fact) (view : ℕ) → IsInOrder made known → has_nullified known view ≡ true
    → Contains (remembered known) (member.Own (subjects.Nullify (record { epoch = made.epoch; view = view })))
unfolding has_nullified
made_before made known view order e =
    let one = one_passes (is_nullify_in view) known e in
    let v = is_nullified view one.0 one.2 in
    let there : Contains known (Voted (votes.Nullify v.0)) = subst (Contains known) v.1 one.1 in
    let round = same_round v.0.round made.epoch view (order.own v.0 there) v.2 in
    subst (λ r. Contains (remembered known) (member.Own (subjects.Nullify r))) round (in_memory known (Voted (votes.Nullify v.0)) (member.Own (subjects.Nullify v.0.round)) there refl)

pub nullifying_facts : (made : Made) (known : List Fact) (view now : ℕ) (n : Nullify) → nullify_at made view ≡ Some n
    → facts_of made known (state.ConstructNullify view LeaderTimeout now) ≡ Published view now ∷ only_if (not (has_nullified known view)) (Voted (votes.Nullify n))
unfolding facts_of
nullifying_facts made known view now n e = ap (λ o. option_map_or (nullify_facts known view now) o []) e

pub none_facts : (made : Made) (known : List Fact) (view now : ℕ) → nullify_at made view ≡ None
    → facts_of made known (state.ConstructNullify view LeaderTimeout now) ≡ []
unfolding facts_of
none_facts made known view now e = ap (λ o. option_map_or (nullify_facts known view now) o []) e

-- the second time the nullify goes out with the best certificate, and nothing is appended
repeat_touches : (made : Made) (m : Member) (now : ℕ) (desk : Desk) (sections : List Section) (n : Nullify) → current_of made desk.known < greatest_view
    → IsRunning made desk.known sections m → nullify_at made (current_of made desk.known) ≡ Some n → has_nullified desk.known (current_of made desk.known) ≡ true
    → Repeats made m (
      record (tell made (state.ConstructNullify (current_of made desk.known) LeaderTimeout now) (begun desk)) { nullify = Some (n, best_certificate made desk.known) },
      Some (current_of made desk.known),
    )
repeat_touches made m now desk sections n low r e f =
    let known = desk.known in
    let view = current_of made known in
    let round = nullify_round made view n e in
    let again = run m (life.Repeat n.round ∷ []) in
    let same : facts_of made known (state.ConstructNullify view LeaderTimeout now) ≡ Published view now ∷ [] =
    nullifying_facts made known view now n e ∙ ap (λ t. Published view now ∷ only_if (not t) (Voted (votes.Nullify n))) f in
    let own : IsOwn made (votes.Nullify n) =
    (nullify_signed made view n e, (ap (λ (x : Round). x.epoch) round, subst (λ v. v < greatest_view) (sym (ap (λ (x : Round). x.view) round)) low)) in
    let was : Contains m.known (member.Own (subjects.Nullify n.round)) =
    subst (λ known. Contains known (member.Own (subjects.Nullify n.round))) (sym r.memory)
    (subst (λ r. Contains (remembered known) (member.Own (subjects.Nullify r))) (sym round) (made_before made known view r.order f)) in
    let may = subst (λ known. life.May made.term_length (record m { known = known }) (life.Vote (subjects.Nullify n.round))) (sym r.memory)
    (r.up, may_nullify made known n.round (ap (λ (x : Round). x.view) round) low) in
    record {
      first = life.Repeat n.round ∷ [];
      legal = ((r.up, may.1, was), tt);
      brought = refl;
      known = refl;
      sent = refl;
      journal = refl;
      box = λ s k. elim (Contains-cons_cases (subjects.Nullify n.round) [] s (subst (λ xs. Contains (subjects_of (xs ++ record { subject = subjects.Nullify n.round; known = member.certificates m.known } ∷ [])) s) r.outbox k)) [
        | inl same ↦ (n.round, sym same, ap (λ (x : Round). x.epoch) round, subst (λ v. v < greatest_view) (sym (ap (λ (x : Round). x.view) round)) low)
        | inr none ↦ absurd (not_in_empty s none)
      ];
      touched = subst (λ facts. Writes made again view [] false (facts ++ known) (votes.Nullify n ∷ [])) (sym same)
          (writes_known made again view [] false known (Published view now ∷ known) (votes.Nullify n ∷ [])
          (quiet_same made (Published view now ∷ []) known (refl, tt))
          (record {
            sim = record { legal = tt; up = r.up; memory = r.memory; order = r.order; box = ap (λ box. subjects_of (box ++ record { subject = subjects.Nullify n.round; known = member.certificates m.known } ∷ [])) r.outbox; fit = tt; sends = tt; first = nothing_first made again };
            only = only_from view m.journal r.stored;
            unwritten = λ h. r.stored;
            noted = ((inl (was, may.1.0), own), tt);
            earlier = λ h. ((inr (was, may.1.0), own), tt);
          }));
    }

-- the first time it is appended
first_touches : (made : Made) (m : Member) (now : ℕ) (desk : Desk) (sections : List Section) (n : Nullify) → current_of made desk.known < greatest_view
    → IsRunning made desk.known sections m → nullify_at made (current_of made desk.known) ≡ Some n → has_nullified desk.known (current_of made desk.known) ≡ false
    → Repeats made m (
      record (append (artifacts.Nullify n) (tell made (state.ConstructNullify (current_of made desk.known) LeaderTimeout now) (begun desk))) { nullify = Some (n, None) },
      Some (current_of made desk.known),
    )
first_touches made m now desk sections n low r e f =
    let known = desk.known in
    let view = current_of made known in
    let round = nullify_round made view n e in
    let here : n.round.view ≡ view = ap (λ (x : Round). x.view) round in
    let epoch : n.round.epoch ≡ made.epoch = ap (λ (x : Round). x.epoch) round in
    let voted = Voted (votes.Nullify n) in
    let later = facts_of made known (state.ConstructNullify view LeaderTimeout now) ++ known in
    let same : later ≡ Published view now ∷ voted ∷ known =
    ap (λ facts. facts ++ known) (nullifying_facts made known view now n e ∙ ap (λ t. Published view now ∷ only_if (not t) voted) f) in
    let b = begin made desk sections m r in
    plainly made m _ r.outbox
    (writes_note made m view [] false known later [] n.round.view (artifacts.Nullify n) (b.writes view) here
    (may_nullify made known n.round here low)
    (ap remembered same ∙ quiet_memory (Published view now ∷ []) (voted ∷ known) (refl, tt) ∙ remembered_push voted known)
    (subst (IsInOrder made) (sym same) (quiet_order made (Published view now ∷ []) (voted ∷ known) (refl, tt) (one_more made known voted epoch r.order)))
    (refl, epoch) ((nullify_signed made view n e, (epoch, subst (λ v. v < greatest_view) (sym here) low)), tt))

pub deadline_touches : (made : Made) (m : Member) (now : ℕ) (desk : Desk) (sections : List Section) → current_of made desk.known < greatest_view
    → IsRunning made desk.known sections m → Repeats made m (act_on_deadline made now (begun desk), Some (current_of made desk.known))
unfolding act_on_deadline
deadline_touches made m now desk sections low r = at (nullify_at made (current_of made desk.known)) refl
  where
    one : (n : Nullify) (t : Bool) → nullify_at made (current_of made desk.known) ≡ Some n → has_nullified desk.known (current_of made desk.known) ≡ t
        → Repeats made m (
          (if t
              then record (tell made (state.ConstructNullify (current_of made desk.known) LeaderTimeout now) (begun desk)) { nullify = Some (n, best_certificate made desk.known) }
              else record (append (artifacts.Nullify n) (tell made (state.ConstructNullify (current_of made desk.known) LeaderTimeout now) (begun desk))) { nullify = Some (n, None) }),
          Some (current_of made desk.known),
        )
    one n true e f = repeat_touches made m now desk sections n low r e f
    one n false e f = first_touches made m now desk sections n low r e f

    at : (o : Option Nullify) → nullify_at made (current_of made desk.known) ≡ o
        → Repeats made m (
          option_map_or (λ n.
              if has_nullified desk.known (current_of made desk.known)
              then record (tell made (state.ConstructNullify (current_of made desk.known) LeaderTimeout now) (begun desk)) { nullify = Some (n, best_certificate made desk.known) }
              else record (append (artifacts.Nullify n) (tell made (state.ConstructNullify (current_of made desk.known) LeaderTimeout now) (begun desk))) { nullify = Some (n, None) })
              o (begun desk),
          Some (current_of made desk.known),
        )
    at None e = plainly made m _ r.outbox (touched_at made m (begun desk) (current_of made desk.known) (begin made desk sections m r))
    at (Some n) e = one n (has_nullified desk.known (current_of made desk.known)) e refl
