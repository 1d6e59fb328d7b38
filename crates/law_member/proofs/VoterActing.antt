-- What a step does with what it takes, before its end.
use Rattle.simplex_types.specs.declared.cause.BlockCause.TheVariants.{LeaderConflict}
use Rattle.std.proofs.Common.{◌≡◌, ℕ, not, Bool, true, false, nat_le, List, [], ◌∷◌, ◌++◌, Option, Some, None, refl, sym, ap, ◌∙◌, subst, inl, inr, ◌⊎◌, cond, option_to_list, arith, append_assoc, if◌then◌else◌}
use Rattle.std.specs.Option.{option_map, option_map_or, option_and_then}
use Rattle.std.proofs.lemmas.Grind.{common_steps}
use Rattle.std.proofs.lemmas.List.Elements.{All-nil, All-cons}
use Rattle.simplex_values.specs.declared.answer.Answer.{Answer}
use Rattle.simplex_values.specs.declared.answer.Answer.TheVariants as answers
use Rattle.simplex_values.specs.declared.answer.Handoff.TheVariants as handoffs
use Rattle.simplex_values.specs.declared.plan.Plan.TheVariants as plans
use Rattle.simplex_values.specs.declared.round.Round.{Round}
use Rattle.simplex_values.specs.declared.timeout.TimeoutReason.TheVariants.{LeaderTimeout, MissingProposal, IgnoredProposal, InvalidProposal, FailedCertification}
use Rattle.simplex_wire.specs.declared.certificate.Certificate.{Certificate}
use Rattle.simplex_wire.specs.declared.certificate.Certificate.TheVariants as certificates
use Rattle.simplex_wire.specs.declared.certificate.Notarization.{Notarization}
use Rattle.simplex_wire.specs.declared.artifact.Artifact.TheVariants as artifacts
use Rattle.simplex_wire.specs.declared.vote.Nullify.{Nullify}
use Rattle.simplex_wire.specs.declared.vote.Vote.{Vote}
use Rattle.simplex_wire.specs.declared.vote.Vote.TheVariants as votes
use Rattle.simplex_wire.specs.Fields.{artifact_round}
use Rattle.simplex_messages.specs.declared.call.Call.TheVariants as calls
use Rattle.simplex_messages.specs.declared.handed.Handed.TheVariants as handed
use Rattle.simplex_messages.specs.declared.resolver.MailboxMessage.TheVariants as resolver
use Rattle.simplex_messages.specs.declared.voter.Message.{Message}
use Rattle.simplex_messages.specs.declared.voter.Message.TheVariants as mail
use Rattle.simplex_messages.specs.declared.voter.VoterInput.{VoterInput}
use Rattle.simplex_messages.specs.declared.voter.VoterInput.TheVariants as inputs
use Rattle.model_rules.specs.declared.request.ProposalState.{ProposalState}
use Rattle.model_rules.specs.declared.request.ProposalState.TheVariants.{Preparing, Proposing, Waiting, Held, Closed}
use Rattle.model_rules.specs.Known.{Made, Fact, Taken, Approved, Added, Judged, Voted, Published, view_of, notarization_in, notarization_of, has_nullified}
use Rattle.model_rules.specs.Views.{current_of, admits_certificate}
use Rattle.model_rules.specs.Slot.{records_answer, records_proposal}
use Rattle.model_rules.specs.Ancestry.{is_certified}
use Rattle.model_rules.specs.Votes.{nullify_at, signed_nullify}
use Rattle.model_rules.specs.Deadline.{triggered, deadline_of}
use Rattle.model_rules.specs.Requests.{verify_asked}
use Rattle.simplex_values.specs.declared.proposal.Proposal.{Proposal}
use Rattle.model_rules.specs.Best.{best_certificate}
use Rattle.model_rules.specs.Calls as state
use Rattle.model_rules.specs.Calls.{facts_of, adds_notarization, adds_nullification, adds_finalization, replay_answer, takes_verdict, certified_answer, judged, nullify_facts, only_if}
use Rattle.model_rules.specs.Pending.{Desk, Pending, Opened, pending_view, pending_parent}
use Rattle.model_rules.proofs.Soundness.{first_of-each}
use Rattle.model_steps.specs.Desk.{Doing, begun, tell, make, hand, append}
use Rattle.model_steps.specs.Voter.{Standing, answer_to, settle_proposal, proposal_stands, settle_certify, propose, stage, give_up, act_on_deadline, act_on_proposal, act_on_verify, act_on_certify, take_verdict, record_of, adds, adding, block_for, certificate_view, act_on_certificate, act_on_mail, take_proposal, first_answered, acted}
use Rattle.law_member.specs.Sections.{IsOfSection}
use Rattle.law_member.specs.VoterVotes.{votes_of, nullifies}
use Rattle.law_member.specs.Learned.{is_lasting, is_addition, is_publication, lasting, fact_of_record, additions, publications}
use Rattle.law_member.specs.Tidings.{of_proposals, is_of_proposal, payload_in, payload_for, own_with, approved_by, tidings}
use Rattle.law_member.proofs.Quiet.{left_out, IsQuiet, Quiet, Quiet-triggered, quiet_same}
use Rattle.law_member.proofs.Tallies.{nothing, Tally, Tallied, tally_plain, tally_note, tally_hands}
use Rattle.law_member.proofs.Syncing.{Flagged}
use Rattle.law_member.proofs.Adding.{IsAlong, IsJudged, Unpublished, some_is, notarization_added, best_added}
use Rattle.law_member.specs.Outgoing.{IsAdded, MayGoOut}
use Rattle.law_member.proofs.VoterEnding.{nullify_waiting, told_quietly}

-- what a step has done as it acted: no vote went out yet, and these are due; and it learned nothing of a proposal, or
-- this
pub record Acted (now : ℕ) (before : List Fact) (due : List Vote) (news : Option Fact) (outcome : Doing × Option ℕ) : Type 0 where
  pub learned : Option Fact
  pub tally : Tallied now before outcome.1 (record { votes = due; learned = learned; synced = false }) [] outcome.0
  pub flag : Flagged outcome.0
  pub shown : Unpublished (additions before) outcome.0
  pub waits : nullify_waiting outcome.0.nullify ≡ due
  pub ends : outcome.1 ≡ None → due ≡ []
  pub told : (learned ≡ None) ⊎ (learned ≡ news)

-- nothing is done yet
begins : (now : ℕ) (desk : Desk) (touched : Option ℕ) → Tallied now desk.known touched nothing [] (begun desk)
begins now desk touched = record { sections = All-nil (IsOfSection touched); written = refl; new = refl; published = refl; learned = refl; packets = refl; constructed = refl; guarded = tt; stored = λ e. refl; shown = All-nil (MayGoOut (additions desk.known)) }

-- no vote is due, and nothing of a proposal is learned
without_votes : (now : ℕ) (before : List Fact) (news : Option Fact) (d : Doing) (o : Option ℕ) → d.nullify ≡ None → Flagged d → IsJudged (additions before) d.verdict → Tallied now before o nothing [] d → Acted now before [] news (d, o)
without_votes now before news d o none flag judged t = record { learned = None; tally = t; flag = flag; shown = (subst (IsAlong (additions before)) (sym none) tt, judged); waits = ap nullify_waiting none; ends = λ e. refl; told = inl refl }

-- no vote is due, and this is learned
with_news : (now : ℕ) (before : List Fact) (news : Option Fact) (d : Doing) (o : Option ℕ) → d.nullify ≡ None → Flagged d → IsJudged (additions before) d.verdict → Tallied now before o (record { votes = []; learned = news; synced = false }) [] d → Acted now before [] news (d, o)
with_news now before news d o none flag judged t = record { learned = news; tally = t; flag = flag; shown = (subst (IsAlong (additions before)) (sym none) tt, judged); waits = ap nullify_waiting none; ends = λ e. refl; told = inr refl }

-- nothing is done but to learn what is of no proposal
learns : (now : ℕ) (made : Made) (news : Option Fact) (desk : Desk) (call : state.Call) (o : Option ℕ) → IsQuiet call → Acted now desk.known [] news (tell made call (begun desk), o)
learns now made news desk call o q = without_votes now desk.known news _ o refl (λ e. refl) tt (told_quietly now desk.known o nothing [] made (begun desk) call q (begins now desk o))

-- a fact of a proposal, and of nothing else
abbrev IsOfOne : Option Fact → Type 0
IsOfOne None = Unit {0}
IsOfOne (Some fact) = (is_lasting fact ≡ false) × (is_addition fact ≡ false) × (is_publication fact ≡ false) × (is_of_proposal fact ≡ true)

tells_news : (now : ℕ) (known later : List Fact) (o : Option ℕ) (news : Option Fact) → IsOfOne news → later ≡ option_to_list news ++ known
    → Tally now known o (record { votes = []; learned = news; synced = false }) [] [] [] [] later
tells_news now known later o None q e =
    record {
      sections = All-nil (IsOfSection o);
      written = ap lasting e;
      new = ap additions e;
      published = ap publications e;
      learned = ap of_proposals e;
      packets = refl;
      constructed = refl;
      guarded = tt;
      stored = λ e. refl;
      shown = All-nil (MayGoOut (additions later));
    }
tells_news now known later o (Some fact) q e =
    record {
      sections = All-nil (IsOfSection o);
      written = ap lasting e ∙ left_out is_lasting fact known q.0;
      new = ap additions e ∙ left_out is_addition fact known q.1;
      published = ap publications e ∙ left_out is_publication fact known q.2;
      learned = ap of_proposals e ∙ ap (λ b. cond b (fact ∷ of_proposals known) (of_proposals known)) q.3;
      packets = refl;
      constructed = refl;
      guarded = tt;
      stored = λ e. refl;
      shown = All-nil (MayGoOut (additions later));
    }

-- ---- answers

-- the member's own proposal is recorded where its view is free
answering_facts : (made : Made) (known : List Fact) (p : Pending) (payload : List ℕ) (t : Bool) → records_answer made known (pending_view p) ≡ t
    → facts_of made known (state.Proposed p.context payload) ≡ only_if t (own_with p payload)
unfolding facts_of
answering_facts made known p payload t e = ap (λ b. only_if b (own_with p payload)) e

propose_acts : (now : ℕ) (made : Made) (p : Pending) (payload : List ℕ) (desk : Desk) → Acted now desk.known [] (Some (own_with p payload)) (propose made p payload (begun desk))
unfolding propose
propose_acts now made p payload desk = at (records_answer made desk.known (pending_view p)) refl
  where
    at : (t : Bool) → records_answer made desk.known (pending_view p) ≡ t
        → (let told = settle_proposal (tell made (state.Proposed p.context payload) (begun desk)) in
        Acted now desk.known [] (Some (own_with p payload)) (if t then (make (calls.Relay payload (plans.Propose p.context.round)) told, Some (pending_view p)) else (told, None)))
    at true e =
        let settled = settle_proposal (tell made (state.Proposed p.context payload) (begun desk)) in
        let touched = Some (pending_view p) in
        let news = Some (own_with p payload) in
        with_news now desk.known news (make (calls.Relay payload (plans.Propose p.context.round)) settled) touched refl (λ e. refl) tt
        (tally_plain now desk.known touched (record { votes = []; learned = news; synced = false }) [] [] [] [] settled.desk.known (calls.Relay payload (plans.Propose p.context.round)) (tt, refl, refl, λ out. cc, tt)
        (tells_news now desk.known settled.desk.known touched news (refl, refl, refl, refl) (ap (λ facts. facts ++ desk.known) (answering_facts made desk.known p payload true e))))
    at false e =
        let settled = settle_proposal (tell made (state.Proposed p.context payload) (begun desk)) in
        without_votes now desk.known (Some (own_with p payload)) settled None refl (λ e. refl) tt
        (tells_news now desk.known settled.desk.known None None tt (ap (λ facts. facts ++ desk.known) (answering_facts made desk.known p payload false e)))

stage_acts : (now : ℕ) (made : Made) (p : Pending) (payload : List ℕ) (desk : Desk) → Acted now desk.known [] (Some (own_with p payload)) (stage made p payload (begun desk))
unfolding stage
stage_acts now made p payload desk = at (is_certified desk.known (pending_parent p))
  where
    at : (t : Bool) → Acted now desk.known [] (Some (own_with p payload)) (if t then propose made p payload (begun desk)
        else (proposal_stands p (Held payload) (make (calls.Relay payload (plans.Prepare p.context.round)) (begun desk)), None))
    at true = propose_acts now made p payload desk
    at false =
        without_votes now desk.known (Some (own_with p payload)) (proposal_stands p (Held payload) (make (calls.Relay payload (plans.Prepare p.context.round)) (begun desk))) None refl (λ e. refl) tt
        (tally_plain now desk.known None nothing [] [] [] [] desk.known (calls.Relay payload (plans.Prepare p.context.round)) (tt, refl, refl, λ out. cc, tt) (begins now desk None))

give_up_acts : (now : ℕ) (made : Made) (p : Pending) (at : ProposalState) (desk : Desk) → Acted now desk.known [] None (give_up made now p at (begun desk))
unfolding give_up
give_up_acts now made p Preparing desk = without_votes now desk.known None (proposal_stands p Closed (begun desk)) None refl (λ e. refl) tt (begins now desk None)
give_up_acts now made p _ desk =
    without_votes now desk.known None (settle_proposal (tell made (state.TriggerTimeout (pending_view p) MissingProposal now) (begun desk))) None refl (λ e. refl) tt
    (told_quietly now desk.known None nothing [] made (begun desk) (state.TriggerTimeout (pending_view p) MissingProposal now) tt (begins now desk None))

proposal_acts : (now : ℕ) (made : Made) (p : Pending) (answer : Answer) (desk : Desk) → Acted now desk.known [] (option_map (own_with p) (payload_in answer)) (act_on_proposal made now p answer (begun desk))
unfolding act_on_proposal
proposal_acts now made p (answers.Payload payload) desk = propose_acts now made p payload desk
proposal_acts now made p (answers.Handoff handoffs.Wait) desk = without_votes now desk.known None (proposal_stands p Waiting (begun desk)) None refl (λ e. refl) tt (begins now desk None)
proposal_acts now made p (answers.Handoff (handoffs.Stage payload)) desk = stage_acts now made p payload desk
proposal_acts now made p (answers.Handoff (handoffs.Vote payload)) desk = propose_acts now made p payload desk
proposal_acts now made p (answers.Verdict good) desk = without_votes now desk.known None (begun desk) None refl (λ e. refl) tt (begins now desk None)
proposal_acts now made p answers.Closed desk = give_up_acts now made p p.state desk

approving_facts : (made : Made) (known : List Fact) (view : ℕ) → facts_of made known (state.Verified view) ≡ option_to_list (option_map Approved (verify_asked known view))
unfolding facts_of
approving_facts made known view = refl

approval_of_one : (o : Option Proposal) → IsOfOne (option_map Approved o)
approval_of_one None = tt
approval_of_one (Some proposal) = (refl, refl, refl, refl)

verify_acts : (now : ℕ) (made : Made) (v : Opened) (answer : Answer) (desk : Desk) → Acted now desk.known [] (approved_by desk.known v answer) (act_on_verify made now v answer (begun desk))
unfolding act_on_verify
verify_acts now made v (answers.Verdict true) desk =
    let told = tell made (state.Verified v.view) (begun (record desk { verify = None })) in
    let news = option_map Approved (verify_asked desk.known v.view) in
    with_news now desk.known news told (Some v.view) refl (λ e. refl) tt
    (tells_news now desk.known told.desk.known (Some v.view) news (approval_of_one (verify_asked desk.known v.view)) (ap (λ facts. facts ++ desk.known) (approving_facts made desk.known v.view)))
verify_acts now made v (answers.Verdict false) desk = learns now made None (record desk { verify = None }) (state.VerificationFailed v.view InvalidProposal now) (Some v.view) tt
verify_acts now made v _ desk = learns now made None (record desk { verify = None }) (state.VerificationFailed v.view IgnoredProposal now) (Some v.view) tt

-- ---- a verdict

notarization_view_in : (view : ℕ) (fact : Fact) (n : Notarization) → notarization_in view fact ≡ Some n → view_of n.proposal ≡ view
notarization_view_in view (Added (certificates.Notarization m) now) n e = grind (arith, e)
notarization_view_in view _ n e = cc

notarization_view : (known : List Fact) (view : ℕ) (n : Notarization) → notarization_of known view ≡ Some n → view_of n.proposal ≡ view
unfolding notarization_of
notarization_view known view n e = first_of-each (notarization_in view) (λ (m : Notarization). view_of m.proposal ≡ view) (notarization_view_in view) known n e

failing_quiet : (made : Made) (known : List Fact) (view : ℕ) (good : Bool) (now : ℕ) → Quiet (if good then [] else triggered made known view FailedCertification now)
failing_quiet made known view true now = tt
failing_quiet made known view false now = Quiet-triggered made known view FailedCertification now

-- what a verdict adds, where it is taken and where it is not
certified_facts : (made : Made) (known : List Fact) (view : ℕ) (good : Bool) (now : ℕ) (t : Bool) → takes_verdict known view ≡ t
    → facts_of made known (state.Certified view good now) ≡ (if t then (if good then [] else triggered made known view FailedCertification now) ++ Judged view good now ∷ [] else [])
unfolding facts_of judged
certified_facts made known view good now t e = ap (λ b. if b then (if good then [] else triggered made known view FailedCertification now) ++ Judged view good now ∷ [] else []) e

certified_is : (known : List Fact) (view : ℕ) (t : Bool) → takes_verdict known view ≡ t → certified_answer known view ≡ (if t then notarization_of known view else None)
unfolding certified_answer
certified_is known view t e = ap (λ b. if b then notarization_of known view else None) e

-- a verdict that is taken is on a notarization
taken_on_one : (known : List Fact) (view : ℕ) → takes_verdict known view ≡ true → notarization_of known view ≡ None → ⊥
unfolding takes_verdict
taken_on_one known view e f = grind (arith, common_steps, e, f)

judged_acts : (now : ℕ) (made : Made) (number view : ℕ) (good : Bool) (n : Notarization) (desk : Desk) → view_of n.proposal ≡ view → IsAdded (additions desk.known) (certificates.Notarization n) → takes_verdict desk.known view ≡ true
    → Acted now desk.known [] None (take_verdict made view good (Some n) (tell made (state.Certified view good now) (settle_certify number (begun desk))))
judged_acts now made number view good n desk here added e =
    let known = desk.known in
    let extra = if good then [] else triggered made known view FailedCertification now in
    let fact = Judged view good now in
    let told = tell made (state.Certified view good now) (settle_certify number (begun desk)) in
    let same : told.desk.known ≡ extra ++ (fact ∷ known) = ap (λ facts. facts ++ known) (certified_facts made known view good now true e) ∙ append_assoc extra (fact ∷ []) known in
    let s = quiet_same extra (fact ∷ known) (failing_quiet made known view good now) in
    let artifact = artifacts.Certification n.proposal.round good in
    without_votes now known None (record (append artifact told) { verdict = Some (n, good) }) (Some view) refl (λ e. cc) added
    (tally_note now known (Some view) nothing [] [] [] [] known told.desk.known artifact refl (ap (λ v. Some v) (sym here))
    (record {
      lasts = ap lasting same ∙ s.lasts ∙ ap (λ v. Judged v good now ∷ lasting known) (sym here);
      adds = ap additions same ∙ s.adds;
      publishes = ap publications same ∙ s.publishes;
      learns = ap of_proposals same ∙ s.learns;
    }) (begins now desk (Some view)))

certify_acts : (now : ℕ) (made : Made) (number view : ℕ) (good : Bool) (desk : Desk)
    → Acted now desk.known [] None (take_verdict made view good (certified_answer desk.known view) (tell made (state.Certified view good now) (settle_certify number (begun desk))))
certify_acts now made number view good desk = at (takes_verdict desk.known view) (notarization_of desk.known view) refl refl
  where
    at : (t : Bool) (o : Option Notarization) → takes_verdict desk.known view ≡ t → notarization_of desk.known view ≡ o
        → Acted now desk.known [] None (take_verdict made view good (certified_answer desk.known view) (tell made (state.Certified view good now) (settle_certify number (begun desk))))
    at true (Some n) e f =
        subst (λ o. Acted now desk.known [] None (take_verdict made view good o (tell made (state.Certified view good now) (settle_certify number (begun desk)))))
        (sym (certified_is desk.known view true e ∙ f))
        (judged_acts now made number view good n desk (notarization_view desk.known view n f) (notarization_added desk.known view n f) e)
    at true None e f = absurd (taken_on_one desk.known view e f)
    at false o e f =
        subst (λ o. Acted now desk.known [] None (take_verdict made view good o (tell made (state.Certified view good now) (settle_certify number (begun desk)))))
        (sym (certified_is desk.known view false e))
        (without_votes now desk.known None (tell made (state.Certified view good now) (settle_certify number (begun desk))) None refl (λ e. refl) tt
        (subst (λ facts. Tally now desk.known None nothing [] [] [] [] (facts ++ desk.known)) (sym (certified_facts made desk.known view good now false e)) (begins now desk None)))

answer_certify_acts : (now : ℕ) (made : Made) (c : Opened) (answer : Answer) (desk : Desk) → Acted now desk.known [] None (act_on_certify made now c answer (begun desk))
unfolding act_on_certify
answer_certify_acts now made c (answers.Verdict good) desk = certify_acts now made c.number c.view good desk
answer_certify_acts now made c _ desk = without_votes now desk.known None (settle_certify c.number (begun desk)) (Some c.view) refl (λ e. refl) tt (begins now desk (Some c.view))

-- ---- a certificate

adding_facts : (made : Made) (known : List Fact) (c : Certificate) (now : ℕ) (t : Bool) → adds made known c ≡ t → facts_of made known (adding c now) ≡ only_if t (Added c now)
unfolding facts_of
adding_facts made known (certificates.Notarization n) now t e = ap (λ b. only_if b (Added (certificates.Notarization n) now)) e
adding_facts made known (certificates.Nullification n) now t e = ap (λ b. only_if b (Added (certificates.Nullification n) now)) e
adding_facts made known (certificates.Finalization n) now t e = ap (λ b. only_if b (Added (certificates.Finalization n) now)) e

adds_admits : (made : Made) (known : List Fact) (c : Certificate) → admits_certificate made known (certificate_view c) ≡ false → adds made known c ≡ false
unfolding adds_notarization adds_nullification adds_finalization
adds_admits made known (certificates.Notarization n) e = grind (arith, common_steps, e)
adds_admits made known (certificates.Nullification n) e = grind (arith, common_steps, e)
adds_admits made known (certificates.Finalization n) e = grind (arith, common_steps, e)

record_view : (c : Certificate) → (artifact_round (record_of c)).view ≡ certificate_view c
record_view (certificates.Notarization n) = refl
record_view (certificates.Nullification n) = refl
record_view (certificates.Finalization n) = refl

-- the record of a certificate that is added is appended
certificate_written : (now : ℕ) (known later : List Fact) (c : Certificate) → later ≡ Added c now ∷ known
    → Tally now known (Some (certificate_view c)) nothing [] (calls.Append (artifact_round (record_of c)).view (record_of c) ∷ []) [] (c ∷ []) later
certificate_written now known later c same =
    record {
      sections = All-cons (IsOfSection (Some (certificate_view c))) (calls.Append (artifact_round (record_of c)).view (record_of c)) []
          (ap (λ v. Some v) (sym (record_view c)), refl) (All-nil (IsOfSection (Some (certificate_view c))));
      written = ap lasting same ∙ ap (λ fact. fact ∷ lasting known) (at c);
      new = ap additions same;
      published = ap publications same;
      learned = ap of_proposals same;
      packets = refl;
      constructed = refl;
      guarded = (λ out. cc, tt);
      stored = λ e. cc;
      shown = All-cons (MayGoOut (additions later)) (calls.Append (artifact_round (record_of c)).view (record_of c)) [] tt (All-nil (MayGoOut (additions later)));
    }
  where
    at : (c : Certificate) → Added c now ≡ fact_of_record now (record_of c)
    at (certificates.Notarization n) = refl
    at (certificates.Nullification n) = refl
    at (certificates.Finalization n) = refl

blocked : (now : ℕ) (before : List Fact) (touched : Option ℕ) (d : Doing) (o : Option ℕ) → Tallied now before touched nothing [] d → Tallied now before touched nothing [] (block_for o d)
blocked now before touched d None t = t
blocked now before touched d (Some leader) t = tally_plain now before touched nothing [] d.calls d.handed d.added d.desk.known (calls.Block leader LeaderConflict) (tt, refl, refl, λ out. cc, tt) t

-- what was appended before a leader is blocked is still to be synced
block_flags : (o : Option ℕ) (d : Doing) → d.wrote ≡ true → Flagged (block_for o d)
block_flags None d wrote = λ e. cc (e, wrote)
block_flags (Some leader) d wrote = λ e. cc (e, wrote)

block_judges : (known : List Fact) (o : Option ℕ) (d : Doing) → IsJudged known d.verdict → IsJudged known (block_for o d).verdict
block_judges known None d h = h
block_judges known (Some leader) d h = h

block_keeps : (o : Option ℕ) (d : Doing) → (block_for o d).nullify ≡ d.nullify
block_keeps None d = refl
block_keeps (Some leader) d = refl

certificate_acts : (now : ℕ) (made : Made) (c : Certificate) (desk : Desk) → Acted now desk.known [] None (act_on_certificate made now c (begun desk))
unfolding act_on_certificate
certificate_acts now made c desk = at (admits_certificate made desk.known (certificate_view c)) (adds made desk.known c) refl refl
  where
    left : (o : Option ℕ) → adds made desk.known c ≡ false → Acted now desk.known [] None (tell made (adding c now) (begun desk), o)
    left o e =
        without_votes now desk.known None (tell made (adding c now) (begun desk)) o refl (λ e. refl) tt
        (subst (λ facts. Tally now desk.known o nothing [] [] [] [] (facts ++ desk.known)) (sym (adding_facts made desk.known c now false e)) (begins now desk o))

    at : (admitted added : Bool) → admits_certificate made desk.known (certificate_view c) ≡ admitted → adds made desk.known c ≡ added
        → (let known = desk.known in let told = tell made (adding c now) (begun desk) in
        Acted now desk.known [] None (if not admitted then (told, None)
        else if added
        then (
          hand (handed.Resolver (resolver.Updated c))
              (block_for (replay_answer made known (record_of c))
              (append (record_of c) (record told { added = [] ++ c ∷ [] }))),
          Some (certificate_view c),
        )
        else (told, Some (certificate_view c))))
    at false added e f = left None (adds_admits made desk.known c e)
    at true false e f = left (Some (certificate_view c)) f
    at true true e f =
        let known = desk.known in
        let touched = Some (certificate_view c) in
        let told = tell made (adding c now) (begun desk) in
        let noted = append (record_of c) (record told { added = c ∷ [] }) in
        let o = replay_answer made known (record_of c) in
        let after = block_for o noted in
        let written : Tallied now known touched nothing [] noted =
        certificate_written now known told.desk.known c (ap (λ facts. facts ++ known) (adding_facts made known c now true f)) in
        without_votes now known None (hand (handed.Resolver (resolver.Updated c)) after) touched (block_keeps o noted) (block_flags o noted refl) (block_judges (additions known) o noted tt)
        (tally_hands now known touched nothing [] after.calls after.handed (handed.Resolver (resolver.Updated c) ∷ []) after.added after.desk.known refl (blocked now known touched noted o written))

taking_facts : (made : Made) (known : List Fact) (view : ℕ) (proposal : Proposal) (t : Bool) → records_proposal made known proposal ≡ t
    → facts_of made known (state.SetProposal view proposal) ≡ only_if t (Taken proposal)
unfolding facts_of
taking_facts made known view proposal t e = ap (λ b. only_if b (Taken proposal)) e

-- the leader's proposal is recorded where its view has none
leader_acts : (now : ℕ) (made : Made) (proposal : Proposal) (o : Option ℕ) (desk : Desk) → Acted now desk.known [] (Some (Taken proposal)) (tell made (state.SetProposal (view_of proposal) proposal) (begun desk), o)
leader_acts now made proposal o desk = at (records_proposal made desk.known proposal) refl
  where
    at : (t : Bool) → records_proposal made desk.known proposal ≡ t → Acted now desk.known [] (Some (Taken proposal)) (tell made (state.SetProposal (view_of proposal) proposal) (begun desk), o)
    at true e =
        let told = tell made (state.SetProposal (view_of proposal) proposal) (begun desk) in
        with_news now desk.known (Some (Taken proposal)) told o refl (λ e. refl) tt
        (tells_news now desk.known told.desk.known o (Some (Taken proposal)) (refl, refl, refl, refl) (ap (λ facts. facts ++ desk.known) (taking_facts made desk.known (view_of proposal) proposal true e)))
    at false e =
        let told = tell made (state.SetProposal (view_of proposal) proposal) (begun desk) in
        without_votes now desk.known (Some (Taken proposal)) told o refl (λ e. refl) tt
        (tells_news now desk.known told.desk.known o None tt (ap (λ facts. facts ++ desk.known) (taking_facts made desk.known (view_of proposal) proposal false e)))

mail_acts : (now : ℕ) (made : Made) (message : Message) (s : Standing) → Acted now s.desk.known [] (tidings s (inputs.Mail message)) (act_on_mail made now message (begun s.desk))
unfolding act_on_mail tidings
mail_acts now made (mail.Proposal proposal) s = leader_acts now made proposal _ s.desk
mail_acts now made (mail.Timeout round reason) s = learns now made None s.desk (state.TriggerTimeout round.view reason now) (Some round.view) tt
mail_acts now made (mail.Verified c) s = certificate_acts now made c s.desk

-- ---- the deadline

nullify_round : (made : Made) (view : ℕ) (n : Nullify) → nullify_at made view ≡ Some n → n.round ≡ record { epoch = made.epoch; view = view }
unfolding nullify_at signed_nullify
nullify_round made view n e = grind (arith, common_steps, e)

nullifying_facts : (made : Made) (known : List Fact) (view now : ℕ) (o : Option Nullify) (t : Bool) → nullify_at made view ≡ o → has_nullified known view ≡ t
    → facts_of made known (state.ConstructNullify view LeaderTimeout now) ≡ option_map_or (λ n. Published view now ∷ only_if (not t) (Voted (votes.Nullify n))) o []
unfolding facts_of
nullifying_facts made known view now o t e f =
    ap (λ o. option_map_or (nullify_facts known view now) o []) e
    ∙ ap (λ b. option_map_or (λ n. Published view now ∷ only_if (not b) (Voted (votes.Nullify n))) o []) f

-- a repeated nullify is known already
repeat_acts : (now : ℕ) (made : Made) (desk : Desk) (n : Nullify) → nullify_at made (current_of made desk.known) ≡ Some n → has_nullified desk.known (current_of made desk.known) ≡ true
    → Acted now desk.known (votes.Nullify n ∷ []) None (
      record (tell made (state.ConstructNullify (current_of made desk.known) LeaderTimeout now) (begun desk)) { nullify = Some (n, best_certificate made desk.known) },
      Some (current_of made desk.known),
    )
repeat_acts now made desk n e f =
    let known = desk.known in
    let view = current_of made known in
    let here : n.round.view ≡ view = ap (λ (x : Round). x.view) (nullify_round made view n e) in
    let same = ap (λ facts. facts ++ known) (nullifying_facts made known view now (Some n) true e f) in
    record {
      learned = None;
      tally = record {
        sections = All-nil (IsOfSection (Some view));
        written = ap lasting same;
        new = ap additions same;
        published = ap publications same ∙ ap (λ v. Published v now ∷ publications known) (sym here);
        learned = ap of_proposals same;
        packets = refl;
        constructed = refl;
        guarded = tt;
        stored = λ e. refl;
        shown = All-nil (MayGoOut (additions (facts_of made known (state.ConstructNullify view LeaderTimeout now) ++ known)));
      };
      flag = λ e. refl;
      shown = (best_added made known, tt);
      waits = refl;
      ends = λ h. cc;
      told = inl refl;
    }

-- the first is appended
first_acts : (now : ℕ) (made : Made) (desk : Desk) (n : Nullify) → nullify_at made (current_of made desk.known) ≡ Some n → has_nullified desk.known (current_of made desk.known) ≡ false
    → Acted now desk.known (votes.Nullify n ∷ []) None (
      record (append (artifacts.Nullify n) (tell made (state.ConstructNullify (current_of made desk.known) LeaderTimeout now) (begun desk))) { nullify = Some (n, None) },
      Some (current_of made desk.known),
    )
first_acts now made desk n e f =
    let known = desk.known in
    let view = current_of made known in
    let touched = Some view in
    let here : n.round.view ≡ view = ap (λ (x : Round). x.view) (nullify_round made view n e) in
    let same = ap (λ facts. facts ++ known) (nullifying_facts made known view now (Some n) false e f) in
    record {
      learned = None;
      tally = record {
        sections = All-cons (IsOfSection touched) (calls.Append n.round.view (artifacts.Nullify n)) [] (ap (λ v. Some v) (sym here), refl) (All-nil (IsOfSection touched));
        written = ap lasting same;
        new = ap additions same;
        published = ap publications same ∙ ap (λ v. Published v now ∷ publications known) (sym here);
        learned = ap of_proposals same;
        packets = refl;
        constructed = refl;
        guarded = (λ out. cc, tt);
        stored = λ e. cc;
        shown = All-cons (MayGoOut (additions (facts_of made known (state.ConstructNullify view LeaderTimeout now) ++ known))) (calls.Append n.round.view (artifacts.Nullify n)) [] tt (All-nil (MayGoOut (additions (facts_of made known (state.ConstructNullify view LeaderTimeout now) ++ known))));
      };
      flag = λ e. cc;
      shown = (tt, tt);
      waits = refl;
      ends = λ h. cc;
      told = inl refl;
    }

deadline_acts : (now : ℕ) (made : Made) (desk : Desk)
    → Acted now desk.known (votes_of votes.Nullify (nullify_at made (current_of made desk.known))) None (act_on_deadline made now (begun desk), Some (current_of made desk.known))
unfolding act_on_deadline
deadline_acts now made desk = at (nullify_at made (current_of made desk.known)) refl
  where
    one : (n : Nullify) (t : Bool) → nullify_at made (current_of made desk.known) ≡ Some n → has_nullified desk.known (current_of made desk.known) ≡ t
        → Acted now desk.known (votes.Nullify n ∷ []) None (
          (if t
              then record (tell made (state.ConstructNullify (current_of made desk.known) LeaderTimeout now) (begun desk)) { nullify = Some (n, best_certificate made desk.known) }
              else record (append (artifacts.Nullify n) (tell made (state.ConstructNullify (current_of made desk.known) LeaderTimeout now) (begun desk))) { nullify = Some (n, None) }),
          Some (current_of made desk.known),
        )
    one n true e f = repeat_acts now made desk n e f
    one n false e f = first_acts now made desk n e f

    at : (o : Option Nullify) → nullify_at made (current_of made desk.known) ≡ o
        → Acted now desk.known (votes_of votes.Nullify o) None (
          option_map_or (λ n.
              if has_nullified desk.known (current_of made desk.known)
              then record (tell made (state.ConstructNullify (current_of made desk.known) LeaderTimeout now) (begun desk)) { nullify = Some (n, best_certificate made desk.known) }
              else record (append (artifacts.Nullify n) (tell made (state.ConstructNullify (current_of made desk.known) LeaderTimeout now) (begun desk))) { nullify = Some (n, None) })
              o (begun desk),
          Some (current_of made desk.known),
        )
    at None e = without_votes now desk.known None (begun desk) (Some (current_of made desk.known)) refl (λ e. refl) tt (begins now desk (Some (current_of made desk.known)))
    at (Some n) e = one n (has_nullified desk.known (current_of made desk.known)) e refl

-- ---- whatever its source holds

-- what an option gives, its value gives
gives : {A B : Type 0} (P : Option A → B → Type 0) (f : A → B) (o : Option A) (b : B) → ((a : A) → P (Some a) (f a)) → option_map f o ≡ Some b → P o b
gives P f None b each e = cc
gives P f (Some a) b each e = subst (P (Some a)) (some_is (f a) b e) (each a)

gives_some : {A B : Type 0} (P : Option A → B → Type 0) (f : A → Option B) (o : Option A) (b : B) → ((a : A) → f a ≡ Some b → P (Some a) b) → option_and_then f o ≡ Some b → P o b
gives_some P f None b each e = cc
gives_some P f (Some a) b each e = each a e

answer_acts : (now : ℕ) (made : Made) (s : Standing) (p : Pending) (outcome : Doing × Option ℕ)
    → option_map (λ answer. act_on_proposal made now p answer (begun s.desk)) (answer_to s.answers p.number) ≡ Some outcome
    → Acted now s.desk.known [] (option_map (own_with p) (option_and_then payload_in (answer_to s.answers p.number))) outcome
answer_acts now made s p outcome e =
    gives (λ (o : Option Answer). Acted now s.desk.known [] (option_map (own_with p) (option_and_then payload_in o))) (λ answer. act_on_proposal made now p answer (begun s.desk)) (answer_to s.answers p.number) outcome
    (λ answer. proposal_acts now made p answer s.desk) e

taken_acts : (now : ℕ) (made : Made) (s : Standing) (p : Pending) (at : ProposalState) (outcome : Doing × Option ℕ) → take_proposal made now s p at ≡ Some outcome
    → Acted now s.desk.known [] (option_map (own_with p) (payload_for s p at)) outcome
taken_acts now made s p (Held payload) outcome e = held (is_certified s.desk.known (pending_parent p)) e
  where
    held : (t : Bool) → (if t then Some (propose made p payload (begun s.desk)) else None) ≡ Some outcome → Acted now s.desk.known [] (Some (own_with p payload)) outcome
    held true h = subst (Acted now s.desk.known [] (Some (own_with p payload))) (some_is _ outcome h) (propose_acts now made p payload s.desk)
    held false h = cc
taken_acts now made s p Preparing outcome e = answer_acts now made s p outcome e
taken_acts now made s p Proposing outcome e = answer_acts now made s p outcome e
taken_acts now made s p Waiting outcome e = cc
taken_acts now made s p Closed outcome e = cc

verified_acts : (now : ℕ) (made : Made) (s : Standing) (v : Opened) (outcome : Doing × Option ℕ)
    → option_map (λ answer. act_on_verify made now v answer (begun s.desk)) (answer_to s.answers v.number) ≡ Some outcome
    → Acted now s.desk.known [] (option_and_then (approved_by s.desk.known v) (answer_to s.answers v.number)) outcome
verified_acts now made s v outcome e =
    gives (λ (o : Option Answer). Acted now s.desk.known [] (option_and_then (approved_by s.desk.known v) o)) (λ answer. act_on_verify made now v answer (begun s.desk)) (answer_to s.answers v.number) outcome
    (λ answer. verify_acts now made v answer s.desk) e

pub step_acts : (now : ℕ) (made : Made) (s : Standing) (input : VoterInput) (outcome : Doing × Option ℕ) → acted made now s input ≡ Some outcome
    → Acted now s.desk.known (nullifies made s.desk.known input) (tidings s input) outcome
unfolding acted tidings
step_acts now made s (inputs.Mail message) outcome e = subst (Acted now s.desk.known [] (tidings s (inputs.Mail message))) (some_is _ outcome e) (mail_acts now made message s)
step_acts now made s inputs.Timer outcome e = due (nat_le (deadline_of made s.desk.known).0 now) e
  where
    due : (t : Bool) → (if t then Some (act_on_deadline made now (begun s.desk), Some (current_of made s.desk.known)) else None) ≡ Some outcome
        → Acted now s.desk.known (votes_of votes.Nullify (nullify_at made (current_of made s.desk.known))) None outcome
    due true h = subst (Acted now s.desk.known (votes_of votes.Nullify (nullify_at made (current_of made s.desk.known))) None) (some_is _ outcome h) (deadline_acts now made s.desk)
    due false h = cc
step_acts now made s inputs.Propose outcome e =
    gives_some (λ (o : Option Pending). Acted now s.desk.known [] (option_and_then (λ p. option_map (own_with p) (payload_for s p p.state)) o)) (λ (p : Pending). take_proposal made now s p p.state) s.desk.proposal outcome
    (λ p. taken_acts now made s p p.state outcome) e
step_acts now made s inputs.Verify outcome e =
    gives_some (λ (o : Option Opened). Acted now s.desk.known [] (option_and_then (λ v. option_and_then (approved_by s.desk.known v) (answer_to s.answers v.number)) o))
    (λ (v : Opened). option_map (λ answer. act_on_verify made now v answer (begun s.desk)) (answer_to s.answers v.number)) s.desk.verify outcome
    (λ v. verified_acts now made s v outcome) e
step_acts now made s inputs.Certify outcome e =
    gives (λ (o : Option (Opened × Answer)). Acted now s.desk.known [] None) (λ (taken : Opened × Answer). act_on_certify made now taken.0 taken.1 (begun s.desk)) (first_answered s.desk.certify s.answers) outcome
    (λ taken. answer_certify_acts now made taken.0 taken.1 s.desk) e
