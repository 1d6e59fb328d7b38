-- What a step does with what it takes is what was said of the taking.
use Rattle.std.proofs.Common.{◌≡◌, ℕ, ◌⊎◌, ◌&&◌, nat_le, nat_lt, Bool, true, false, List, [], ◌∷◌, ◌++◌, Option, Some, None, refl, sym, ap, ◌∙◌, subst, inl, inr, if◌then◌else◌}
use Rattle.std.specs.Option.{option_map, option_map_or, option_and_then, is_none, is_some}
use Rattle.std.proofs.lemmas.List.{append_assoc}
use Rattle.law_member.proofs.Adding.{some_is}
use Rattle.simplex_values.specs.declared.answer.Answer.{Answer}
use Rattle.simplex_values.specs.declared.answer.Answer.TheVariants as answers
use Rattle.simplex_values.specs.declared.answer.Handoff.TheVariants as handoffs
use Rattle.simplex_values.specs.declared.proposal.Proposal.{Proposal}
use Rattle.simplex_values.specs.declared.round.Context.{Context}
use Rattle.simplex_values.specs.declared.round.Round.{Round}
use Rattle.simplex_values.specs.declared.timeout.TimeoutReason.{TimeoutReason}
use Rattle.simplex_values.specs.declared.timeout.TimeoutReason.TheVariants.{MissingProposal, IgnoredProposal, InvalidProposal, FailedCertification}
use Rattle.simplex_wire.specs.declared.certificate.Certificate.{Certificate}
use Rattle.simplex_wire.specs.declared.certificate.Certificate.TheVariants as certificates
use Rattle.simplex_wire.specs.declared.certificate.Notarization.{Notarization}
use Rattle.simplex_wire.specs.declared.vote.Nullify.{Nullify}
use Rattle.model_rules.specs.declared.request.Asked.{Asked}
use Rattle.model_rules.specs.declared.request.Asked.TheVariants as asks
use Rattle.model_rules.specs.declared.request.ProposalState.{ProposalState}
use Rattle.model_rules.specs.declared.request.ProposalState.TheVariants.{Preparing, Proposing, Waiting, Held, Closed}
use Rattle.model_rules.specs.Known.{Made, Fact, Added, Taken, Answered, Approved, Judged, Expired, Failed, has_nullified, notarization_of, verdict_of}
use Rattle.model_rules.specs.Views.{current_of, last_finalized, admits_certificate}
use Rattle.model_rules.specs.Slot.{records_proposal, records_answer}
use Rattle.model_rules.specs.Ancestry.{is_certified}
use Rattle.model_rules.specs.Deadline.{expires, fails, triggered, deadline_of}
use Rattle.model_rules.specs.Requests.{verify_asked}
use Rattle.model_rules.specs.Votes.{nullify_at}
use Rattle.model_rules.specs.Calls.{only_if, facts_of, proposal_on, judged, takes_verdict, certified_answer, adds_notarization, adds_nullification, adds_finalization}
use Rattle.model_rules.specs.Pending.{Desk, Pending, Opened, pending_view, pending_parent}
use Rattle.simplex_messages.specs.declared.voter.Message.TheVariants as mail
use Rattle.simplex_messages.specs.declared.voter.VoterInput.{VoterInput}
use Rattle.simplex_messages.specs.declared.voter.VoterInput.TheVariants as inputs
use Rattle.model_steps.specs.Desk.{Doing, begun}
use Rattle.model_steps.specs.Voter.{Standing, answer_to, act_on_deadline, propose, stage, give_up, act_on_proposal, act_on_verify, take_verdict, settle_certify, act_on_certify, adds, adding, certificate_view, block_for, act_on_certificate, act_on_mail, take_proposal, first_answered}
use Rattle.model_steps.specs.Voter as voter
use Rattle.model_audit.specs.Alike.{AreAlike}
use Rattle.model_audit.specs.Taking.{Taking, Deadline, Mail, Reply, payload_for, own_proposal, learned, acted, view_if, view_answered, touched, newly_known}
use Rattle.law_audit.specs.Taken.{IsGiven, Takes}
use Rattle.law_audit.proofs.Alike.{alike_itself}

-- the view is the one that was said, and what is known is alike
pub record ActsAs (made : Made) (now : ℕ) (known : List Fact) (taking : Taking) (outcome : Doing × Option ℕ) : Type 0 where
  pub touches : outcome.1 ≡ touched made known taking
  pub knows : AreAlike (newly_known made known taking ++ acted made now known outcome.0.added taking) outcome.0.desk.known

-- ---- a failure or an expiry

alike_triggered : (made : Made) (known rest : List Fact) (view : ℕ) (reason : TimeoutReason) (now : ℕ) → AreAlike rest (triggered made known view reason now ++ rest)
unfolding triggered
alike_triggered made known rest view reason now = at (expires made known view reason) (fails made known view reason)
  where
    at : (a b : Bool) → AreAlike rest ((if a then Expired view reason now ∷ [] else if b then Failed view reason ∷ [] else []) ++ rest)
    at true b = record { certificates = refl; judged = refl; voted = refl; proposals = refl }
    at false true = record { certificates = refl; judged = refl; voted = refl; proposals = refl }
    at false false = alike_itself rest

module _ (made : Made) (now : ℕ) where
  -- ---- mail

  leads : (desk : Desk) (proposal : Proposal) → ActsAs made now desk.known (Mail (mail.Proposal proposal)) (act_on_mail made now (mail.Proposal proposal) (begun desk))
  unfolding act_on_mail facts_of learned touched
  leads desk proposal = record { touches = refl; knows = alike_itself (only_if (records_proposal made desk.known proposal) (Taken proposal) ++ desk.known) }

  times_out : (desk : Desk) (round : Round) (reason : TimeoutReason) → ActsAs made now desk.known (Mail (mail.Timeout round reason)) (act_on_mail made now (mail.Timeout round reason) (begun desk))
  unfolding act_on_mail facts_of learned touched
  times_out desk round reason = record { touches = refl; knows = alike_triggered made desk.known desk.known round.view reason now }

  adding_facts : (known : List Fact) (c : Certificate) → facts_of made known (adding c now) ≡ only_if (adds made known c) (Added c now)
  unfolding facts_of
  adding_facts known (certificates.Notarization n) = refl
  adding_facts known (certificates.Nullification n) = refl
  adding_facts known (certificates.Finalization f) = refl

  admitted : (x y : Bool) → x ≡ false → (x && y) ≡ false
  admitted true y e = cc
  admitted false y e = refl

  pub not_admitted : (known : List Fact) (c : Certificate) → admits_certificate made known (certificate_view c) ≡ false → adds made known c ≡ false
  unfolding adds_notarization adds_nullification adds_finalization
  not_admitted known (certificates.Notarization n) e = admitted _ _ e
  not_admitted known (certificates.Nullification n) e = admitted _ _ e
  not_admitted known (certificates.Finalization f) e = admitted _ _ e

  blocked_known : (o : Option ℕ) (d : Doing) → (block_for o d).desk.known ≡ d.desk.known
  blocked_known None d = refl
  blocked_known (Some leader) d = refl

  blocked_added : (o : Option ℕ) (d : Doing) → (block_for o d).added ≡ d.added
  blocked_added None d = refl
  blocked_added (Some leader) d = refl

  verifies : (desk : Desk) (c : Certificate) → ActsAs made now desk.known (Mail (mail.Verified c)) (act_on_certificate made now c (begun desk))
  unfolding act_on_certificate learned touched
  verifies desk c = at (admits_certificate made desk.known (certificate_view c)) (adds made desk.known c) refl refl (adding_facts desk.known c)
    where
      at : (admits added : Bool) → admits_certificate made desk.known (certificate_view c) ≡ admits → adds made desk.known c ≡ added
          → facts_of made desk.known (adding c now) ≡ only_if (adds made desk.known c) (Added c now) → ActsAs made now desk.known (Mail (mail.Verified c)) (act_on_certificate made now c (begun desk))
      at false true e f g = absurd (cc (sym f ∙ not_admitted desk.known c e))
      at false false e f g =
          record {
            touches = rw e refl;
            knows = rw (e, g, f) (alike_itself desk.known);
          }
      at true false e f g =
          record {
            touches = rw (e, f) refl;
            knows = rw (e, f, g, f) (alike_itself desk.known);
          }
      at true true e f g =
          record {
            touches = rw (e, f) refl;
            knows = rw (e, f, blocked_known _ _, blocked_added _ _, g, f) (alike_itself (Added c now ∷ desk.known));
          }

  -- ---- a deadline

  gives_up : (desk : Desk) → ActsAs made now desk.known Deadline (act_on_deadline made now (begun desk), Some (current_of made desk.known))
  unfolding act_on_deadline facts_of learned touched
  gives_up desk = record { touches = refl; knows = at (nullify_at made (current_of made desk.known)) (has_nullified desk.known (current_of made desk.known)) refl refl }
    where
      at : (o : Option Nullify) (t : Bool) → nullify_at made (current_of made desk.known) ≡ o → has_nullified desk.known (current_of made desk.known) ≡ t
          → AreAlike (newly_known made desk.known Deadline ++ acted made now desk.known (act_on_deadline made now (begun desk)).added Deadline) (act_on_deadline made now (begun desk)).desk.known
      at None true e f = rw (e, f) (alike_itself desk.known)
      at None false e f = rw (e, f) (alike_itself desk.known)
      at (Some n) true e f = rw (e, f) (record { certificates = refl; judged = refl; voted = refl; proposals = refl })
      at (Some n) false e f = rw (e, f) (record { certificates = refl; judged = refl; voted = refl; proposals = refl })

  -- ---- the answer to a proposal request

  proposes : (desk : Desk) (p : Pending) (payload : List ℕ) (asked : Asked) (answer : Answer)
      → learned made now desk.known (Reply asked answer) ≡ own_proposal made desk.known p.context payload
      → touched made desk.known (Reply asked answer) ≡ view_if (records_answer made desk.known p.context.round.view) p.context.round.view
      → ActsAs made now desk.known (Reply asked answer) (propose made p payload (begun desk))
  unfolding propose facts_of
  proposes desk p payload asked answer l t = at (records_answer made desk.known p.context.round.view) refl
    where
      at : (b : Bool) → records_answer made desk.known p.context.round.view ≡ b → ActsAs made now desk.known (Reply asked answer) (propose made p payload (begun desk))
      at true e = record { touches = rw (t, e) refl; knows = rw (l, e) (alike_itself (Answered (proposal_on p.context payload) ∷ desk.known)) }
      at false e = record { touches = rw (t, e) refl; knows = rw (l, e) (alike_itself desk.known) }

  -- nothing is learned, no view is touched
  rests : (desk : Desk) (asked : Asked) (answer : Answer) (outcome : Doing × Option ℕ) → learned made now desk.known (Reply asked answer) ≡ [] → touched made desk.known (Reply asked answer) ≡ None
      → outcome.1 ≡ None → outcome.0.added ≡ [] → AreAlike desk.known outcome.0.desk.known → ActsAs made now desk.known (Reply asked answer) outcome
  rests desk asked answer outcome l t o a k = record { touches = o ∙ sym t; knows = rw (l, a) k }

  stages : (desk : Desk) (p : Pending) (payload : List ℕ) (asked : Asked)
      → learned made now desk.known (Reply asked (answers.Handoff (handoffs.Stage payload))) ≡ option_map_or (own_proposal made desk.known p.context) (payload_for desk.known p.context (answers.Handoff (handoffs.Stage payload))) []
      → touched made desk.known (Reply asked (answers.Handoff (handoffs.Stage payload))) ≡ view_answered made desk.known p.context (answers.Handoff (handoffs.Stage payload))
      → ActsAs made now desk.known (Reply asked (answers.Handoff (handoffs.Stage payload))) (stage made p payload (begun desk))
  unfolding stage
  stages desk p payload asked l t = at (is_certified desk.known p.context.parent.view) refl
    where
      at : (b : Bool) → is_certified desk.known p.context.parent.view ≡ b → ActsAs made now desk.known (Reply asked (answers.Handoff (handoffs.Stage payload))) (stage made p payload (begun desk))
      at true e = rw e (proposes desk p payload asked (answers.Handoff (handoffs.Stage payload)) (l ∙ rw e refl) (t ∙ rw e refl))
      at false e = rw e (rests desk asked (answers.Handoff (handoffs.Stage payload)) _ (l ∙ rw e refl) (t ∙ rw e refl) refl refl (alike_itself desk.known))

  closes : (desk : Desk) (p : Pending) (state : ProposalState) (asked : Asked) → learned made now desk.known (Reply asked answers.Closed) ≡ [] → touched made desk.known (Reply asked answers.Closed) ≡ None
      → ActsAs made now desk.known (Reply asked answers.Closed) (give_up made now p state (begun desk))
  unfolding give_up facts_of
  closes desk p Preparing asked l t = rests desk asked answers.Closed _ l t refl refl (alike_itself desk.known)
  closes desk p Proposing asked l t = rests desk asked answers.Closed _ l t refl refl (alike_triggered made desk.known desk.known (pending_view p) MissingProposal now)
  closes desk p Waiting asked l t = rests desk asked answers.Closed _ l t refl refl (alike_triggered made desk.known desk.known (pending_view p) MissingProposal now)
  closes desk p (Held payload) asked l t = rests desk asked answers.Closed _ l t refl refl (alike_triggered made desk.known desk.known (pending_view p) MissingProposal now)
  closes desk p Closed asked l t = rests desk asked answers.Closed _ l t refl refl (alike_triggered made desk.known desk.known (pending_view p) MissingProposal now)

  is_answered : (desk : Desk) (p : Pending) (answer : Answer) (asked : Asked)
      → learned made now desk.known (Reply asked answer) ≡ option_map_or (own_proposal made desk.known p.context) (payload_for desk.known p.context answer) []
      → touched made desk.known (Reply asked answer) ≡ view_answered made desk.known p.context answer
      → ActsAs made now desk.known (Reply asked answer) (act_on_proposal made now p answer (begun desk))
  unfolding act_on_proposal
  is_answered desk p (answers.Payload payload) asked l t = proposes desk p payload asked (answers.Payload payload) l t
  is_answered desk p (answers.Handoff handoffs.Wait) asked l t = rests desk asked (answers.Handoff handoffs.Wait) _ l t refl refl (alike_itself desk.known)
  is_answered desk p (answers.Handoff (handoffs.Stage payload)) asked l t = stages desk p payload asked l t
  is_answered desk p (answers.Handoff (handoffs.Vote payload)) asked l t = proposes desk p payload asked (answers.Handoff (handoffs.Vote payload)) l t
  is_answered desk p (answers.Verdict good) asked l t = rests desk asked (answers.Verdict good) _ l t refl refl (alike_itself desk.known)
  is_answered desk p answers.Closed asked l t = closes desk p p.state asked l t

  of_request : (known : List Fact) (context : Context) (asked : Asked) (answer : Answer) → (asked ≡ asks.Prepare context) ⊎ (asked ≡ asks.Propose context)
      → (learned made now known (Reply asked answer) ≡ option_map_or (own_proposal made known context) (payload_for known context answer) []) × (touched made known (Reply asked answer) ≡ view_answered made known context answer)
  unfolding learned touched
  of_request known context asked answer (inl e) = rw e (refl, refl)
  of_request known context asked answer (inr e) = rw e (refl, refl)

  is_taken : (s : Standing) (p : Pending) (state : ProposalState) (answer : Answer) (asked : Asked) (outcome : Doing × Option ℕ) → IsGiven s p state answer
      → learned made now s.desk.known (Reply asked answer) ≡ option_map_or (own_proposal made s.desk.known p.context) (payload_for s.desk.known p.context answer) []
      → touched made s.desk.known (Reply asked answer) ≡ view_answered made s.desk.known p.context answer
      → take_proposal made now s p state ≡ Some outcome → ActsAs made now s.desk.known (Reply asked answer) outcome
  is_taken s p (Held payload) answer asked outcome g l t e = held (is_certified s.desk.known (pending_parent p)) refl e
    where
      held : (b : Bool) → is_certified s.desk.known (pending_parent p) ≡ b → (if b then Some (propose made p payload (begun s.desk)) else None) ≡ Some outcome → ActsAs made now s.desk.known (Reply asked answer) outcome
      held true f h =
          subst (ActsAs made now s.desk.known (Reply asked answer)) (some_is _ outcome h)
          (proposes s.desk p payload asked answer (l ∙ rw (g, f) refl) (t ∙ rw (g, f) refl))
      held false f h = cc
  is_taken s p Preparing answer asked outcome g l t e =
      subst (ActsAs made now s.desk.known (Reply asked answer)) (some_is _ outcome (ap (option_map (λ a. act_on_proposal made now p a (begun s.desk))) (sym g) ∙ e)) (is_answered s.desk p answer asked l t)
  is_taken s p Proposing answer asked outcome g l t e =
      subst (ActsAs made now s.desk.known (Reply asked answer)) (some_is _ outcome (ap (option_map (λ a. act_on_proposal made now p a (begun s.desk))) (sym g) ∙ e)) (is_answered s.desk p answer asked l t)
  is_taken s p Waiting answer asked outcome g l t e = cc
  is_taken s p Closed answer asked outcome g l t e = cc

  -- ---- a judgement

  judges : (desk : Desk) (v : Opened) (answer : Answer) (context : Context) (payload : List ℕ) → verify_asked desk.known v.view ≡ Some (proposal_on context payload) → context.round.view ≡ v.view
      → ActsAs made now desk.known (Reply (asks.Verify context payload) answer) (act_on_verify made now v answer (begun desk))
  unfolding act_on_verify facts_of learned touched
  judges desk v (answers.Verdict true) context payload r w =
      record { touches = ap Some (sym w); knows = rw r (alike_itself (Approved (proposal_on context payload) ∷ desk.known)) }
  judges desk v (answers.Verdict false) context payload r w = record { touches = ap Some (sym w); knows = alike_triggered made desk.known desk.known v.view InvalidProposal now }
  judges desk v (answers.Payload p) context payload r w = record { touches = ap Some (sym w); knows = alike_triggered made desk.known desk.known v.view IgnoredProposal now }
  judges desk v (answers.Handoff decision) context payload r w = record { touches = ap Some (sym w); knows = alike_triggered made desk.known desk.known v.view IgnoredProposal now }
  judges desk v answers.Closed context payload r w = record { touches = ap Some (sym w); knows = alike_triggered made desk.known desk.known v.view IgnoredProposal now }

  -- ---- a verdict

  alike_failed : (known : List Fact) (view : ℕ) (good : Bool)
      → AreAlike (Judged view good now ∷ known) (((if good then [] else triggered made known view FailedCertification now) ++ Judged view good now ∷ []) ++ known)
  alike_failed known view true = alike_itself (Judged view true now ∷ known)
  alike_failed known view false =
      subst (AreAlike (Judged view false now ∷ known)) (sym (append_assoc (triggered made known view FailedCertification now) (Judged view false now ∷ []) known))
      (alike_triggered made known (Judged view false now ∷ known) view FailedCertification now)

  pub taken_on_one : (known : List Fact) (view : ℕ) → takes_verdict known view ≡ true → notarization_of known view ≡ None → ⊥
  unfolding takes_verdict
  taken_on_one known view e f = middle (nat_lt (last_finalized known) view) (is_some (notarization_of known view)) (is_none (verdict_of known view)) (is_none_then (notarization_of known view) f) e
    where
      middle : (a b c : Bool) → b ≡ false → (a && b && c) ≡ true → ⊥
      middle a true c f h = cc
      middle true false c f h = cc
      middle false false c f h = cc

      is_none_then : (o : Option Notarization) → o ≡ None → is_some o ≡ false
      is_none_then None e = refl
      is_none_then (Some n) e = cc

  decides : (desk : Desk) (c : Opened) (answer : Answer) (round : Round) (payload : List ℕ) → round.view ≡ c.view
      → ActsAs made now desk.known (Reply (asks.Certify round payload) answer) (act_on_certify made now c answer (begun desk))
  unfolding act_on_certify facts_of judged learned touched certified_answer
  decides desk c (answers.Verdict good) round payload w = at (takes_verdict desk.known c.view) (notarization_of desk.known c.view) refl refl
    where
      at : (t : Bool) (o : Option Notarization) → takes_verdict desk.known c.view ≡ t → notarization_of desk.known c.view ≡ o
          → ActsAs made now desk.known (Reply (asks.Certify round payload) (answers.Verdict good)) (act_on_certify made now c (answers.Verdict good) (begun desk))
      at true None e f = absurd (taken_on_one desk.known c.view e f)
      at true (Some n) e f = record { touches = rw (w, e, f) refl; knows = rw (w, e, f) (alike_failed desk.known c.view good) }
      at false o e f = record { touches = rw (w, e) refl; knows = rw (w, e) (alike_itself desk.known) }
  decides desk c (answers.Payload p) round payload w = record { touches = ap Some (sym w); knows = alike_itself desk.known }
  decides desk c (answers.Handoff decision) round payload w = record { touches = ap Some (sym w); knows = alike_itself desk.known }
  decides desk c answers.Closed round payload w = record { touches = ap Some (sym w); knows = alike_itself desk.known }

  -- ---- a step

  pub of_some : {A B : Type 0} (f : A → Option B) (o : Option A) (a : A) (b : B) → o ≡ Some a → option_and_then f o ≡ Some b → f a ≡ Some b
  of_some f None a b e h = cc
  of_some f (Some x) a b e h = rw (sym (some_is x a e)) h

  pub of_map : {A B : Type 0} (f : A → B) (o : Option A) (a : A) (b : B) → o ≡ Some a → option_map f o ≡ Some b → f a ≡ b
  of_map f None a b e h = cc
  of_map f (Some x) a b e h = rw (sym (some_is x a e)) (some_is _ b h)

  pub acts : (s : Standing) (input : VoterInput) (taking : Taking) (outcome : Doing × Option ℕ) → Takes s input taking → voter.acted made now s input ≡ Some outcome → ActsAs made now s.desk.known taking outcome
  unfolding voter.acted act_on_mail
  acts s (inputs.Mail (mail.Proposal proposal)) taking outcome t e =
      subst (λ (x : Taking). ActsAs made now s.desk.known x outcome) (sym t) (subst (ActsAs made now s.desk.known (Mail (mail.Proposal proposal))) (some_is _ outcome e) (leads s.desk proposal))
  acts s (inputs.Mail (mail.Timeout round reason)) taking outcome t e =
      subst (λ (x : Taking). ActsAs made now s.desk.known x outcome) (sym t) (subst (ActsAs made now s.desk.known (Mail (mail.Timeout round reason))) (some_is _ outcome e) (times_out s.desk round reason))
  acts s (inputs.Mail (mail.Verified c)) taking outcome t e =
      subst (λ (x : Taking). ActsAs made now s.desk.known x outcome) (sym t) (subst (ActsAs made now s.desk.known (Mail (mail.Verified c))) (some_is _ outcome e) (verifies s.desk c))
  acts s inputs.Timer taking outcome t e = subst (λ (x : Taking). ActsAs made now s.desk.known x outcome) (sym t) (due (nat_le (deadline_of made s.desk.known).0 now) e)
    where
      due : (b : Bool) → (if b then Some (act_on_deadline made now (begun s.desk), Some (current_of made s.desk.known)) else None) ≡ Some outcome → ActsAs made now s.desk.known Deadline outcome
      due true h = subst (ActsAs made now s.desk.known Deadline) (some_is _ outcome h) (gives_up s.desk)
      due false h = cc
  acts s inputs.Propose taking outcome t e =
      let said = of_request s.desk.known t.pending.context t.asked t.answer t.request in
      subst (λ (x : Taking). ActsAs made now s.desk.known x outcome) (sym t.same)
      (is_taken s t.pending t.pending.state t.answer t.asked outcome t.given said.0 said.1
      (of_some (λ (p : Pending). take_proposal made now s p p.state) s.desk.proposal t.pending outcome t.stands e))
  acts s inputs.Verify taking outcome t e =
      subst (λ (x : Taking). ActsAs made now s.desk.known x outcome) (sym t.same)
      (subst (ActsAs made now s.desk.known (Reply (asks.Verify t.context t.payload) t.answer))
      (of_map (λ answer. act_on_verify made now t.opened answer (begun s.desk)) (answer_to s.answers t.opened.number) t.answer outcome t.given
      (of_some (λ (v : Opened). option_map (λ answer. act_on_verify made now v answer (begun s.desk)) (answer_to s.answers v.number)) s.desk.verify t.opened outcome t.stands e))
      (judges s.desk t.opened t.answer t.context t.payload t.request t.view))
  acts s inputs.Certify taking outcome t e =
      subst (λ (x : Taking). ActsAs made now s.desk.known x outcome) (sym t.same)
      (subst (ActsAs made now s.desk.known (Reply (asks.Certify t.round t.payload) t.answer))
      (of_map (λ (taken : Opened × Answer). act_on_certify made now taken.0 taken.1 (begun s.desk)) (first_answered s.desk.certify s.answers) (t.opened, t.answer) outcome t.given e)
      (decides s.desk t.opened t.answer t.round t.payload t.view))
