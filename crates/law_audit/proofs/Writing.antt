-- Which calls of the journal a step makes.
use Rattle.std.proofs.Common.{◌≡◌, ℕ, ◌⊎◌, nat_le, Bool, true, false, List, [], ◌∷◌, ◌++◌, map, Option, Some, None, refl, sym, ap, ◌∙◌, subst, inl, inr, append-nil, if◌then◌else◌}
use Rattle.std.specs.List.{filter_map, cons_option}
use Rattle.std.proofs.lemmas.List.Elements.{filter_map-append}
use Rattle.std.specs.Option.{option_map}
use Rattle.law_member.proofs.Adding.{some_is}
use Rattle.simplex_values.specs.declared.answer.Answer.{Answer}
use Rattle.simplex_values.specs.declared.answer.Answer.TheVariants as answers
use Rattle.simplex_values.specs.declared.answer.Handoff.TheVariants as handoffs
use Rattle.simplex_values.specs.declared.round.Context.{Context}
use Rattle.simplex_values.specs.declared.round.Round.{Round}
use Rattle.simplex_wire.specs.declared.artifact.Artifact.{Artifact}
use Rattle.simplex_wire.specs.declared.artifact.Artifact.TheVariants as artifacts
use Rattle.simplex_wire.specs.declared.certificate.Certificate.{Certificate}
use Rattle.simplex_wire.specs.declared.certificate.Notarization.{Notarization}
use Rattle.simplex_wire.specs.declared.vote.Nullify.{Nullify}
use Rattle.model_rules.specs.declared.request.Asked.{Asked}
use Rattle.model_rules.specs.declared.request.Asked.TheVariants as asks
use Rattle.model_rules.specs.declared.request.ProposalState.{ProposalState}
use Rattle.model_rules.specs.declared.request.ProposalState.TheVariants.{Preparing, Proposing, Waiting, Held, Closed}
use Rattle.model_rules.specs.Known.{Made, Fact, has_nullified, notarization_of}
use Rattle.model_rules.specs.Views.{current_of, admits_certificate}
use Rattle.model_rules.specs.Slot.{records_answer}
use Rattle.model_rules.specs.Ancestry.{is_certified}
use Rattle.model_rules.specs.Deadline.{deadline_of}
use Rattle.model_rules.specs.Votes.{nullify_at}
use Rattle.model_rules.specs.Calls.{takes_verdict, certified_answer}
use Rattle.model_rules.specs.Pending.{Desk, Pending, Opened, pending_parent}
use Rattle.simplex_messages.specs.declared.call.Call.{Call}
use Rattle.simplex_messages.specs.declared.call.Call.TheVariants as calls
use Rattle.simplex_messages.specs.declared.voter.Message.TheVariants as mail
use Rattle.simplex_messages.specs.declared.voter.VoterInput.{VoterInput}
use Rattle.simplex_messages.specs.declared.voter.VoterInput.TheVariants as inputs
use Rattle.model_steps.specs.Desk.{Doing, begun}
use Rattle.model_steps.specs.Voter.{Standing, answer_to, act_on_deadline, propose, stage, give_up, act_on_proposal, act_on_verify, act_on_certify, adds, certificate_view, block_for, act_on_certificate, act_on_mail, take_proposal, first_answered, record_of}
use Rattle.model_steps.specs.Voter as voter
use Rattle.model_audit.specs.Taking.{Taking, Deadline, Mail, Reply}
use Rattle.model_audit.specs.JournalCalls.{added_by, records_taken}
use Rattle.law_audit.specs.Taken.{IsGiven, Takes}
use Rattle.law_audit.specs.Recording.{shape_of}
use Rattle.law_audit.proofs.Acting.{taken_on_one, not_admitted, of_some, of_map}

-- ---- what is told of the calls of the journal

-- a record was written or synced, with an own nullify where it is one; or sections were dropped
pub data Mark : Type 0 where
  Written : (nullify : Option Nullify) → Mark
  Dropped : (least : ℕ) → Mark

abbrev pub mark_of : Artifact → Mark
mark_of (artifacts.Nullify v) = Written (Some v)
mark_of _ = Written None

abbrev pub mark_in : Call → Option Mark
mark_in (calls.Append section artifact) = Some (mark_of artifact)
mark_in (calls.Sync section) = Some (Written None)
mark_in (calls.Prune least) = Some (Dropped least)
mark_in _ = None

abbrev pub marks_of : List Call → List Mark
marks_of made = filter_map mark_in made

abbrev pub is_any : List Artifact → Bool
is_any [] = false
is_any (artifact ∷ rest) = true

pub marks-append : (xs ys : List Call) → marks_of (xs ++ ys) ≡ marks_of xs ++ marks_of ys
marks-append xs ys = filter_map-append mark_in xs ys

-- a call that is none of the journal changes nothing
pub marks_still : (xs : List Call) (c : Call) → mark_in c ≡ None → marks_of (xs ++ c ∷ []) ≡ marks_of xs
marks_still xs c e = marks-append xs (c ∷ []) ∙ ap (λ o. marks_of xs ++ cons_option o []) e ∙ append-nil (marks_of xs)

-- the prunes are told by that
abbrev pub prune_of : Mark → Option ℕ
prune_of (Written nullify) = None
prune_of (Dropped least) = Some least

plain : (a : Artifact) → prune_of (mark_of a) ≡ None
plain (artifacts.Notarize v) = refl
plain (artifacts.Nullify v) = refl
plain (artifacts.Finalize v) = refl
plain (artifacts.Notarization c) = refl
plain (artifacts.Nullification c) = refl
plain (artifacts.Finalization c) = refl
plain (artifacts.Certification round good) = refl

pub shape_told : (cs : List Call) → shape_of cs ≡ map prune_of (marks_of cs)
shape_told [] = refl
shape_told (calls.Append section artifact ∷ cs) = ap (λ xs. None ∷ xs) (shape_told cs) ∙ ap (λ o. o ∷ map prune_of (marks_of cs)) (sym (plain artifact))
shape_told (calls.Sync section ∷ cs) = ap (λ xs. None ∷ xs) (shape_told cs)
shape_told (calls.Prune least ∷ cs) = ap (λ xs. Some least ∷ xs) (shape_told cs)
shape_told (calls.Send channel to bytes ∷ cs) = shape_told cs
shape_told (calls.Report a ∷ cs) = shape_told cs
shape_told (calls.Relay payload plan ∷ cs) = shape_told cs
shape_told (calls.Block who why ∷ cs) = shape_told cs

-- ---- acting appends what is recorded of the taking

pub record WritesAs (made : Made) (known : List Fact) (taking : Taking) (outcome : Doing × Option ℕ) : Type 0 where
  pub shape : marks_of outcome.0.calls ≡ map mark_of (records_taken made known taking)
  pub wrote : outcome.0.wrote ≡ is_any (records_taken made known taking)
  pub added : outcome.0.added ≡ added_by made known taking
  pub ends : outcome.1 ≡ None → records_taken made known taking ≡ []

-- nothing is recorded, and nothing appended
writes_none : (made : Made) (known : List Fact) (asked : Asked) (answer : Answer) (outcome : Doing × Option ℕ) → records_taken made known (Reply asked answer) ≡ []
    → marks_of outcome.0.calls ≡ [] → outcome.0.wrote ≡ false → outcome.0.added ≡ [] → WritesAs made known (Reply asked answer) outcome
writes_none made known asked answer outcome r s w a = record { shape = s ∙ ap (map mark_of) (sym r); wrote = w ∙ ap is_any (sym r); added = a; ends = λ e. r }

module _ (made : Made) (now : ℕ) where
  blocked_shape : (o : Option ℕ) (d : Doing) → marks_of (block_for o d).calls ≡ marks_of d.calls
  blocked_shape None d = refl
  blocked_shape (Some leader) d = marks_still d.calls _ refl

  blocked_wrote : (o : Option ℕ) (d : Doing) → (block_for o d).wrote ≡ d.wrote
  blocked_wrote None d = refl
  blocked_wrote (Some leader) d = refl

  blocked_added : (o : Option ℕ) (d : Doing) → (block_for o d).added ≡ d.added
  blocked_added None d = refl
  blocked_added (Some leader) d = refl

  verifies : (desk : Desk) (c : Certificate) → WritesAs made desk.known (Mail (mail.Verified c)) (act_on_certificate made now c (begun desk))
  unfolding act_on_certificate
  verifies desk c = at (admits_certificate made desk.known (certificate_view c)) (adds made desk.known c) refl refl
    where
      at : (admits added : Bool) → admits_certificate made desk.known (certificate_view c) ≡ admits → adds made desk.known c ≡ added
          → WritesAs made desk.known (Mail (mail.Verified c)) (act_on_certificate made now c (begun desk))
      at false true e f = absurd (cc (sym f ∙ not_admitted made now desk.known c e))
      at false false e f = record { shape = rw (e, f) refl; wrote = rw (e, f) refl; added = rw (e, f) refl; ends = λ h. rw f refl }
      at true false e f = record { shape = rw (e, f) refl; wrote = rw (e, f) refl; added = rw (e, f) refl; ends = λ h. rw f refl }
      at true true e f =
          record {
            shape = rw (e, f, blocked_shape _ _) refl;
            wrote = rw (e, f, blocked_wrote _ _) refl;
            added = rw (e, f, blocked_added _ _) refl;
            ends = rw (e, f) (λ h. cc);
          }

  gives_up : (desk : Desk) → WritesAs made desk.known Deadline (act_on_deadline made now (begun desk), Some (current_of made desk.known))
  unfolding act_on_deadline
  gives_up desk = at (nullify_at made (current_of made desk.known)) (has_nullified desk.known (current_of made desk.known)) refl refl
    where
      at : (o : Option Nullify) (t : Bool) → nullify_at made (current_of made desk.known) ≡ o → has_nullified desk.known (current_of made desk.known) ≡ t
          → WritesAs made desk.known Deadline (act_on_deadline made now (begun desk), Some (current_of made desk.known))
      at None true e f = record { shape = rw (e, f) refl; wrote = rw (e, f) refl; added = rw e refl; ends = λ h. cc }
      at None false e f = record { shape = rw (e, f) refl; wrote = rw (e, f) refl; added = rw e refl; ends = λ h. cc }
      at (Some n) true e f = record { shape = rw (e, f) refl; wrote = rw (e, f) refl; added = rw (e, f) refl; ends = λ h. cc }
      at (Some n) false e f = record { shape = rw (e, f) refl; wrote = rw (e, f) refl; added = rw (e, f) refl; ends = λ h. cc }

  proposes : (desk : Desk) (p : Pending) (payload : List ℕ) (asked : Asked) (answer : Answer) → records_taken made desk.known (Reply asked answer) ≡ []
      → WritesAs made desk.known (Reply asked answer) (propose made p payload (begun desk))
  unfolding propose
  proposes desk p payload asked answer r = at (records_answer made desk.known p.context.round.view) refl
    where
      at : (b : Bool) → records_answer made desk.known p.context.round.view ≡ b → WritesAs made desk.known (Reply asked answer) (propose made p payload (begun desk))
      at true e = writes_none made desk.known asked answer _ r (rw e refl) (rw e refl) (rw e refl)
      at false e = writes_none made desk.known asked answer _ r (rw e refl) (rw e refl) (rw e refl)

  stages : (desk : Desk) (p : Pending) (payload : List ℕ) (asked : Asked) (answer : Answer) → records_taken made desk.known (Reply asked answer) ≡ []
      → WritesAs made desk.known (Reply asked answer) (stage made p payload (begun desk))
  unfolding stage
  stages desk p payload asked answer r = at (is_certified desk.known p.context.parent.view) refl
    where
      at : (b : Bool) → is_certified desk.known p.context.parent.view ≡ b → WritesAs made desk.known (Reply asked answer) (stage made p payload (begun desk))
      at true e = rw e (proposes desk p payload asked answer r)
      at false e = rw e (writes_none made desk.known asked answer _ r refl refl refl)

  closes : (desk : Desk) (p : Pending) (state : ProposalState) (asked : Asked) (answer : Answer) → records_taken made desk.known (Reply asked answer) ≡ []
      → WritesAs made desk.known (Reply asked answer) (give_up made now p state (begun desk))
  unfolding give_up
  closes desk p Preparing asked answer r = writes_none made desk.known asked answer _ r refl refl refl
  closes desk p Proposing asked answer r = writes_none made desk.known asked answer _ r refl refl refl
  closes desk p Waiting asked answer r = writes_none made desk.known asked answer _ r refl refl refl
  closes desk p (Held payload) asked answer r = writes_none made desk.known asked answer _ r refl refl refl
  closes desk p Closed asked answer r = writes_none made desk.known asked answer _ r refl refl refl

  is_answered : (desk : Desk) (p : Pending) (answer : Answer) (asked : Asked) → records_taken made desk.known (Reply asked answer) ≡ []
      → WritesAs made desk.known (Reply asked answer) (act_on_proposal made now p answer (begun desk))
  unfolding act_on_proposal
  is_answered desk p (answers.Payload payload) asked r = proposes desk p payload asked (answers.Payload payload) r
  is_answered desk p (answers.Handoff handoffs.Wait) asked r = writes_none made desk.known asked (answers.Handoff handoffs.Wait) _ r refl refl refl
  is_answered desk p (answers.Handoff (handoffs.Stage payload)) asked r = stages desk p payload asked (answers.Handoff (handoffs.Stage payload)) r
  is_answered desk p (answers.Handoff (handoffs.Vote payload)) asked r = proposes desk p payload asked (answers.Handoff (handoffs.Vote payload)) r
  is_answered desk p (answers.Verdict good) asked r = writes_none made desk.known asked (answers.Verdict good) _ r refl refl refl
  is_answered desk p answers.Closed asked r = closes desk p p.state asked answers.Closed r

  of_request : (known : List Fact) (context : Context) (asked : Asked) (answer : Answer) → (asked ≡ asks.Prepare context) ⊎ (asked ≡ asks.Propose context) → records_taken made known (Reply asked answer) ≡ []
  of_request known context asked answer (inl e) = rw e refl
  of_request known context asked answer (inr e) = rw e refl

  is_taken : (s : Standing) (p : Pending) (state : ProposalState) (answer : Answer) (asked : Asked) (outcome : Doing × Option ℕ) → IsGiven s p state answer
      → records_taken made s.desk.known (Reply asked answer) ≡ [] → take_proposal made now s p state ≡ Some outcome → WritesAs made s.desk.known (Reply asked answer) outcome
  is_taken s p (Held payload) answer asked outcome g r e = held (is_certified s.desk.known (pending_parent p)) e
    where
      held : (b : Bool) → (if b then Some (propose made p payload (begun s.desk)) else None) ≡ Some outcome → WritesAs made s.desk.known (Reply asked answer) outcome
      held true h = subst (WritesAs made s.desk.known (Reply asked answer)) (some_is _ outcome h) (proposes s.desk p payload asked answer r)
      held false h = cc
  is_taken s p Preparing answer asked outcome g r e =
      subst (WritesAs made s.desk.known (Reply asked answer)) (some_is _ outcome (ap (option_map (λ a. act_on_proposal made now p a (begun s.desk))) (sym g) ∙ e)) (is_answered s.desk p answer asked r)
  is_taken s p Proposing answer asked outcome g r e =
      subst (WritesAs made s.desk.known (Reply asked answer)) (some_is _ outcome (ap (option_map (λ a. act_on_proposal made now p a (begun s.desk))) (sym g) ∙ e)) (is_answered s.desk p answer asked r)
  is_taken s p Waiting answer asked outcome g r e = cc
  is_taken s p Closed answer asked outcome g r e = cc

  judges : (desk : Desk) (v : Opened) (answer : Answer) (context : Context) (payload : List ℕ) → WritesAs made desk.known (Reply (asks.Verify context payload) answer) (act_on_verify made now v answer (begun desk))
  unfolding act_on_verify
  judges desk v (answers.Verdict true) context payload = writes_none made desk.known _ _ _ refl refl refl refl
  judges desk v (answers.Verdict false) context payload = writes_none made desk.known _ _ _ refl refl refl refl
  judges desk v (answers.Payload p) context payload = writes_none made desk.known _ _ _ refl refl refl refl
  judges desk v (answers.Handoff decision) context payload = writes_none made desk.known _ _ _ refl refl refl refl
  judges desk v answers.Closed context payload = writes_none made desk.known _ _ _ refl refl refl refl

  decides : (desk : Desk) (c : Opened) (answer : Answer) (round : Round) (payload : List ℕ) → round.view ≡ c.view
      → WritesAs made desk.known (Reply (asks.Certify round payload) answer) (act_on_certify made now c answer (begun desk))
  unfolding act_on_certify certified_answer
  decides desk c (answers.Verdict good) round payload w = at (takes_verdict desk.known c.view) (notarization_of desk.known c.view) refl refl
    where
      at : (t : Bool) (o : Option Notarization) → takes_verdict desk.known c.view ≡ t → notarization_of desk.known c.view ≡ o
          → WritesAs made desk.known (Reply (asks.Certify round payload) (answers.Verdict good)) (act_on_certify made now c (answers.Verdict good) (begun desk))
      at true None e f = absurd (taken_on_one made now desk.known c.view e f)
      at true (Some n) e f = record { shape = rw (w, e, f) refl; wrote = rw (w, e, f) refl; added = rw (e, f) refl; ends = rw (e, f) (λ h. cc) }
      at false o e f = record { shape = rw (w, e) refl; wrote = rw (w, e) refl; added = rw e refl; ends = λ h. rw (w, e) refl }
  decides desk c (answers.Payload p) round payload w = writes_none made desk.known _ _ _ refl refl refl refl
  decides desk c (answers.Handoff decision) round payload w = writes_none made desk.known _ _ _ refl refl refl refl
  decides desk c answers.Closed round payload w = writes_none made desk.known _ _ _ refl refl refl refl

  pub writes : (s : Standing) (input : VoterInput) (taking : Taking) (outcome : Doing × Option ℕ) → Takes s input taking → voter.acted made now s input ≡ Some outcome → WritesAs made s.desk.known taking outcome
  unfolding voter.acted act_on_mail
  writes s (inputs.Mail (mail.Proposal proposal)) taking outcome t e =
      subst (λ (x : Taking). WritesAs made s.desk.known x outcome) (sym t)
      (subst (WritesAs made s.desk.known (Mail (mail.Proposal proposal))) (some_is _ outcome e) (record { shape = refl; wrote = refl; added = refl; ends = λ h. refl }))
  writes s (inputs.Mail (mail.Timeout round reason)) taking outcome t e =
      subst (λ (x : Taking). WritesAs made s.desk.known x outcome) (sym t)
      (subst (WritesAs made s.desk.known (Mail (mail.Timeout round reason))) (some_is _ outcome e) (record { shape = refl; wrote = refl; added = refl; ends = λ h. refl }))
  writes s (inputs.Mail (mail.Verified c)) taking outcome t e =
      subst (λ (x : Taking). WritesAs made s.desk.known x outcome) (sym t) (subst (WritesAs made s.desk.known (Mail (mail.Verified c))) (some_is _ outcome e) (verifies s.desk c))
  writes s inputs.Timer taking outcome t e = subst (λ (x : Taking). WritesAs made s.desk.known x outcome) (sym t) (due (nat_le (deadline_of made s.desk.known).0 now) e)
    where
      due : (b : Bool) → (if b then Some (act_on_deadline made now (begun s.desk), Some (current_of made s.desk.known)) else None) ≡ Some outcome → WritesAs made s.desk.known Deadline outcome
      due true h = subst (WritesAs made s.desk.known Deadline) (some_is _ outcome h) (gives_up s.desk)
      due false h = cc
  writes s inputs.Propose taking outcome t e =
      subst (λ (x : Taking). WritesAs made s.desk.known x outcome) (sym t.same)
      (is_taken s t.pending t.pending.state t.answer t.asked outcome t.given (of_request s.desk.known t.pending.context t.asked t.answer t.request)
      (of_some made now (λ (p : Pending). take_proposal made now s p p.state) s.desk.proposal t.pending outcome t.stands e))
  writes s inputs.Verify taking outcome t e =
      subst (λ (x : Taking). WritesAs made s.desk.known x outcome) (sym t.same)
      (subst (WritesAs made s.desk.known (Reply (asks.Verify t.context t.payload) t.answer))
      (of_map made now (λ answer. act_on_verify made now t.opened answer (begun s.desk)) (answer_to s.answers t.opened.number) t.answer outcome t.given
      (of_some made now (λ (v : Opened). option_map (λ answer. act_on_verify made now v answer (begun s.desk)) (answer_to s.answers v.number)) s.desk.verify t.opened outcome t.stands e))
      (judges s.desk t.opened t.answer t.context t.payload))
  writes s inputs.Certify taking outcome t e =
      subst (λ (x : Taking). WritesAs made s.desk.known x outcome) (sym t.same)
      (subst (WritesAs made s.desk.known (Reply (asks.Certify t.round t.payload) t.answer))
      (of_map made now (λ (taken : Opened × Answer). act_on_certify made now taken.0 taken.1 (begun s.desk)) (first_answered s.desk.certify s.answers) (t.opened, t.answer) outcome t.given e)
      (decides s.desk t.opened t.answer t.round t.payload t.view))
