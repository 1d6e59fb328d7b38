-- What acting comes to in each case.
use Rattle.std.proofs.Common.{◌≡◌, ℕ, Bool, true, false, List, Option, Some, None, refl, cond}
use Rattle.simplex_wire.specs.declared.certificate.Notarization.{Notarization}
use Rattle.simplex_wire.specs.declared.certificate.Finalization.{Finalization}
use Rattle.simplex_wire.specs.declared.vote.Nullify.{Nullify}
use Rattle.simplex_values.specs.declared.answer.Answer.TheVariants as answers
use Rattle.simplex_values.specs.declared.answer.Handoff.{Handoff}
use Rattle.simplex_values.specs.declared.answer.Handoff.TheVariants as handoffs
use Rattle.simplex_values.specs.declared.plan.Plan.TheVariants as plans
use Rattle.simplex_values.specs.declared.timeout.TimeoutReason.TheVariants.{LeaderTimeout}
use Rattle.model_rules.specs.Known.{Made, Fact, has_nullified}
use Rattle.model_rules.specs.Views.{current_of}
use Rattle.model_rules.specs.Votes.{nullify_at}
use Rattle.model_rules.specs.Best.{best_certificate}
use Rattle.model_rules.specs.Calls as state
use Rattle.model_rules.specs.Calls.{adds_notarization, adds_finalization, contradicted_leader, add_notarization_answer, add_finalization_answer, construct_nullify_answer, facts_of}
use Rattle.model_rules.specs.Slot.{records_answer}
use Rattle.model_rules.specs.Ancestry.{is_certified}
use Rattle.model_rules.specs.Pending.{Pending, pending_view, pending_parent}
use Rattle.simplex_messages.specs.declared.call.Call.TheVariants as calls
use Rattle.model_steps.specs.Desk.{Doing, tell, make}
use Rattle.model_steps.specs.Voter.{settle_proposal, propose, stage, act_on_deadline, act_on_proposal}
use Rattle.simplex_voter.specs.Stands.{with_nullify, act_on_handoff}

pub propose-recorded : (made : Made) (p : Pending) (payload : List ℕ) (doing : Doing) → records_answer made doing.desk.known (pending_view p) ≡ true
    → propose made p payload doing ≡ (make (calls.Relay payload (plans.Propose p.context.round)) (settle_proposal (tell made (state.Proposed p.context payload) doing)), Some (pending_view p))
unfolding propose
propose-recorded made p payload doing h = rw h refl

pub propose-refused : (made : Made) (p : Pending) (payload : List ℕ) (doing : Doing) → records_answer made doing.desk.known (pending_view p) ≡ false
    → propose made p payload doing ≡ (settle_proposal (tell made (state.Proposed p.context payload) doing), None)
unfolding propose
propose-refused made p payload doing h = rw h refl

pub stage-certified : (made : Made) (p : Pending) (payload : List ℕ) (doing : Doing) → is_certified doing.desk.known (pending_parent p) ≡ true
    → stage made p payload doing ≡ propose made p payload doing
unfolding stage
stage-certified made p payload doing h = rw h refl

-- whether a certificate is added, and then whom it contradicts
pub added-notarization : (made : Made) (known : List Fact) (n : Notarization) → (add_notarization_answer made known n).0 ≡ adds_notarization made known n
unfolding add_notarization_answer
added-notarization made known n =
    elim (adds_notarization made known n) as (λ b. (cond {A = Bool × Option ℕ} b (true, contradicted_leader made known n.proposal) (false, None)).0 ≡ b) [ true ↦ refl | false ↦ refl ]

pub leader-notarization : (made : Made) (known : List Fact) (n : Notarization) → adds_notarization made known n ≡ true → (add_notarization_answer made known n).1 ≡ contradicted_leader made known n.proposal
unfolding add_notarization_answer
leader-notarization made known n h = rw h refl

pub added-finalization : (made : Made) (known : List Fact) (f : Finalization) → (add_finalization_answer made known f).0 ≡ adds_finalization made known f
unfolding add_finalization_answer
added-finalization made known f =
    elim (adds_finalization made known f) as (λ b. (cond {A = Bool × Option ℕ} b (true, contradicted_leader made known f.proposal) (false, None)).0 ≡ b) [ true ↦ refl | false ↦ refl ]

pub leader-finalization : (made : Made) (known : List Fact) (f : Finalization) → adds_finalization made known f ≡ true → (add_finalization_answer made known f).1 ≡ contradicted_leader made known f.proposal
unfolding add_finalization_answer
leader-finalization made known f h = rw h refl

-- what a deadline comes to
module _ (made : Made) (now : ℕ) (doing : Doing) where
  abbrev at : ℕ
  at = current_of made doing.desk.known

  abbrev Comes : Type 0
  Comes =
      with_nullify (construct_nullify_answer made doing.desk.known at) (best_certificate made doing.desk.known) (tell made (state.ConstructNullify at LeaderTimeout now) doing)
      ≡ act_on_deadline made now doing

  by-repeat : (n : Nullify) → nullify_at made at ≡ Some n → (b : Bool) → has_nullified doing.desk.known at ≡ b → Comes
  unfolding act_on_deadline construct_nullify_answer
  by-repeat n vote true repeat = rw (vote, repeat) refl
  by-repeat n vote false repeat = rw (vote, repeat) refl

  by-vote : (v : Option Nullify) → nullify_at made at ≡ v → Comes
  unfolding act_on_deadline construct_nullify_answer facts_of
  by-vote None vote = rw vote refl
  by-vote (Some n) vote = by-repeat n vote (has_nullified doing.desk.known at) refl

  pub deadline-comes : Comes
  deadline-comes = by-vote (nullify_at made at) refl

-- the decision of a handoff
pub handoff-is : (made : Made) (now : ℕ) (p : Pending) (decision : Handoff (List ℕ)) (doing : Doing) → act_on_handoff made p decision doing ≡ act_on_proposal made now p (answers.Handoff decision) doing
unfolding act_on_proposal
handoff-is made now p handoffs.Wait doing = refl
handoff-is made now p (handoffs.Stage payload) doing = refl
handoff-is made now p (handoffs.Vote payload) doing = refl
