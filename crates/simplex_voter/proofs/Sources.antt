-- Whether a source holds anything, and which answer it would take.
use Rattle.std.proofs.Common.{◌≡◌, ℕ, Bool, true, false, List, map, Option, Some, None, refl, ap, ◌∙◌, cond, nat_le}
use Rattle.std.specs.Option.{is_some, option_map, option_and_then}
use Rattle.simplex_values.specs.declared.answer.Answer.{Answer}
use Rattle.model_rules.specs.Known.{Made}
use Rattle.model_rules.specs.Ancestry.{is_certified}
use Rattle.model_rules.specs.Deadline.{deadline_of}
use Rattle.model_rules.specs.Views.{current_of}
use Rattle.model_rules.specs.Pending.{Desk, Pending, Opened, pending_parent}
use Rattle.model_rules.specs.declared.request.ProposalState.{ProposalState}
use Rattle.model_rules.specs.declared.request.ProposalState.TheVariants.{Preparing, Proposing, Waiting, Held, Closed}
use Rattle.simplex_messages.specs.declared.voter.VoterInput.TheVariants as inputs
use Rattle.model_steps.specs.Desk.{Doing, begun}
use Rattle.model_steps.specs.Voter.{Standing, answer_to, acted, take_proposal, act_on_deadline, propose, act_on_proposal, act_on_verify, act_on_certify, with_answer}
use Rattle.simplex_wire.specs.declared.scheme.Scheme as schemes
use Rattle.simplex_types.specs.declared.elector.Elector as electors
use Rattle.simplex_voter.specs.declared.request.Arrival.{Arrival}
use Rattle.simplex_voter.specs.declared.request.OpenRequest.{OpenRequest}
use Rattle.simplex_voter.specs.declared.request.PendingProposal.{PendingProposal}
use Rattle.simplex_voter.specs.declared.planner.Planner.{Planner}
use Rattle.simplex_voter.specs.Actor.{next_answer}
use Rattle.simplex_voter.specs.Arrivals.{arrival_of, pending_of, opened_of, least_of, with_number, answer_kept}
use Rattle.simplex_voter.specs.Stands.{Stands, doing_of}
use Rattle.simplex_voter.proofs.Taking.{answer-kept, proposal-some, proposal-none, verify-none, certify-acts, certify-first, taken_of}

mapped-some : {A B : Type 0} (f : A → B) (x : Option A) → is_some (option_map f x) ≡ is_some x
mapped-some f None = refl
mapped-some f (Some a) = refl

mapped-twice : {A B C : Type 0} (f : B → C) (g : A → B) (x : Option A) → option_map f (option_map g x) ≡ option_map (λ a. f (g a)) x
mapped-twice f g None = refl
mapped-twice f g (Some a) = refl

some-if : {A : Type 0} (b : Bool) (x : A) → is_some (cond b (Some x) None) ≡ b
some-if true x = refl
some-if false x = refl

answer-some : (given : List (ℕ × Answer)) (number : ℕ) (arrival : Option Arrival) → arrival ≡ arrival_of given number → is_some (answer_to given number) ≡ is_some arrival
answer-some given number arrival kept = rw (answer-kept given 0 number, ← kept) (mapped-some (λ (a : Arrival). a.answer) arrival)

answer-numbered : (given : List (ℕ × Answer)) (number : ℕ) (arrival : Option Arrival) → arrival ≡ arrival_of given number
    → option_map (with_number number) (answer_to given number) ≡ option_map (λ (a : Arrival). with_number number a.answer) arrival
answer-numbered given number arrival kept = rw (answer-kept given 0 number, ← kept) (mapped-twice (with_number number) (λ (a : Arrival). a.answer) arrival)

taken-some : (r : Option OpenRequest) → is_some (taken_of r) ≡ is_some (answer_kept r)
taken-some None = refl
taken-some (Some r) = by-arrival r.arrival
  where
    by-arrival : (a : Option Arrival) → is_some (option_map (λ (x : Arrival). with_answer x.answer (opened_of r)) a) ≡ is_some (option_map (λ (x : Arrival). with_number r.number x.answer) a)
    by-arrival None = refl
    by-arrival (Some a) = refl

taken-numbered : (r : Option OpenRequest) → option_map (λ (taken : Opened × Answer). with_number taken.0.number taken.1) (taken_of r) ≡ answer_kept r
taken-numbered None = refl
taken-numbered (Some r) = mapped-twice (λ (taken : Opened × Answer). with_number taken.0.number taken.1) (λ (x : Arrival). with_answer x.answer (opened_of r)) r.arrival

module _ {S L : Type 0} {g : schemes.Ghosts S} {h : electors.Ghosts L} {planner : Planner S L g h} {made : Made} {answers : List (ℕ × Answer)} {desk : Desk} (s : Stands planner made answers (begun desk)) where
  abbrev at : Standing
  at = record { desk = desk; answers = answers }

  pending-is : desk.proposal ≡ option_map pending_of planner.proposal
  unfolding doing_of
  pending-is = ap (λ (d : Doing). d.desk.proposal) s.does

  verify-is : desk.verify ≡ option_map opened_of planner.verify
  unfolding doing_of
  verify-is = ap (λ (d : Doing). d.desk.verify) s.does

  certify-is : desk.certify ≡ map opened_of planner.certify.items
  unfolding doing_of
  certify-is = ap (λ (d : Doing). d.desk.certify) s.does

  -- ---- a proposal

  pub proposal-held-none : (now : ℕ) → planner.proposal ≡ None → is_some (acted made now at inputs.Propose) ≡ false
  proposal-held-none now none = rw (proposal-none made now desk answers (pending-is ∙ ap (option_map pending_of) none)) refl

  module _ (now : ℕ) (p : PendingProposal) (pending : planner.proposal ≡ Some p) where
    abbrev pub waits_in : ProposalState → Bool
    waits_in Preparing = is_some p.arrival
    waits_in Proposing = is_some p.arrival
    waits_in (Held payload) = is_certified desk.known (pending_parent (pending_of p))
    waits_in _ = false

    own : acted made now at inputs.Propose ≡ take_proposal made now at (pending_of p) p.state
    own = proposal-some made now desk answers (pending_of p) (pending-is ∙ ap (option_map pending_of) pending)

    kept : p.arrival ≡ arrival_of answers p.number
    kept = rw pending at s.keeps.proposal_kept

    by-state : (state : ProposalState) → is_some (take_proposal made now at (pending_of p) state) ≡ waits_in state
    by-state Preparing = mapped-some (λ answer. act_on_proposal made now (pending_of p) answer (begun desk)) (answer_to answers p.number) ∙ answer-some answers p.number p.arrival kept
    by-state Proposing = mapped-some (λ answer. act_on_proposal made now (pending_of p) answer (begun desk)) (answer_to answers p.number) ∙ answer-some answers p.number p.arrival kept
    by-state (Held payload) = some-if (is_certified desk.known (pending_parent (pending_of p))) (propose made (pending_of p) payload (begun desk))
    by-state Waiting = refl
    by-state Closed = refl

    pub proposal-held : (state : ProposalState) → p.state ≡ state → is_some (acted made now at inputs.Propose) ≡ waits_in state
    proposal-held state is =
        ap (λ (done : Option (Doing × Option ℕ)). is_some done) own ∙ ap (λ (state : ProposalState). is_some (take_proposal made now at (pending_of p) state)) is ∙ by-state state

  pub proposal-next : next_answer at inputs.Propose ≡ option_and_then (λ (p : PendingProposal). option_map (λ (a : Arrival). with_number p.number a.answer) p.arrival) planner.proposal
  unfolding next_answer
  proposal-next = rw pending-is (by-proposal planner.proposal refl)
    where
      by-proposal : (o : Option PendingProposal) → planner.proposal ≡ o
          → option_and_then (λ (p : Pending). option_map (with_number p.number) (answer_to answers p.number)) (option_map pending_of o)
          ≡ option_and_then (λ (p : PendingProposal). option_map (λ (a : Arrival). with_number p.number a.answer) p.arrival) o
      by-proposal None is = refl
      by-proposal (Some p) is = answer-numbered answers p.number p.arrival (rw is at s.keeps.proposal_kept)

  -- ---- a Verify

  pub verify-held-none : (now : ℕ) → planner.verify ≡ None → is_some (acted made now at inputs.Verify) ≡ false
  verify-held-none now none = rw (verify-none made now desk answers (verify-is ∙ ap (option_map opened_of) none)) refl

  pub verify-held : (now : ℕ) (v : OpenRequest) → planner.verify ≡ Some v → is_some (acted made now at inputs.Verify) ≡ is_some v.arrival
  unfolding acted
  verify-held now v some =
      ap (λ (o : Option Opened). is_some (option_and_then (λ (v : Opened). option_map (λ answer. act_on_verify made now v answer (begun desk)) (answer_to answers v.number)) o))
      (verify-is ∙ ap (option_map opened_of) some)
      ∙ mapped-some (λ answer. act_on_verify made now (opened_of v) answer (begun desk)) (answer_to answers v.number) ∙ answer-some answers v.number v.arrival (rw some at s.keeps.verify_kept)

  pub verify-next : next_answer at inputs.Verify ≡ answer_kept planner.verify
  unfolding next_answer
  verify-next = rw verify-is (by-verify planner.verify refl)
    where
      by-verify : (o : Option OpenRequest) → planner.verify ≡ o
          → option_and_then (λ (v : Opened). option_map (with_number v.number) (answer_to answers v.number)) (option_map opened_of o) ≡ answer_kept o
      by-verify None is = refl
      by-verify (Some v) is = answer-numbered answers v.number v.arrival (rw is at s.keeps.verify_kept)

  -- ---- a Certify

  pub certify-held : (now : ℕ) → is_some (acted made now at inputs.Certify) ≡ is_some (answer_kept (least_of None planner.certify.items))
  certify-held now =
      rw (certify-acts made now desk answers planner.certify.items certify-is s.keeps.certify_kept)
      (mapped-some (λ (t : Opened × Answer). act_on_certify made now t.0 t.1 (begun desk)) (taken_of (least_of None planner.certify.items)) ∙ taken-some (least_of None planner.certify.items))

  pub certify-next : next_answer at inputs.Certify ≡ answer_kept (least_of None planner.certify.items)
  unfolding next_answer
  certify-next = rw (certify-is, ← certify-first answers planner.certify.items s.keeps.certify_kept) (taken-numbered (least_of None planner.certify.items))

  -- ---- the deadline and the mail

  pub timer-held : (now : ℕ) → is_some (acted made now at inputs.Timer) ≡ nat_le (deadline_of made desk.known).0 now
  unfolding acted
  timer-held now = some-if (nat_le (deadline_of made desk.known).0 now) (act_on_deadline made now (begun desk), Some (current_of made desk.known))
