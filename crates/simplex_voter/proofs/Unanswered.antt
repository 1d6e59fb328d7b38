-- The open requests that have no answer yet are those that keep none.
use Rattle.std.proofs.Common.{◌≡◌, ℕ, Bool, true, false, List, [], ◌∷◌, map, find, Option, Some, None, refl, ap, ◌∙◌, cond}
use Rattle.std.specs.Option.{is_none, option_map, option_and_then}
use Rattle.simplex_values.specs.declared.answer.Answer.{Answer}
use Rattle.model_rules.specs.Known.{Made}
use Rattle.model_rules.specs.Pending.{Desk, Pending, Opened}
use Rattle.model_rules.specs.declared.request.ProposalState.{ProposalState}
use Rattle.model_rules.specs.declared.request.ProposalState.TheVariants.{Preparing, Proposing, Waiting, Held, Closed}
use Rattle.model_steps.specs.Desk.{Doing, begun}
use Rattle.model_steps.specs.Voter.{Standing, answer_to}
use Rattle.simplex_wire.specs.declared.scheme.Scheme as schemes
use Rattle.simplex_types.specs.declared.elector.Elector as electors
use Rattle.simplex_voter.specs.declared.kind.AskKind.TheVariants.{Prepare, Propose, Verify, Certify}
use Rattle.simplex_voter.specs.declared.request.Arrival.{Arrival}
use Rattle.simplex_voter.specs.declared.request.OpenRequest.{OpenRequest}
use Rattle.simplex_voter.specs.declared.request.PendingProposal.{PendingProposal}
use Rattle.simplex_voter.specs.declared.planner.Planner.{Planner}
use Rattle.simplex_voter.specs.Arrivals.{arrival_of, pending_of, opened_of, AllKept, if_waiting, pending_prepare, pending_propose, first_waiting}
use Rattle.simplex_voter.specs.Stands.{Stands, doing_of}
use Rattle.simplex_voter.specs.Unanswered.{unanswered, if_unanswered, prepare_of, propose_of}
use Rattle.simplex_voter.proofs.Taking.{answer-kept}

by-arrival : (number : ℕ) (a : Option Arrival) → cond (is_none (option_map (λ (a : Arrival). a.answer) a)) (Some number) None ≡ if_waiting number a
by-arrival number None = refl
by-arrival number (Some a) = refl

waits-kept : (given : List (ℕ × Answer)) (number : ℕ) (arrival : Option Arrival) → arrival ≡ arrival_of given number → if_unanswered given number ≡ if_waiting number arrival
waits-kept given number arrival kept = rw (answer-kept given 0 number, ← kept) (by-arrival number arrival)

found-if : {A B : Type 0} (f : A → B) (b : Bool) (x : A) (rest : Option A) → option_map f (cond b (Some x) rest) ≡ cond b (Some (f x)) (option_map f rest)
found-if f true x rest = refl
found-if f false x rest = refl

none-kept : (given : List (ℕ × Answer)) (number : ℕ) (arrival : Option Arrival) → arrival ≡ arrival_of given number → is_none (answer_to given number) ≡ is_none arrival
none-kept given number arrival kept = rw (answer-kept given 0 number, ← kept) (by-kept arrival)
  where
    by-kept : (a : Option Arrival) → is_none (option_map (λ (a : Arrival). a.answer) a) ≡ is_none a
    by-kept None = refl
    by-kept (Some a) = refl

first-kept : (given : List (ℕ × Answer)) (certify : List OpenRequest) → AllKept given certify
    → option_map (λ (c : Opened). c.number) (find (λ (c : Opened). is_none (answer_to given c.number)) (map opened_of certify)) ≡ first_waiting certify
unfolding AllKept first_waiting
first-kept given [] kept = refl
first-kept given (r ∷ rest) kept =
    found-if (λ (c : Opened). c.number) (is_none (answer_to given r.number)) (opened_of r) (find (λ (c : Opened). is_none (answer_to given c.number)) (map opened_of rest))
    ∙ rw (none-kept given r.number r.arrival kept.0, first-kept given rest kept.1) refl

module _ {S L : Type 0} {g : schemes.Ghosts S} {h : electors.Ghosts L} {planner : Planner S L g h} {made : Made} {answers : List (ℕ × Answer)} {desk : Desk} (s : Stands planner made answers (begun desk)) where
  abbrev at : Standing
  at = record { desk = desk; answers = answers }

  pending-is : desk.proposal ≡ option_map pending_of planner.proposal
  unfolding doing_of
  pending-is = ap (λ (d : Doing). d.desk.proposal) s.does

  verify-is : desk.verify ≡ option_map opened_of planner.verify
  unfolding doing_of
  verify-is = ap (λ (d : Doing). d.desk.verify) s.does

  certify-is : desk.certify ≡ map opened_of planner.certify.items
  unfolding doing_of
  certify-is = ap (λ (d : Doing). d.desk.certify) s.does

  pub prepare-unanswered : unanswered at Prepare ≡ option_and_then pending_prepare planner.proposal
  unfolding unanswered
  prepare-unanswered = rw pending-is (by-proposal planner.proposal refl)
    where
      by-state : (p : PendingProposal) (state : ProposalState) → p.arrival ≡ arrival_of answers p.number
          → option_and_then (if_unanswered answers) (prepare_of state p.number) ≡ option_and_then (λ number. if_waiting number p.arrival) (prepare_of state p.number)
      by-state p Preparing kept = waits-kept answers p.number p.arrival kept
      by-state p Proposing kept = refl
      by-state p Waiting kept = refl
      by-state p (Held payload) kept = refl
      by-state p Closed kept = refl

      by-proposal : (o : Option PendingProposal) → planner.proposal ≡ o
          → option_and_then (λ (p : Pending). option_and_then (if_unanswered answers) (prepare_of p.state p.number)) (option_map pending_of o) ≡ option_and_then pending_prepare o
      by-proposal None is = refl
      by-proposal (Some p) is = by-state p p.state (rw is at s.keeps.proposal_kept)

  pub propose-unanswered : unanswered at Propose ≡ option_and_then pending_propose planner.proposal
  unfolding unanswered
  propose-unanswered = rw pending-is (by-proposal planner.proposal refl)
    where
      by-state : (p : PendingProposal) (state : ProposalState) → p.arrival ≡ arrival_of answers p.number
          → option_and_then (if_unanswered answers) (propose_of state p.number) ≡ option_and_then (λ number. if_waiting number p.arrival) (propose_of state p.number)
      by-state p Preparing kept = refl
      by-state p Proposing kept = waits-kept answers p.number p.arrival kept
      by-state p Waiting kept = refl
      by-state p (Held payload) kept = refl
      by-state p Closed kept = refl

      by-proposal : (o : Option PendingProposal) → planner.proposal ≡ o
          → option_and_then (λ (p : Pending). option_and_then (if_unanswered answers) (propose_of p.state p.number)) (option_map pending_of o) ≡ option_and_then pending_propose o
      by-proposal None is = refl
      by-proposal (Some p) is = by-state p p.state (rw is at s.keeps.proposal_kept)

  pub verify-unanswered : unanswered at Verify ≡ option_and_then (λ (r : OpenRequest). if_waiting r.number r.arrival) planner.verify
  unfolding unanswered
  verify-unanswered = rw verify-is (by-verify planner.verify refl)
    where
      by-verify : (o : Option OpenRequest) → planner.verify ≡ o
          → option_and_then (λ (v : Opened). if_unanswered answers v.number) (option_map opened_of o) ≡ option_and_then (λ (r : OpenRequest). if_waiting r.number r.arrival) o
      by-verify None is = refl
      by-verify (Some r) is = waits-kept answers r.number r.arrival (rw is at s.keeps.verify_kept)

  pub certify-unanswered : unanswered at Certify ≡ first_waiting planner.certify.items
  unfolding unanswered
  certify-unanswered = rw certify-is (first-kept answers planner.certify.items s.keeps.certify_kept)
