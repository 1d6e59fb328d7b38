-- For which history a voter stands.
use Rattle.std.specs.Prelude.{◌≡◌, ◌≢◌, ℕ, Bool, true, false, List, [], ◌∷◌, length, Option, Some, None}
use Rattle.std.specs.Option.{option_map, option_and_then}
use Rattle.simplex_values.specs.declared.proposal.Subject.{Subject}
use Rattle.simplex_values.specs.declared.answer.Answer.{Answer}
use Rattle.simplex_values.specs.declared.round.Round.{Round}
use Rattle.simplex_values.specs.declared.terms.Terms.{Terms}
use Rattle.simplex_wire.specs.declared.attestation.Attestation.{Attestation}
use Rattle.simplex_types.specs.declared.floor.Floor.{Floor}
use Rattle.simplex_types.specs.declared.floor.Floor.TheVariants as floors
use Rattle.simplex_types.specs.declared.activity.Activity.TheVariants as activities
use Rattle.simplex_wire.specs.declared.scheme.Scheme as schemes
use Rattle.simplex_types.specs.declared.elector.Elector as electors
use Rattle.simplex_journal.specs.declared.journal.Journal as journals
use Rattle.model_rules.specs.Pending.{Pending, Opened}
use Rattle.simplex_journal.specs.Journal.{Section}
use Rattle.simplex_journal.specs.Order.{no_order}
use Rattle.simplex_state.specs.Stands.{made_of}
use Rattle.simplex_state.specs.declared.config.StateConfig.{StateConfig}
use Rattle.simplex_messages.specs.declared.call.Call.{Call}
use Rattle.simplex_messages.specs.declared.call.Call.TheVariants as calls
use Rattle.simplex_messages.specs.declared.step.Stop.{Stop}
use Rattle.simplex_messages.specs.declared.step.Outcome.{Outcome}
use Rattle.simplex_messages.specs.declared.step.Outcome.TheVariants as outcomes
use Rattle.simplex_messages.specs.declared.step.StepOut.{StepOut}
use Rattle.simplex_messages.specs.declared.voter.VoterInput.{VoterInput}
use Rattle.simplex_messages.specs.declared.voter.VoterInput.TheVariants as inputs
use Rattle.model_steps.specs.Desk.{begun}
use Rattle.model_steps.specs.Performed.{Performed}
use Rattle.model_steps.specs.Voter.{Standing, answer_to, first_answered}
use Rattle.model_steps.specs.VoterLife.{VoterMade, Given, Started, Stepped, Place, place_of, start_given, step_given}
use Rattle.simplex_voter.specs.Arrivals.{with_number}
use Rattle.simplex_voter.specs.Stands.{Stands}
use Rattle.simplex_voter.specs.Turned.{Becomes, BecomesFirst, FaultsAt, step_left, start_left}
use Rattle.simplex_voter.specs.declared.config.Config.{Config}
use Rattle.simplex_voter.specs.declared.actor.Actor.{Actor}

-- the answer that a step with this source would take, and its request
unfoldable pub next_answer : Standing → VoterInput → Option (ℕ × Answer)
next_answer s inputs.Propose = option_and_then (λ (p : Pending). option_map (with_number p.number) (answer_to s.answers p.number)) s.desk.proposal
next_answer s inputs.Verify = option_and_then (λ (v : Opened). option_map (with_number v.number) (answer_to s.answers v.number)) s.desk.verify
next_answer s inputs.Certify = option_map (λ (taken : Opened × Answer). with_number taken.0.number taken.1) (first_answered s.desk.certify s.answers)
next_answer s _ = None

-- the calls of a start before it reads the journal
abbrev pub floor_calls : Floor → List Call
floor_calls (floors.Genesis payload) = []
floor_calls (floors.Finalized f) = calls.Report (activities.Finalization f) ∷ []

module _ {S L : Type 0} where
  -- what the voter's state is made with
  abbrev pub state_config : Config S L → StateConfig S L
  state_config config =
      record {
        scheme = config.scheme;
        elector = config.elector;
        epoch = config.epoch;
        view_retention = config.view_retention;
        leader_timeout = config.leader_timeout;
        certification_timeout = config.certification_timeout;
        timeout_retry = config.timeout_retry;
        skip_budget = config.skip_budget;
        handoff = config.handoff;
        genesis = config.genesis;
      }

  -- what a configuration says of the voter, by what its scheme signs, whose it is, whom its elector elects, how it cuts
  -- terms, and what the journal holds
  unfoldable pub voter_made : (S → Subject → Option Attestation) → (S → Option ℕ) → (L → Round → ℕ) → (L → Terms) → Config S L → ℕ → List Section → VoterMade
  voter_made attests member elects cuts config start sections =
      record { rules = made_of attests member elects cuts (state_config config) start; floor = config.floor; sections = sections }

module _ {S L J : Type 0} {s : schemes.Ghosts S} {l : electors.Ghosts L} {j : journals.Ghosts J} where
  -- the voter is where the history says: it stands on its floor, works on what is known and open, and its journal holds
  -- what is kept
  pub record Stays (actor : Actor S L J s l j) (made : VoterMade) (place : Place) : Type 0 where
    pub floor : actor.floor ≡ made.floor
    pub planner : Stands actor.planner made.rules place.standing.answers (begun place.standing.desk)
    pub sections_are : j.sections actor.journal ≡ place.sections
    pub order_is : j.order actor.journal ≡ Some no_order

  -- the voter stands for what it was given, the newest first
  unfoldable pub StandsFor : Actor S L J s l j → VoterMade → List Given → Type 0
  StandsFor actor made past = Stays actor made (place_of made past)

  -- whatever history the old voter stands for, the new one stands for it with this behind
  abbrev pub Takes : Actor S L J s l j → Actor S L J s l j → Given → Type 0
  Takes old new given =
      (made : VoterMade) (past : List Given) → StandsFor old made past → StandsFor new made (given ∷ past)

  -- whatever history the voter stands for, the step gives what the rule says
  abbrev pub Gives : Actor S L J s l j → (VoterMade → List Given → Performed) → Outcome → StepOut → Type 0
  Gives actor rule outcome out =
      (made : VoterMade) (past : List Given) → StandsFor actor made past
      → (outcome ≡ (rule made past).outcome) × (out ≡ (rule made past).out)

  -- the same of a start, which comes first
  abbrev pub Starts : Actor S L J s l j → Actor S L J s l j → Given → Type 0
  Starts old new given =
      (made : VoterMade) → StandsFor old made [] → StandsFor new made (given ∷ [])

  abbrev pub GivesFirst : Actor S L J s l j → (VoterMade → List Given → Performed) → Outcome → StepOut → Type 0
  GivesFirst actor rule outcome out =
      (made : VoterMade) → StandsFor actor made []
      → (outcome ≡ (rule made []).outcome) × (out ≡ (rule made []).out)

  -- ---- over any journal, also one that does not tell which of its calls fail

  abbrev pub journal_of : Actor S L J s l j → J
  journal_of actor = actor.journal

  -- the voter is where the history says, whatever its journal tells
  pub record StaysOver (actor : Actor S L J s l j) (made : VoterMade) (place : Place) : Type 0 where
    pub floor : actor.floor ≡ made.floor
    pub planner : Stands actor.planner made.rules place.standing.answers (begun place.standing.desk)
    pub sections_are : j.sections actor.journal ≡ place.sections

  -- the voter stands for what it was given, the newest first. A stop of the history is what a given one became
  unfoldable pub StandsOver : Actor S L J s l j → VoterMade → List Given → Type 0
  StandsOver actor made past = StaysOver actor made (place_of made past)

  abbrev pub TakesOver : Actor S L J s l j → Actor S L J s l j → Given → Type 0
  TakesOver old new given =
      (made : VoterMade) (past : List Given) → StandsOver old made past → StandsOver new made (given ∷ past)

  -- whatever history the voter stands for over any journal, the answer is the rule's at it
  abbrev pub Answers : {R : Type 0} → Actor S L J s l j → (VoterMade → List Given → R) → R → Type 0
  Answers actor rule answer =
      (made : VoterMade) (past : List Given) → StandsOver actor made past → answer ≡ rule made past

  -- What a step does over any journal. There is a stop that the given one became by what the journal did: the step gives
  -- what the rule says with that stop, and leaves of the journal what is left so. Where no call of the journal ended the
  -- step, the voter stands for it.
  pub record Fares (old new : Actor S L J s l j) (stop : Stop) (outcome : Outcome) (out : StepOut) (given : Stop → Given) (rule : Stop → VoterMade → List Given → Performed) (left : Stop → VoterMade → List Given → List Section) : Type 0 where
    pub turned : Stop
    pub becomes : Becomes stop (length out.calls) turned
    pub gives : (made : VoterMade) (past : List Given) → StandsOver old made past
        → (outcome ≡ (rule turned made past).outcome) × (out ≡ (rule turned made past).out)
    pub leaves : (made : VoterMade) (past : List Given) → StandsOver old made past → j.sections new.journal ≡ left turned made past
    pub stands : outcome ≢ outcomes.Journal → TakesOver old new (given turned)

  -- the same of a start, which comes first
  pub record FaresFirst (old new : Actor S L J s l j) (stop : Stop) (outcome : Outcome) (out : StepOut) (given : Stop → Given) (rule : Stop → VoterMade → List Given → Performed) (left : Stop → VoterMade → List Given → List Section) : Type 0 where
    pub turned : Stop
    pub becomes : BecomesFirst stop (length out.calls) turned
    pub gives : (made : VoterMade) → StandsOver old made []
        → (outcome ≡ (rule turned made []).outcome) × (out ≡ (rule turned made []).out)
    pub leaves : (made : VoterMade) → StandsOver old made [] → j.sections new.journal ≡ left turned made []
    pub stands : outcome ≢ outcomes.Journal
        → (made : VoterMade) → StandsOver old made [] → StandsOver new made (given turned ∷ [])

module _ {S L J : Type 0} {s : schemes.Ghosts S} {l : electors.Ghosts L} {j : journals.Ghosts J} where
  -- What a step does. Over a journal that tells that no call of it will fail the voter gives what the rule says, and stands for it;
  -- over any journal it fares by the rule. The journal's count of faults rose where a call of it that failed ended the step.
  pub record DoesStep (old new : Actor S L J s l j) (input : VoterInput) (now : ℕ) (stop : Stop) (outcome : Outcome) (out : StepOut) : Type 0 where
    pub stands : Takes old new (Stepped input now stop)
    pub gives : Gives old (λ made past. step_given made past input now stop) outcome out
    pub over : Fares old new stop outcome out (λ turned. Stepped input now turned) (λ turned made past. step_given made past input now turned)
        (λ turned made past. step_left made past input now stop turned)
    pub faults : FaultsAt outcome (j.fault_count (journal_of old)) (j.fault_count (journal_of new))

  -- the same of a start, which comes first
  pub record DoesStart (old new : Actor S L J s l j) (now : ℕ) (stop : Stop) (outcome : Outcome) (out : StepOut) : Type 0 where
    pub stands : Starts old new (Started now stop)
    pub gives : GivesFirst old (λ made past. start_given made past now stop) outcome out
    pub over : FaresFirst old new stop outcome out (λ turned. Started now turned) (λ turned made past. start_given made past now turned)
        (λ turned made past. start_left made past now stop turned)
    pub faults : FaultsAt outcome (j.fault_count (journal_of old)) (j.fault_count (journal_of new))

-- What is known of the voter. Over a journal that tells that no call of it will fail it is what each step gives; over any
-- journal a step gives the same, but for a call that fails by itself.
abbrev pub VoterStands : {S L J : Type 0} {s : schemes.Ghosts S} {l : electors.Ghosts L} {j : journals.Ghosts J} → Bool → Actor S L J s l j → VoterMade → List Given → Type 0
VoterStands true actor made past = StandsFor actor made past
VoterStands false actor made past = StandsOver actor made past
