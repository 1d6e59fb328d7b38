-- Which histories an engine stands for.
use Rattle.std.specs.Prelude.{◌≡◌, ◌≢◌, ℕ, ◌⊎◌, Bool, true, false, List, [], ◌∷◌, length, Option, Some, None, Result, Ok, Err, if◌then◌else◌}
use Rattle.std.specs.Option.{option_map, option_map_or}
use Rattle.simplex_wire.specs.declared.scheme.Scheme as scheme
use Rattle.simplex_types.specs.declared.elector.Elector as elector
use Rattle.simplex_journal.specs.declared.journal.Journal as journal
use Rattle.simplex_journal.specs.Order.{no_order}
use Rattle.simplex_journal.specs.Journal.{Section}
use Rattle.simplex_mailbox.specs.Mail.{no_mail}
use Rattle.simplex_messages.specs.declared.step.Outcome.{Outcome}
use Rattle.simplex_messages.specs.declared.step.Outcome.TheVariants as outcomes
use Rattle.simplex_messages.specs.declared.step.Stop.{Stop}
use Rattle.simplex_messages.specs.declared.step.StepOut.{StepOut}
use Rattle.simplex_messages.specs.declared.voter.VoterInput.{VoterInput}
use Rattle.model_resolver.specs.Asks.{holds_member}
use Rattle.model_steps.specs.VoterLife.{VoterMade, Given, Stepped, place_of, step_given}
use Rattle.model_steps.specs.Engine.{EngineMade, Did, begun, runs}
use Rattle.simplex_voter.specs.Actor as voter
pub use Rattle.simplex_voter.specs.Actor.{VoterStands}
use Rattle.simplex_voter.specs.Turned.{Becomes, BecomesFirst, FaultsAt, step_left, start_left}
use Rattle.simplex_batcher.specs.Stands as batcher
use Rattle.simplex_resolver.specs.Stands as resolver
use Rattle.simplex_engine.specs.declared.boxes.Boxes.{Boxes}
use Rattle.simplex_engine.specs.declared.crew.Crew.{Crew}
use Rattle.simplex_engine.specs.declared.unstarted.Unstarted.{Unstarted}
use Rattle.simplex_engine.specs.declared.stage.Stage.{Stage}
use Rattle.simplex_engine.specs.declared.stage.Stage.TheVariants as stages
use Rattle.simplex_engine.specs.declared.engine.Engine.{Engine}
use Rattle.simplex_engine.specs.declared.input.Input.{Input}
use Rattle.simplex_engine.specs.declared.input.Polled.{Polled}
use Rattle.simplex_engine.specs.declared.input.TakenInside.{TakenInside}
use Rattle.simplex_engine.specs.declared.error.PollError.{PollError}
use Rattle.simplex_engine.specs.declared.error.PollError.TheVariants as errors
use Rattle.simplex_engine.specs.Parts.{Parts, parts_of, after_voter, ended}
use Rattle.simplex_engine.specs.Polled.{is_taken, taken_inside, sections_left}

-- ---- the actors at work

-- whether it was started
abbrev pub has_begun : List Did → Bool
has_begun [] = false
has_begun (did ∷ past) = true

-- empty mailboxes
abbrev pub empty_boxes : ℕ → Boxes
empty_boxes capacity = record { batcher = no_mail capacity; voter = no_mail capacity; resolver = no_mail capacity }

-- The stop of a poll stays what it is, but for a step of the voter: there it becomes another by what the journal did.
abbrev pub Turns : Stop → ℕ → Stop → Type 0
Turns stop made turned = (turned ≡ stop) ⊎ Becomes stop made turned

module _ {S L J : Type 0} {s : scheme.Ghosts S} {l : elector.Ghosts L} {j : journal.Ghosts J} where
  -- the voter stands where this history leads. What it was given itself may hold answers more, which were not taken
  pub record Placed (told : Bool) (crew : Crew S L J s l j) (made : VoterMade) (past : List Given) : Type 0 where
    pub given : List Given
    pub stands : VoterStands told crew.voter made given
    pub place : place_of made given ≡ place_of made past

  -- the actors and the mailboxes are these parts
  pub record Holds (told : Bool) (crew : Crew S L J s l j) (parts : Parts) : Type 0 where
    pub voter : Placed told crew parts.voter parts.given
    pub batcher : batcher.StandsFor crew.batcher parts.batcher parts.timed
    pub resolver : resolver.StandsFor crew.resolver parts.resolver parts.asked
    pub to_batcher : crew.boxes.batcher ≡ parts.to_batcher
    pub to_voter : crew.boxes.voter ≡ parts.to_voter
    pub to_resolver : crew.boxes.resolver ≡ parts.to_resolver
    pub blocked : (member : ℕ) → holds_member crew.blocked.keys member ≡ holds_member parts.blocked member

  -- the actors were just made, the voter at this clock
  pub record Fresh (told : Bool) (crew : Crew S L J s l j) (made : EngineMade) (start : ℕ) : Type 0 where
    pub voter : VoterStands told crew.voter (made.voter start) []
    pub batcher : batcher.StandsFor crew.batcher made.batcher []
    pub resolver : resolver.StandsFor crew.resolver made.resolver []
    pub boxes : crew.boxes ≡ empty_boxes made.capacity
    pub blocked : crew.blocked.keys ≡ []

  unfoldable pub CrewStands : Bool → Crew S L J s l j → EngineMade → List Did → Type 0
  CrewStands told crew made past = Holds told crew (parts_of made past)

  -- whatever parts the old crew holds, the new one holds what becomes of them
  abbrev pub WorksAs : Bool → Crew S L J s l j → Crew S L J s l j → (Parts → Parts) → Type 0
  WorksAs told old new change = (parts : Parts) → Holds told old parts → Holds told new (change parts)

  -- whatever parts it holds, a step ended, and gave, what the rule says
  abbrev pub EndsAs : Bool → Crew S L J s l j → (Parts → Outcome × StepOut) → Outcome → StepOut → Type 0
  EndsAs told crew rule outcome out = (parts : Parts) → Holds told crew parts → (outcome ≡ (rule parts).0) × (out ≡ (rule parts).1)

  -- whatever parts it holds, the answer is the rule's
  abbrev pub TellsAs : {R : Type 0} → Bool → Crew S L J s l j → (Parts → R) → R → Type 0
  TellsAs told crew rule answer = (parts : Parts) → Holds told crew parts → answer ≡ rule parts

  -- whatever history the old crew stands for, the new one stands for it with what the rule says behind
  abbrev pub CrewTakesAs : Bool → Crew S L J s l j → Crew S L J s l j → (EngineMade → List Did → Did) → Type 0
  CrewTakesAs told old new rule =
      (made : EngineMade) (past : List Did) → CrewStands told old made past → CrewStands told new made (rule made past ∷ past)

  abbrev pub CrewStaysAs : Bool → Crew S L J s l j → Crew S L J s l j → Type 0
  CrewStaysAs told old new = (made : EngineMade) (past : List Did) → CrewStands told old made past → CrewStands told new made past

  abbrev pub CrewGivesAs : Bool → Crew S L J s l j → (EngineMade → List Did → Did) → Outcome → StepOut → Type 0
  CrewGivesAs told crew rule outcome out =
      (made : EngineMade) (past : List Did) → CrewStands told crew made past → (outcome ≡ (rule made past).outcome) × (out ≡ (rule made past).out)

  abbrev pub CrewAnswersAs : {R : Type 0} → Bool → Crew S L J s l j → (EngineMade → List Did → R) → R → Type 0
  CrewAnswersAs told crew rule answer = (made : EngineMade) (past : List Did) → CrewStands told crew made past → answer ≡ rule made past

  -- the same over a journal that tells that no call of it will fail
  abbrev pub Works : Crew S L J s l j → Crew S L J s l j → (Parts → Parts) → Type 0
  Works old new change = WorksAs true old new change

  abbrev pub Ends : Crew S L J s l j → (Parts → Outcome × StepOut) → Outcome → StepOut → Type 0
  Ends crew rule outcome out = EndsAs true crew rule outcome out

  abbrev pub Tells : {R : Type 0} → Crew S L J s l j → (Parts → R) → R → Type 0
  Tells crew rule answer = TellsAs true crew rule answer

  abbrev pub CrewTakes : Crew S L J s l j → Crew S L J s l j → (EngineMade → List Did → Did) → Type 0
  CrewTakes old new rule = CrewTakesAs true old new rule

  abbrev pub CrewGives : Crew S L J s l j → (EngineMade → List Did → Did) → Outcome → StepOut → Type 0
  CrewGives crew rule outcome out = CrewGivesAs true crew rule outcome out

  abbrev pub CrewAnswers : {R : Type 0} → Crew S L J s l j → (EngineMade → List Did → R) → R → Type 0
  CrewAnswers crew rule answer = CrewAnswersAs true crew rule answer

  -- why an input is refused: an answer that is not taken, which changes nothing, or want of memory
  abbrev pub CrewRefuses : Crew S L J s l j → Crew S L J s l j → Input → PollError → Type 0
  CrewRefuses old new input errors.NotPending =
      ((told : Bool) → CrewAnswersAs told old (λ made past. is_taken made past input) false) × ((told : Bool) → CrewStaysAs told old new)
      × (voter.journal_of new.voter ≡ voter.journal_of old.voter)
  CrewRefuses old new input errors.Memory = Unit {0}
  CrewRefuses old new input errors.Failed = ⊥
  CrewRefuses old new input errors.Stopped = ⊥

  -- ---- the actors over any journal

  -- how many calls of the voter's journal failed
  abbrev pub faults_in : Crew S L J s l j → ℕ
  faults_in crew = j.fault_count (voter.journal_of crew.voter)

  -- A step of the voter. There is a stop that the given one became by what the journal did, and the step ends as the rule
  -- says with that stop. Where no call of the journal ended it, the parts are what becomes of them so.
  pub record VoterFares (old new : Crew S L J s l j) (stop : Stop) (input : VoterInput) (now : ℕ) (outcome : Outcome) (out : StepOut) : Type 0 where
    pub turned : Stop
    pub becomes : Becomes stop (length out.calls) turned
    pub ends : EndsAs false old (λ parts. ended (step_given parts.voter parts.given input now turned)) outcome out
    pub leaves : TellsAs false old (λ parts. step_left parts.voter parts.given input now stop turned) (j.sections (voter.journal_of new.voter))
    pub works : outcome ≢ outcomes.Journal → WorksAs false old new (after_voter (Stepped input now turned) out)

  -- the same of a poll
  pub record CrewFares (old new : Crew S L J s l j) (stop : Stop) (rule : Stop → EngineMade → List Did → Did) (outcome : Outcome) (taken : Option TakenInside) (out : StepOut) : Type 0 where
    pub turned : Stop
    pub becomes : Turns stop (length out.calls) turned
    pub gives : CrewGivesAs false old (rule turned) outcome out
    pub takes_inside : CrewAnswersAs false old (λ made past. taken_inside made past (rule turned made past)) taken
    pub leaves : CrewAnswersAs false old (λ made past. sections_left made past stop (rule turned made past)) (j.sections (voter.journal_of new.voter))
    pub takes : outcome ≢ outcomes.Journal → CrewTakesAs false old new (rule turned)

  -- What a step or a poll does by a rule. Over a journal that tells that no call of it will fail the actors end, give and take from
  -- inside what the rule says with the stop, and stand for it; over any journal they fare by it. The journal's count of faults rose
  -- where a call of it that failed ended the step, and there alone.
  pub record CrewDoes (old new : Crew S L J s l j) (stop : Stop) (rule : Stop → EngineMade → List Did → Did) (given : Polled) (out : StepOut) : Type 0 where
    pub stands : CrewTakes old new (rule stop)
    pub gives : CrewGives old (rule stop) given.outcome out
    pub taken : CrewAnswers old (λ made past. taken_inside made past (rule stop made past)) given.taken
    pub over : CrewFares old new stop rule given.outcome given.taken out
    pub faults : FaultsAt given.outcome (faults_in old) (faults_in new)

  -- the same of a start
  pub record CrewStarts (old new : Crew S L J s l j) (now : ℕ) (stop : Stop) (outcome : Outcome) (out : StepOut) : Type 0 where
    pub turned : Stop
    pub becomes : BecomesFirst stop (length out.calls) turned
    pub gives : (made : EngineMade) → Fresh false old made now → (outcome ≡ (begun made now turned).outcome) × (out ≡ (begun made now turned).out)
    pub leaves : (made : EngineMade) → Fresh false old made now → j.sections (voter.journal_of new.voter) ≡ start_left (made.voter now) [] now stop turned
    pub takes : outcome ≢ outcomes.Journal → (made : EngineMade) → Fresh false old made now → CrewStands false new made (begun made now turned ∷ [])

  -- ---- the engine

  -- the journal tells that no call of it will fail, where that is asked
  abbrev pub IsTold : Bool → Unstarted S L J s l j → Type 0
  IsTold true unstarted = j.order unstarted.journal ≡ Some no_order
  IsTold false unstarted = Unit {0}

  -- an engine before its start
  pub record Waits (told : Bool) (unstarted : Unstarted S L J s l j) (made : EngineMade) : Type 0 where
    pub order : IsTold told unstarted
    pub voter : (start : ℕ) → made.voter start ≡ voter.voter_made s.attests s.member l.elects l.cuts unstarted.config start (j.sections unstarted.journal)
    pub batcher : batcher.StandsFor unstarted.batcher made.batcher []
    pub resolver : resolver.StandsFor unstarted.resolver made.resolver []
    pub boxes : unstarted.boxes ≡ empty_boxes made.capacity

  abbrev pub StageStands : Bool → Stage S L J s l j → EngineMade → List Did → Type 0
  StageStands told (stages.Waiting unstarted) made past = (past ≡ []) × Waits told unstarted made
  StageStands told (stages.Running crew) made past = (runs past ≡ true) × CrewStands told crew made past
  StageStands told (stages.Stopped crew) made past = (runs past ≡ false) × (has_begun past ≡ true) × CrewStands told crew made past
  StageStands told stages.Failed made past = ⊥

  -- the stage after a step that ended so, and after a poll
  abbrev pub settled : Crew S L J s l j → Outcome → Stage S L J s l j
  settled crew outcomes.Done = stages.Running crew
  settled crew outcomes.Idle = stages.Running crew
  settled crew outcomes.Refused = stages.Running crew
  settled crew outcomes.Journal = stages.Stopped crew
  settled crew outcomes.Cut = stages.Stopped crew

  abbrev pub settled_with : Crew S L J s l j → Result Polled PollError → Stage S L J s l j
  settled_with crew (Ok polled) = settled crew polled.outcome
  settled_with crew (Err errors.Memory) = stages.Failed
  settled_with crew (Err errors.Failed) = stages.Running crew
  settled_with crew (Err errors.Stopped) = stages.Running crew
  settled_with crew (Err errors.NotPending) = stages.Running crew

  -- what the engine is made with, and its history: the newest first. Its journal tells that no call of it will fail
  unfoldable pub StandsFor : Engine S L J s l j → EngineMade → List Did → Type 0
  StandsFor engine made past = StageStands true engine.stage made past

  -- whether there was no memory for a call. Then it stands for nothing
  abbrev pub is_failed : Stage S L J s l j → Bool
  is_failed stages.Failed = true
  is_failed _ = false

  abbrev pub has_failed : Engine S L J s l j → Bool
  has_failed engine = is_failed engine.stage

  -- whatever history the old engine stands for, the new one stands for it with what the rule says behind
  abbrev pub Takes : Engine S L J s l j → Engine S L J s l j → (EngineMade → List Did → Did) → Type 0
  Takes old new rule = (made : EngineMade) (past : List Did) → StandsFor old made past → StandsFor new made (rule made past ∷ past)

  -- whatever history the old engine stands for, the new one stands for it
  abbrev pub Stays : Engine S L J s l j → Engine S L J s l j → Type 0
  Stays old new = (made : EngineMade) (past : List Did) → StandsFor old made past → StandsFor new made past

  -- whatever history the engine stands for, it ended, took from inside, and gave, what the rule says
  abbrev pub Gives : Engine S L J s l j → (EngineMade → List Did → Did) → Outcome → Option TakenInside → StepOut → Type 0
  Gives engine rule outcome taken out =
      (made : EngineMade) (past : List Did) → StandsFor engine made past
      → (outcome ≡ (rule made past).outcome) × (taken ≡ taken_inside made past (rule made past)) × (out ≡ (rule made past).out)

  -- the same of a start, whose history is empty
  abbrev pub Starts : Engine S L J s l j → Engine S L J s l j → (EngineMade → Did) → Type 0
  Starts old new rule = (made : EngineMade) → StandsFor old made [] → StandsFor new made (rule made ∷ [])

  abbrev pub GivesFirst : Engine S L J s l j → (EngineMade → Did) → Outcome → StepOut → Type 0
  GivesFirst engine rule outcome out = (made : EngineMade) → StandsFor engine made [] → (outcome ≡ (rule made).outcome) × (out ≡ (rule made).out)

  -- what comes of a refusal: one after an earlier want of memory changes nothing, want of memory leaves a failed engine,
  -- and no other refusal comes of a failed engine or leaves one
  abbrev pub FailsAfter : Engine S L J s l j → Engine S L J s l j → PollError → Type 0
  FailsAfter old new errors.Failed = (has_failed old ≡ true) × (new ≡ old)
  FailsAfter old new errors.Memory = (has_failed old ≡ false) × (has_failed new ≡ true)
  FailsAfter old new errors.Stopped = (has_failed old ≡ false) × (has_failed new ≡ false)
  FailsAfter old new errors.NotPending = (has_failed old ≡ false) × (has_failed new ≡ false)

  -- ---- the engine over any journal, also one that does not tell which of its calls fail

  -- Its journal, if it has one: after want of memory there is none.
  abbrev pub journal_at : Stage S L J s l j → Option J
  journal_at (stages.Waiting unstarted) = Some unstarted.journal
  journal_at (stages.Running crew) = Some (voter.journal_of crew.voter)
  journal_at (stages.Stopped crew) = Some (voter.journal_of crew.voter)
  journal_at stages.Failed = None

  abbrev pub journal_of : Engine S L J s l j → Option J
  journal_of engine = journal_at engine.stage

  -- what its journal holds
  abbrev pub held_by : Engine S L J s l j → Option (List Section)
  held_by engine = option_map j.sections (journal_of engine)

  -- how many calls of its journal failed
  abbrev pub faults_of : Engine S L J s l j → ℕ
  faults_of engine = option_map_or j.fault_count (journal_of engine) 0

  -- the clock of the last call that was not refused
  abbrev pub clock_of : Engine S L J s l j → ℕ
  clock_of engine = engine.clock.ms

  -- whether it takes inputs, and why it does not
  abbrev pub is_at_work : Stage S L J s l j → Bool
  is_at_work (stages.Running crew) = true
  is_at_work _ = false

  abbrev pub is_running : Engine S L J s l j → Bool
  is_running engine = is_at_work engine.stage

  abbrev pub not_running : Engine S L J s l j → PollError
  not_running engine = if has_failed engine then errors.Failed else errors.Stopped

  -- whether a step was broken off
  abbrev pub is_stopped : Stage S L J s l j → Bool
  is_stopped (stages.Stopped crew) = true
  is_stopped _ = false

  abbrev pub has_stopped : Engine S L J s l j → Bool
  has_stopped engine = is_stopped engine.stage

  -- What the engine is made with, and its history: the newest first. A stop of the history is what a given one became. An
  -- engine that a failing call of the journal stopped may stand for nothing
  unfoldable pub StandsOver : Engine S L J s l j → EngineMade → List Did → Type 0
  StandsOver engine made past = StageStands false engine.stage made past

  abbrev pub StaysOver : Engine S L J s l j → Engine S L J s l j → Type 0
  StaysOver old new = (made : EngineMade) (past : List Did) → StandsOver old made past → StandsOver new made past

  -- whatever history the engine stands for over any journal, the answer is the rule's
  abbrev pub Answers : {R : Type 0} → Engine S L J s l j → (EngineMade → List Did → R) → R → Type 0
  Answers engine rule answer = (made : EngineMade) (past : List Did) → StandsOver engine made past → answer ≡ rule made past

  -- What a poll does. There is a stop that the given one became by what the journal did: the poll ended, took from inside,
  -- and gave, what the rule says with that stop, and left of the journal what is left so. Where no call of the journal
  -- ended it, the engine stands for it.
  pub record Fares (old new : Engine S L J s l j) (stop : Stop) (rule : Stop → EngineMade → List Did → Did) (outcome : Outcome) (taken : Option TakenInside) (out : StepOut) : Type 0 where
    pub turned : Stop
    pub becomes : Turns stop (length out.calls) turned
    pub gives : (made : EngineMade) (past : List Did) → StandsOver old made past
        → (outcome ≡ (rule turned made past).outcome) × (taken ≡ taken_inside made past (rule turned made past)) × (out ≡ (rule turned made past).out)
    pub leaves : (made : EngineMade) (past : List Did) → StandsOver old made past → held_by new ≡ Some (sections_left made past stop (rule turned made past))
    pub stands : outcome ≢ outcomes.Journal
        → (made : EngineMade) (past : List Did) → StandsOver old made past → StandsOver new made (rule turned made past ∷ past)

  -- the same of a start, whose history is empty
  pub record FaresFirst (old new : Engine S L J s l j) (now : ℕ) (stop : Stop) (outcome : Outcome) (out : StepOut) : Type 0 where
    pub turned : Stop
    pub becomes : BecomesFirst stop (length out.calls) turned
    pub gives : (made : EngineMade) → StandsOver old made [] → (outcome ≡ (begun made now turned).outcome) × (out ≡ (begun made now turned).out)
    pub leaves : (made : EngineMade) → StandsOver old made [] → held_by new ≡ Some (start_left (made.voter now) [] now stop turned)
    pub stands : outcome ≢ outcomes.Journal → (made : EngineMade) → StandsOver old made [] → StandsOver new made (begun made now turned ∷ [])
