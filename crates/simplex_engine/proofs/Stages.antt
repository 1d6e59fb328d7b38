-- How far an engine is, by how its steps ended.
use Rattle.std.proofs.Common.{◌≡◌, refl, sym, ap, ℕ, Bool, true, false, List, [], ◌∷◌, Some, None, Result, Ok, Err}
use Rattle.std.proofs.lemmas.Bool.{false≢true}
use Rattle.std.specs.Prelude.{OnOk, IfOk, IfErr, not}
use Rattle.simplex_wire.specs.declared.scheme.Scheme as scheme
use Rattle.simplex_types.specs.declared.elector.Elector as elector
use Rattle.simplex_journal.specs.declared.journal.Journal as journal
use Rattle.simplex_journal.specs.Journal.{Section}
use Rattle.simplex_messages.specs.declared.step.Outcome.{Outcome}
use Rattle.simplex_messages.specs.declared.step.Outcome.TheVariants as outcomes
use Rattle.simplex_messages.specs.declared.step.Stop.{Stop}
use Rattle.model_steps.specs.Engine.{EngineMade, Did, begun, runs, is_whole, is_blocked, blocked_in, sections_of, voter_in, voter_past, started_at}
use Rattle.model_rules.specs.Views.{current_of}
use Rattle.simplex_transcript.specs.declared.event.StepSource.{StepSource}
use Rattle.model_steps.specs.VoterLife.{VoterMade, place_of}
use Rattle.simplex_voter.specs.Actor.{voter_made}
use Rattle.simplex_voter.specs.Actor as voter
use Rattle.simplex_voter.specs.Turned.{FaultsAt}
use Rattle.simplex_engine.specs.declared.unstarted.Unstarted.{Unstarted}
use Rattle.simplex_messages.specs.declared.step.StepOut.{StepOut}
use Rattle.simplex_engine.specs.declared.crew.Crew.{Crew}
use Rattle.simplex_engine.specs.declared.engine.Engine.{Engine}
use Rattle.simplex_engine.specs.declared.stage.Stage.{Stage}
use Rattle.simplex_engine.specs.declared.stage.Stage.TheVariants as stages
use Rattle.simplex_engine.specs.declared.input.Input.{Input}
use Rattle.simplex_engine.specs.declared.input.Polled.{Polled}
use Rattle.simplex_engine.specs.declared.error.PollError.{PollError}
use Rattle.simplex_engine.specs.declared.error.PollError.TheVariants as errors
use Rattle.model_resolver.specs.Asks.{holds_member}
use Rattle.model_resolver.specs.Views.{least_of}
use Rattle.model_resolver.specs.Resolver.{deadline_after}
use Rattle.simplex_voter.specs.Stands.{due_at}
use Rattle.simplex_engine.specs.Holding.{holds, next_deadline}
use Rattle.simplex_engine.specs.Parts.{parts_of}
use Rattle.simplex_engine.specs.Polled.{is_taken, refusal_of, is_memory, taken_inside}
use Rattle.simplex_engine.specs.Stands.{CrewStands, TellsAs, CrewTakes, CrewGives, CrewAnswers, CrewAnswersAs, CrewRefuses, CrewFares, CrewDoes, CrewStarts, Fresh, StageStands, StandsFor, Takes, Gives, Starts, GivesFirst, FailsAfter, has_begun, has_failed, is_failed, Waits, settled, settled_with, StandsOver, Fares, FaresFirst, journal_of, faults_in, faults_of, is_stopped, has_stopped}

module _ {S L J : Type 0} {s : scheme.Ghosts S} {l : elector.Ghosts L} {j : journal.Ghosts J} where
  pub stage-settled : (told : Bool) (crew : Crew S L J s l j) (made : EngineMade) (past : List Did) (did : Did) (outcome : Outcome) → outcome ≡ did.outcome
      → CrewStands told crew made (did ∷ past) → StageStands told (settled crew outcome) made (did ∷ past)
  unfolding runs
  stage-settled told crew made past did outcomes.Done e h = (rw (← e) refl, h)
  stage-settled told crew made past did outcomes.Idle e h = (rw (← e) refl, h)
  stage-settled told crew made past did outcomes.Refused e h = (rw (← e) refl, h)
  stage-settled told crew made past did outcomes.Journal e h = (rw (← e) refl, refl, h)
  stage-settled told crew made past did outcomes.Cut e h = (rw (← e) refl, refl, h)

  -- before its start its journal is what its voter will read
  pub waits-sections : (told : Bool) (unstarted : Unstarted S L J s l j) (made : EngineMade) → Waits told unstarted made → j.sections unstarted.journal ≡ sections_of made []
  unfolding sections_of place_of voter_past started_at voter_made
  waits-sections told unstarted made waits = sym (ap (λ (voter : VoterMade). voter.sections) (waits.voter 0))

  pub settled-alive : (crew : Crew S L J s l j) (outcome : Outcome) → is_failed (settled crew outcome) ≡ false
  settled-alive crew outcomes.Done = refl
  settled-alive crew outcomes.Idle = refl
  settled-alive crew outcomes.Refused = refl
  settled-alive crew outcomes.Journal = refl
  settled-alive crew outcomes.Cut = refl

  -- ---- what a start of the actors means for the engine

  pub start-stands : (old new : Engine S L J s l j) (unstarted : Unstarted S L J s l j) (after : Crew S L J s l j) (rule : EngineMade → Did) (outcome : Outcome) (out : StepOut)
      → old.stage ≡ stages.Waiting unstarted → new.stage ≡ settled after outcome
      → ((made : EngineMade) → Waits true unstarted made → CrewStands true after made (rule made ∷ []))
      → ((made : EngineMade) → Waits true unstarted made → (outcome ≡ (rule made).outcome) × (out ≡ (rule made).out))
      → Starts old new rule
  unfolding StandsFor
  start-stands old new unstarted after rule outcome out e f stands gives = λ made h.
      let held = rw e at h in
      rw f (stage-settled true after made [] (rule made) outcome (gives made held.1).0 (stands made held.1))

  pub start-gives : (old : Engine S L J s l j) (unstarted : Unstarted S L J s l j) (rule : EngineMade → Did) (outcome : Outcome) (out : StepOut)
      → old.stage ≡ stages.Waiting unstarted
      → ((made : EngineMade) → Waits true unstarted made → (outcome ≡ (rule made).outcome) × (out ≡ (rule made).out))
      → GivesFirst old rule outcome out
  unfolding StandsFor
  start-gives old unstarted rule outcome out e gives = λ made h.
      let held = rw e at h in
      gives made held.1

  -- ---- what a poll of the actors means for the engine

  pub poll-stands : (old new : Engine S L J s l j) (before after : Crew S L J s l j) (result : Result Polled PollError) (rule : EngineMade → List Did → Did) (out : StepOut)
      → old.stage ≡ stages.Running before → new.stage ≡ settled_with after result
      → OnOk result (CrewTakes before after rule) → IfOk result (λ given. CrewGives before rule given.outcome out)
      → IfOk result (λ _. Takes old new rule)
  unfolding StandsFor
  poll-stands old new before after (Ok given) rule out e f takes gives = λ made past h.
      let held = rw e at h in
      rw f (stage-settled true after made past (rule made past) given.outcome (gives made past held.1).0 (takes made past held.1))
  poll-stands old new before after (Err error) rule out e f takes gives = tt

  pub poll-gives : (old : Engine S L J s l j) (before : Crew S L J s l j) (result : Result Polled PollError) (rule : EngineMade → List Did → Did) (out : StepOut)
      → old.stage ≡ stages.Running before
      → IfOk result (λ given. CrewGives before rule given.outcome out)
      → IfOk result (λ given. CrewAnswers before (λ made past. taken_inside made past (rule made past)) given.taken)
      → IfOk result (λ given. Gives old rule given.outcome given.taken out)
  unfolding StandsFor
  poll-gives old before (Ok given) rule out e gives taken = λ made past h.
      let held = rw e at h in
      ((gives made past held.1).0, taken made past held.1, (gives made past held.1).1)
  poll-gives old before (Err error) rule out e gives taken = tt

  -- whatever history the stage stands for, the answer is the rule's
  abbrev pub StageAnswers : {R : Type 0} → Bool → Stage S L J s l j → (EngineMade → List Did → R) → R → Type 0
  StageAnswers told stage rule answer = (made : EngineMade) (past : List Did) → StageStands told stage made past → answer ≡ rule made past

  -- what a poll did, where it did anything, and its parts
  abbrev pub PollDoes : Crew S L J s l j → Crew S L J s l j → Stop → (Stop → EngineMade → List Did → Did) → StepOut → Result Polled PollError → Type 0
  PollDoes old new stop rule out result = IfOk result (λ given. CrewDoes old new stop rule given out)

  pub does-stands : (old new : Crew S L J s l j) (stop : Stop) (rule : Stop → EngineMade → List Did → Did) (out : StepOut) (result : Result Polled PollError)
      → PollDoes old new stop rule out result → OnOk result (CrewTakes old new (rule stop))
  does-stands old new stop rule out (Ok given) does = does.stands
  does-stands old new stop rule out (Err error) does = tt

  pub does-gives : (old new : Crew S L J s l j) (stop : Stop) (rule : Stop → EngineMade → List Did → Did) (out : StepOut) (result : Result Polled PollError)
      → PollDoes old new stop rule out result → IfOk result (λ given. CrewGives old (rule stop) given.outcome out)
  does-gives old new stop rule out (Ok given) does = does.gives
  does-gives old new stop rule out (Err error) does = tt

  pub does-taken : (old new : Crew S L J s l j) (stop : Stop) (rule : Stop → EngineMade → List Did → Did) (out : StepOut) (result : Result Polled PollError)
      → PollDoes old new stop rule out result → IfOk result (λ given. CrewAnswers old (λ made past. taken_inside made past (rule stop made past)) given.taken)
  does-taken old new stop rule out (Ok given) does = does.taken
  does-taken old new stop rule out (Err error) does = tt

  pub does-over : (old new : Crew S L J s l j) (stop : Stop) (rule : Stop → EngineMade → List Did → Did) (out : StepOut) (result : Result Polled PollError)
      → PollDoes old new stop rule out result → IfOk result (λ given. CrewFares old new stop rule given.outcome given.taken out)
  does-over old new stop rule out (Ok given) does = does.over
  does-over old new stop rule out (Err error) does = tt

  pub does-faults : (old new : Crew S L J s l j) (stop : Stop) (rule : Stop → EngineMade → List Did → Did) (out : StepOut) (result : Result Polled PollError)
      → PollDoes old new stop rule out result → IfOk result (λ given. FaultsAt given.outcome (faults_in old) (faults_in new))
  does-faults old new stop rule out (Ok given) does = does.faults
  does-faults old new stop rule out (Err error) does = tt

  pub poll-accepted : (told : Bool) (old : Engine S L J s l j) (before : Crew S L J s l j) (result : Result Polled PollError) (input : Input)
      → old.stage ≡ stages.Running before
      → OnOk result ((told : Bool) → CrewAnswersAs told before (λ made past. is_taken made past input) true)
      → IfOk result (λ _. StageAnswers told old.stage (λ made past. refusal_of made past input) None)
  unfolding refusal_of
  poll-accepted told old before (Ok given) input e accepted = λ made past h.
      let held = rw e at h in
      rw (held.0, ← accepted told made past held.1) refl
  poll-accepted told old before (Err error) input e accepted = tt

  pub poll-refused : (told : Bool) (old : Engine S L J s l j) (before after : Crew S L J s l j) (result : Result Polled PollError) (input : Input)
      → old.stage ≡ stages.Running before
      → IfErr result (CrewRefuses before after input)
      → IfErr result (λ error. is_memory error ≡ false → StageAnswers told old.stage (λ made past. refusal_of made past input) (Some error))
  unfolding refusal_of
  poll-refused told old before after (Ok given) input e refuses = tt
  poll-refused told old before after (Err errors.NotPending) input e refuses = λ _ made past h.
      let held = rw e at h in
      rw (held.0, ← refuses.0 told made past held.1) refl
  poll-refused told old before after (Err errors.Memory) input e refuses = λ m. absurd (false≢true (sym m))
  poll-refused told old before after (Err errors.Failed) input e refuses = absurd refuses
  poll-refused told old before after (Err errors.Stopped) input e refuses = absurd refuses

  pub poll-stays : (told : Bool) (old new : Engine S L J s l j) (before after : Crew S L J s l j) (result : Result Polled PollError) (input : Input)
      → old.stage ≡ stages.Running before → new.stage ≡ settled_with after result
      → IfErr result (CrewRefuses before after input)
      → IfErr result (λ error. is_memory error ≡ false → (made : EngineMade) (past : List Did) → StageStands told old.stage made past → StageStands told new.stage made past)
  poll-stays told old new before after (Ok given) input e f refuses = tt
  poll-stays told old new before after (Err errors.NotPending) input e f refuses = λ _ made past h.
      let held = rw e at h in
      rw f (held.0, refuses.1 told made past held.1)
  poll-stays told old new before after (Err errors.Memory) input e f refuses = λ m. absurd (false≢true (sym m))
  poll-stays told old new before after (Err errors.Failed) input e f refuses = absurd refuses
  poll-stays told old new before after (Err errors.Stopped) input e f refuses = absurd refuses

  pub poll-keeps : (old new : Engine S L J s l j) (before after : Crew S L J s l j) (result : Result Polled PollError) (input : Input)
      → old.stage ≡ stages.Running before → new.stage ≡ settled_with after result
      → IfErr result (CrewRefuses before after input)
      → IfErr result (λ error. is_memory error ≡ false → journal_of new ≡ journal_of old)
  poll-keeps old new before after (Ok given) input e f refuses = tt
  poll-keeps old new before after (Err errors.NotPending) input e f refuses = λ _. rw (e, f, refuses.2) refl
  poll-keeps old new before after (Err errors.Memory) input e f refuses = λ m. absurd (false≢true (sym m))
  poll-keeps old new before after (Err errors.Failed) input e f refuses = absurd refuses
  poll-keeps old new before after (Err errors.Stopped) input e f refuses = absurd refuses

  pub poll-still : (old new : Engine S L J s l j) (before after : Crew S L J s l j) (result : Result Polled PollError) (input : Input)
      → old.stage ≡ stages.Running before → new.stage ≡ settled_with after result
      → IfErr result (CrewRefuses before after input)
      → IfErr result (λ error. is_memory error ≡ false → has_stopped new ≡ has_stopped old)
  poll-still old new before after (Ok given) input e f refuses = tt
  poll-still old new before after (Err errors.NotPending) input e f refuses = λ _. rw (e, f) refl
  poll-still old new before after (Err errors.Memory) input e f refuses = λ m. absurd (false≢true (sym m))
  poll-still old new before after (Err errors.Failed) input e f refuses = absurd refuses
  poll-still old new before after (Err errors.Stopped) input e f refuses = absurd refuses

  pub poll-fails : (old new : Engine S L J s l j) (before after : Crew S L J s l j) (result : Result Polled PollError) (input : Input)
      → old.stage ≡ stages.Running before → new.stage ≡ settled_with after result
      → IfErr result (CrewRefuses before after input)
      → IfErr result (FailsAfter old new)
  poll-fails old new before after (Ok given) input e f refuses = tt
  poll-fails old new before after (Err errors.NotPending) input e f refuses = (rw e refl, rw f refl)
  poll-fails old new before after (Err errors.Memory) input e f refuses = (rw e refl, rw f refl)
  poll-fails old new before after (Err errors.Failed) input e f refuses = absurd refuses
  poll-fails old new before after (Err errors.Stopped) input e f refuses = absurd refuses

  pub poll-alive : (new : Engine S L J s l j) (after : Crew S L J s l j) (result : Result Polled PollError) → new.stage ≡ settled_with after result
      → OnOk result (has_failed new ≡ false)
  poll-alive new after (Ok given) f = rw f (settled-alive after given.outcome)
  poll-alive new after (Err error) f = tt

  -- ---- what a start and a poll mean over any journal

  pub settled-stops : (crew : Crew S L J s l j) (outcome : Outcome) → is_stopped (settled crew outcome) ≡ not (is_whole outcome)
  settled-stops crew outcomes.Done = refl
  settled-stops crew outcomes.Idle = refl
  settled-stops crew outcomes.Refused = refl
  settled-stops crew outcomes.Journal = refl
  settled-stops crew outcomes.Cut = refl

  settled-journal : (engine : Engine S L J s l j) (crew : Crew S L J s l j) (outcome : Outcome) → engine.stage ≡ settled crew outcome → journal_of engine ≡ Some (voter.journal_of crew.voter)
  settled-journal engine crew outcomes.Done e = rw e refl
  settled-journal engine crew outcomes.Idle e = rw e refl
  settled-journal engine crew outcomes.Refused e = rw e refl
  settled-journal engine crew outcomes.Journal e = rw e refl
  settled-journal engine crew outcomes.Cut e = rw e refl

  pub start-over : (old new : Engine S L J s l j) (unstarted : Unstarted S L J s l j) (before after : Crew S L J s l j) (now : ℕ) (stop : Stop) (outcome : Outcome) (out : StepOut)
      → old.stage ≡ stages.Waiting unstarted → new.stage ≡ settled after outcome
      → ((made : EngineMade) → Waits false unstarted made → Fresh false before made now)
      → CrewStarts before after now stop outcome out
      → FaresFirst old new now stop outcome out
  unfolding StandsOver
  start-over old new unstarted before after now stop outcome out e f fresh starts = record {
    turned = starts.turned;
    becomes = starts.becomes;
    gives = λ made h. let held = rw e at h in starts.gives made (fresh made held.1);
    leaves = λ made h.
        let held = rw e at h in
        rw (settled-journal new after outcome f) (ap Some (starts.leaves made (fresh made held.1)));
    stands = λ going made h.
        let held = rw e at h in
        let start = fresh made held.1 in
        rw f (stage-settled false after made [] (begun made now starts.turned) outcome (starts.gives made start).0 (starts.takes going made start));
  }

  pub start-faults : (old new : Engine S L J s l j) (unstarted : Unstarted S L J s l j) (before after : Crew S L J s l j) (now : ℕ) (stop : Stop) (outcome : Outcome) (out : StepOut)
      → old.stage ≡ stages.Waiting unstarted → new.stage ≡ settled after outcome → CrewStarts before after now stop outcome out → voter.journal_of before.voter ≡ unstarted.journal
      → FaultsAt outcome (faults_in before) (faults_in after) → FaultsAt outcome (faults_of old) (faults_of new)
  start-faults old new unstarted before after now stop outcome out e f starts same faults = rw (e, settled-journal new after outcome f, ← same) faults

  pub poll-over : (old new : Engine S L J s l j) (before after : Crew S L J s l j) (result : Result Polled PollError) (stop : Stop) (rule : Stop → EngineMade → List Did → Did) (out : StepOut)
      → old.stage ≡ stages.Running before → new.stage ≡ settled_with after result
      → IfOk result (λ given. CrewFares before after stop rule given.outcome given.taken out)
      → IfOk result (λ given. Fares old new stop rule given.outcome given.taken out)
  unfolding StandsOver
  poll-over old new before after (Ok given) stop rule out e f fares = record {
    turned = fares.turned;
    becomes = fares.becomes;
    gives = λ made past h.
        let held = rw e at h in
        ((fares.gives made past held.1).0, fares.takes_inside made past held.1, (fares.gives made past held.1).1);
    leaves = λ made past h.
        let held = rw e at h in
        rw (settled-journal new after given.outcome f) (ap Some (fares.leaves made past held.1));
    stands = λ going made past h.
        let held = rw e at h in
        rw f (stage-settled false after made past (rule fares.turned made past) given.outcome (fares.gives made past held.1).0 (fares.takes going made past held.1));
  }
  poll-over old new before after (Err error) stop rule out e f fares = tt

  pub poll-faults : (old new : Engine S L J s l j) (before after : Crew S L J s l j) (result : Result Polled PollError)
      → old.stage ≡ stages.Running before → new.stage ≡ settled_with after result
      → IfOk result (λ given. FaultsAt given.outcome (faults_in before) (faults_in after))
      → IfOk result (λ given. FaultsAt given.outcome (faults_of old) (faults_of new))
  poll-faults old new before after (Ok given) e f faults = rw (e, settled-journal new after given.outcome f) faults
  poll-faults old new before after (Err error) e f faults = tt

  pub poll-stops : (new : Engine S L J s l j) (after : Crew S L J s l j) (result : Result Polled PollError) → new.stage ≡ settled_with after result
      → IfOk result (λ given. has_stopped new ≡ not (is_whole given.outcome))
  poll-stops new after (Ok given) f = rw f (settled-stops after given.outcome)
  poll-stops new after (Err error) f = tt

  -- ---- an engine that was not started, or is stopped

  pub waiting-refuses : (told : Bool) (old : Engine S L J s l j) (unstarted : Unstarted S L J s l j) (input : Input) → old.stage ≡ stages.Waiting unstarted
      → StageAnswers told old.stage (λ made past. refusal_of made past input) (Some errors.Stopped)
  unfolding refusal_of runs
  waiting-refuses told old unstarted input e = λ made past h.
      let held = rw e at h in
      rw held.0 refl

  pub stopped-refuses : (told : Bool) (old : Engine S L J s l j) (crew : Crew S L J s l j) (input : Input) → old.stage ≡ stages.Stopped crew
      → StageAnswers told old.stage (λ made past. refusal_of made past input) (Some errors.Stopped)
  unfolding refusal_of
  stopped-refuses told old crew input e = λ made past h.
      let held = rw e at h in
      rw held.0 refl

  pub running-started : (told : Bool) (old : Engine S L J s l j) (crew : Crew S L J s l j) (made : EngineMade) → old.stage ≡ stages.Running crew → StageStands told old.stage made [] → ⊥
  unfolding runs
  running-started told old crew made e h =
      let held = rw e at h in
      false≢true held.0

  pub stopped-started : (told : Bool) (old : Engine S L J s l j) (crew : Crew S L J s l j) (made : EngineMade) → old.stage ≡ stages.Stopped crew → StageStands told old.stage made [] → ⊥
  stopped-started told old crew made e h =
      let held = rw e at h in
      false≢true held.1

  pub waiting-idle : (engine : Engine S L J s l j) (unstarted : Unstarted S L J s l j) (made : EngineMade) (past : List Did) → engine.stage ≡ stages.Waiting unstarted
      → StandsFor engine made past → runs past ≡ true → ⊥
  unfolding StandsFor runs
  waiting-idle engine unstarted made past e h r =
      let held = rw e at h in
      false≢true (rw held.0 at r)

  pub waiting-idle-over : (engine : Engine S L J s l j) (unstarted : Unstarted S L J s l j) (made : EngineMade) (past : List Did) → engine.stage ≡ stages.Waiting unstarted
      → StandsOver engine made past → runs past ≡ true → ⊥
  unfolding StandsOver runs
  waiting-idle-over engine unstarted made past e h r =
      let held = rw e at h in
      false≢true (rw held.0 at r)

  -- an engine that waits for its start has not begun
  pub waiting-fresh : (told : Bool) (engine : Engine S L J s l j) (unstarted : Unstarted S L J s l j) (made : EngineMade) (past : List Did) → engine.stage ≡ stages.Waiting unstarted
      → StageStands told engine.stage made past → has_begun past ≡ true → ⊥
  waiting-fresh told engine unstarted made past e h r =
      let held = rw e at h in
      false≢true (rw held.0 at r)

  -- ---- what an engine tells

  pub waiting-sections : (told : Bool) (engine : Engine S L J s l j) (unstarted : Unstarted S L J s l j) → engine.stage ≡ stages.Waiting unstarted
      → StageAnswers told engine.stage (λ made past. sections_of made past) (j.sections unstarted.journal)
  waiting-sections told engine unstarted e = λ made past h.
      let held = rw e at h in
      rw held.0 (waits-sections told unstarted made held.1)

  sections-tell : (told : Bool) (crew : Crew S L J s l j) (sections : List Section) → TellsAs told crew (λ parts. (place_of parts.voter parts.given).sections) sections
      → CrewAnswersAs told crew (λ made past. sections_of made past) sections
  unfolding CrewStands parts_of sections_of
  sections-tell told crew sections tells = λ made past h. tells (parts_of made past) h

  pub running-sections : (told : Bool) (engine : Engine S L J s l j) (crew : Crew S L J s l j) (sections : List Section) → engine.stage ≡ stages.Running crew
      → ((told : Bool) → TellsAs told crew (λ parts. (place_of parts.voter parts.given).sections) sections)
      → StageAnswers told engine.stage (λ made past. sections_of made past) sections
  running-sections told engine crew sections e tells = λ made past h.
      let held = rw e at h in
      sections-tell told crew sections (tells told) made past held.1

  pub stopped-sections : (told : Bool) (engine : Engine S L J s l j) (crew : Crew S L J s l j) (sections : List Section) → engine.stage ≡ stages.Stopped crew
      → ((told : Bool) → TellsAs told crew (λ parts. (place_of parts.voter parts.given).sections) sections)
      → StageAnswers told engine.stage (λ made past. sections_of made past) sections
  stopped-sections told engine crew sections e tells = λ made past h.
      let held = rw e at h in
      sections-tell told crew sections (tells told) made past held.2

  pub running-view : (told : Bool) (engine : Engine S L J s l j) (crew : Crew S L J s l j) (view : ℕ) → engine.stage ≡ stages.Running crew
      → ((told : Bool) → TellsAs told crew (λ parts. current_of parts.voter.rules (place_of parts.voter parts.given).standing.desk.known) view)
      → StageAnswers told engine.stage (λ made past. current_of (voter_in made past).rules (place_of (voter_in made past) (voter_past past)).standing.desk.known) view
  unfolding CrewStands parts_of
  running-view told engine crew view e tells = λ made past h.
      let held = rw e at h in
      tells told (parts_of made past) held.1

  pub running-deadline : (told : Bool) (engine : Engine S L J s l j) (crew : Crew S L J s l j) (deadline : ℕ) → engine.stage ≡ stages.Running crew
      → ((told : Bool) → TellsAs told crew (λ parts. least_of (Some (due_at parts.voter.rules (place_of parts.voter parts.given).standing.desk.known))
      (deadline_after parts.resolver parts.asked)) (Some deadline))
      → StageAnswers told engine.stage (λ made past. next_deadline made past) (Some deadline)
  unfolding CrewStands parts_of next_deadline
  running-deadline told engine crew deadline e tells = λ made past h.
      let held = rw e at h in
      rw held.0 (tells told (parts_of made past) held.1)

  pub stopped-undue : (told : Bool) (engine : Engine S L J s l j) (crew : Crew S L J s l j) → engine.stage ≡ stages.Stopped crew
      → StageAnswers told engine.stage (λ made past. next_deadline made past) None
  unfolding next_deadline
  stopped-undue told engine crew e = λ made past h.
      let held = rw e at h in
      rw held.0 refl

  pub waiting-undue : (told : Bool) (engine : Engine S L J s l j) (unstarted : Unstarted S L J s l j) → engine.stage ≡ stages.Waiting unstarted
      → StageAnswers told engine.stage (λ made past. next_deadline made past) None
  unfolding next_deadline runs
  waiting-undue told engine unstarted e = λ made past h.
      let held = rw e at h in
      rw held.0 refl

  pub running-holds : (told : Bool) (engine : Engine S L J s l j) (crew : Crew S L J s l j) (held : Bool) (source : StepSource) (now : ℕ) → engine.stage ≡ stages.Running crew
      → ((told : Bool) → CrewAnswersAs told crew (λ made past. holds made past source now) held)
      → StageAnswers told engine.stage (λ made past. holds made past source now) held
  running-holds told engine crew held source now e tells = λ made past h.
      let is = rw e at h in
      tells told made past is.1

  -- whom its calls blocked
  pub running-blocked : (told : Bool) (engine : Engine S L J s l j) (crew : Crew S L J s l j) (member : ℕ) (blocked : Bool) → engine.stage ≡ stages.Running crew
      → ((told : Bool) → TellsAs told crew (λ parts. holds_member parts.blocked member) blocked)
      → StageAnswers told engine.stage (λ made past. is_blocked past member) blocked
  unfolding CrewStands parts_of
  running-blocked told engine crew member blocked e tells = λ made past h.
      let held = rw e at h in
      tells told (parts_of made past) held.1

  pub stopped-blocked : (told : Bool) (engine : Engine S L J s l j) (crew : Crew S L J s l j) (member : ℕ) (blocked : Bool) → engine.stage ≡ stages.Stopped crew
      → ((told : Bool) → TellsAs told crew (λ parts. holds_member parts.blocked member) blocked)
      → StageAnswers told engine.stage (λ made past. is_blocked past member) blocked
  unfolding CrewStands parts_of
  stopped-blocked told engine crew member blocked e tells = λ made past h.
      let held = rw e at h in
      tells told (parts_of made past) held.2

  pub waiting-blocked : (told : Bool) (engine : Engine S L J s l j) (unstarted : Unstarted S L J s l j) (member : ℕ) → engine.stage ≡ stages.Waiting unstarted
      → StageAnswers told engine.stage (λ made past. is_blocked past member) false
  unfolding blocked_in
  waiting-blocked told engine unstarted member e = λ made past h.
      let held = rw e at h in
      rw held.0 refl
