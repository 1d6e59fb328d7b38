-- What the calls of a member do to its history.
use Rattle.std.specs.Prelude.{◌≡◌, ℕ, Bool, true, false, List, [], Option, None, Some, ◌≤◌, Result, Ok, Err}
use Rattle.simplex_wire.specs.declared.scheme.Scheme as scheme
use Rattle.simplex_types.specs.declared.elector.Elector as elector
use Rattle.simplex_journal.specs.declared.journal.Journal as journal
use Rattle.simplex_messages.specs.declared.step.Outcome.{Outcome}
use Rattle.simplex_messages.specs.declared.step.Stop.{Stop}
use Rattle.simplex_messages.specs.declared.step.Stop.TheVariants as stops
use Rattle.simplex_messages.specs.Step.{no_out}
use Rattle.simplex_transcript.specs.declared.event.StepSource.{StepSource}
use Rattle.model_steps.specs.Engine.{EngineMade, Did, runs, is_whole}
use Rattle.simplex_messages.specs.declared.step.Outcome.TheVariants as outcomes
use Rattle.simplex_engine.specs.declared.error.PollError.{PollError}
use Rattle.simplex_engine.specs.declared.error.PollError.TheVariants as polls
use Rattle.simplex_engine.specs.declared.input.Input.TheVariants as inputs
use Rattle.simplex_engine.specs.declared.input.TakenInside.{TakenInside}
use Rattle.simplex_engine.specs.Polled.{polled}
use Rattle.simplex_engine.specs.Stands.{StandsOver, StaysOver, Fares, FaresFirst}
use Rattle.simplex_node.specs.declared.command.Command.{Command}
use Rattle.simplex_node.specs.declared.command.Command.TheVariants as commands
use Rattle.simplex_node.specs.declared.error.NodeError.{NodeError}
use Rattle.simplex_node.specs.declared.error.NodeError.TheVariants as errors
use Rattle.simplex_node.specs.declared.node.Node.{Node}
use Rattle.simplex_node.specs.declared.time.Time.{Time}
use Rattle.simplex_node.specs.Turn.{next_source}

-- how a call ended that the engine took
abbrev pub ended : Outcome → Result (Unit {0}) NodeError
ended outcomes.Done = Ok tt
ended outcomes.Idle = Ok tt
ended outcomes.Refused = Ok tt
ended outcomes.Journal = Err errors.Journal
ended outcomes.Cut = Err errors.Journal

-- what an engine's refusal is to a host
abbrev pub error_of : PollError → NodeError
error_of polls.Memory = errors.Memory
error_of polls.Failed = errors.Memory
error_of polls.Stopped = errors.Stopped
error_of polls.NotPending = errors.NotPending

module _ {S L J : Type 0} {s : scheme.Ghosts S} {l : elector.Ghosts L} {j : journal.Ghosts J} where
  -- The call adds the item that the rule says to whatever history the member stood for, and its output is the item's. No call of it was
  -- ordered to stop: a stop of the item is what the journal's own failure made of none.
  pub record Does (old new : Node S L J s l j) (rule : Stop → EngineMade → List Did → Did) (whole : Bool) : Type 0 where
    pub outcome : Outcome
    pub taken : Option TakenInside
    pub ended : is_whole outcome ≡ whole
    pub fares : Fares old.engine new.engine stops.None rule outcome taken new.out

  -- the same of a start, whose history is empty
  pub record Begins (old new : Node S L J s l j) (whole : Bool) : Type 0 where
    pub outcome : Outcome
    pub ended : is_whole outcome ≡ whole
    pub fares : FaresFirst old.engine new.engine new.clock.ms stops.None outcome new.out

  -- a step on the source that comes next
  pub record StepsOn (old new : Node S L J s l j) (source : StepSource) (whole : Bool) : Type 0 where
    pub next : (made : EngineMade) (past : List Did) → StandsOver old.engine made past → runs past ≡ true → next_source made past old.clock.ms ≡ Some source
    pub does : Does old new (λ turned made past. polled made past (inputs.Step source) old.clock.ms turned) whole
    pub clock : new.clock ≡ old.clock

  -- no source holds anything, and nothing changed but the output, which is empty
  pub record Rests (old new : Node S L J s l j) : Type 0 where
    pub none : (made : EngineMade) (past : List Did) → StandsOver old.engine made past → runs past ≡ true → next_source made past old.clock.ms ≡ None
    pub same : new.engine ≡ old.engine
    pub clock : new.clock ≡ old.clock
    pub out : new.out ≡ no_out

  abbrev pub Steps : Node S L J s l j → Node S L J s l j → Option StepSource → Type 0
  Steps old new None = Rests old new
  Steps old new (Some source) = StepsOn old new source true

  -- the clock is this one from now on, and never goes back
  pub record SetsClock (old new : Node S L J s l j) (now : Time) : Type 0 where
    pub later : old.clock.ms ≤ now.ms
    pub clock : new.clock ≡ now
    pub same : new.engine ≡ old.engine
    pub out : new.out ≡ no_out

  -- a refused command: no history changes, and there is no output
  pub record Refuses (old new : Node S L J s l j) : Type 0 where
    pub stays : StaysOver old.engine new.engine
    pub clock : new.clock ≡ old.clock
    pub out : new.out ≡ no_out

  -- what a command does: the clock is set, or the engine takes the input
  abbrev pub Takes : Node S L J s l j → Node S L J s l j → Command → Bool → Type 0
  Takes old new (commands.Now time) true = SetsClock old new time
  Takes old new (commands.Now time) false = ⊥
  Takes old new (commands.Packet from channel bytes) whole =
      Does old new (λ turned made past. polled made past (inputs.Deliver from channel bytes) old.clock.ms turned) whole × (new.clock ≡ old.clock)
  Takes old new (commands.Answer request answer) whole =
      Does old new (λ turned made past. polled made past (inputs.Answer request answer) old.clock.ms turned) whole × (new.clock ≡ old.clock)
