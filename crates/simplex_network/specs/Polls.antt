-- What is tested for forgeries, and what an input that a node's engine is given makes of the entries before it.
use Rattle.std.specs.Prelude.{◌≡◌, ◌+◌, Bool, false, List, ◌∷◌, length, Option, Some, None, Result, Ok, Err, if◌then◌else◌}
use Rattle.std.specs.Option.{option_map, option_or, option_and_then}
use Rattle.simplex_messages.specs.declared.step.Stop.{Stop}
use Rattle.simplex_transcript.specs.declared.event.Event.{Event}
use Rattle.simplex_transcript.specs.declared.event.Event.TheVariants as events
use Rattle.simplex_transcript.specs.declared.entry.Entry.{Entry}
use Rattle.simplex_transcript.specs.declared.entry.Took.{Took}
use Rattle.simplex_transcript.specs.declared.entry.Took.TheVariants as tooks
use Rattle.simplex_transcript.specs.declared.setup.Setup.{Setup}
use Rattle.simplex_transcript.specs.declared.node.Node.{Node}
use Rattle.simplex_transcript.specs.declared.refusal.RunError.{RunError}
use Rattle.simplex_transcript.specs.declared.refusal.RunError.TheVariants as refusals
use Rattle.simplex_wire.specs.declared.certificate.Finalization.{Finalization}
use Rattle.model_steps.specs.Engine.{EngineMade, Did, begun}
use Rattle.simplex_engine.specs.declared.input.Input.{Input}
use Rattle.simplex_engine.specs.declared.input.TakenInside.{TakenInside}
use Rattle.simplex_engine.specs.declared.input.TakenInside.TheVariants as insides
use Rattle.simplex_engine.specs.declared.error.PollError.{PollError}
use Rattle.simplex_engine.specs.declared.error.PollError.TheVariants as errors
use Rattle.simplex_engine.specs.Polled.{polled, refusal_of}
use Rattle.model_run.specs.Setting.{Setting}
use Rattle.model_run.specs.Kinds.{is_same_node}
use Rattle.model_run.specs.Members.{floor_of, engine_of}
use Rattle.model_run.specs.Life.{Noted, Life, Stopped, Running, clock_of, is_of, after, went_on, sections_in}
use Rattle.model_run.specs.Requests.{is_start, request_place}
use Rattle.model_run.specs.Entries.{took_of, noted_with, made_of, entry_of, entry_with}
use Rattle.law_run.specs.EventForging.{may_forge}
use Rattle.simplex_records.specs.declared.records.Records.{Records}
use Rattle.simplex_records.specs.Stands.{RecordsStand}
use Rattle.simplex_network.specs.declared.task.Made.{Made}

-- ---- what is tested

-- what an event makes, where that is tested for forgeries alone in which there may be one
unfoldable pub tested_of : Setting → List Noted → Event → Result Noted RunError
tested_of setting before event =
    if may_forge setting.setup event then entry_of setting before event else made_of setting before event

-- ---- inputs

-- what a refusal of an engine is to the network
abbrev pub as_run_error : PollError → RunError
as_run_error errors.Failed = refusals.Memory
as_run_error errors.Stopped = refusals.NotRunning
as_run_error errors.NotPending = refusals.NotPending
as_run_error errors.Memory = refusals.Memory

-- what an engine made of an input. What came from outside is told by the event
unfoldable pub noted_poll : Setup → List Noted → Event → Node → Input → Stop → Option Took → EngineMade → List Did
    → Noted
noted_poll setup before event node input stop outside made past =
    let did = polled made past input (clock_of before) stop in
    noted_with setup before event node (option_or outside (took_of before node made past did)) did

unfoldable pub unless : Option PollError → Noted → Result Noted RunError
unless None noted = Ok noted
unless (Some error) noted = Err (as_run_error error)

unfoldable pub on_poll : Setup → List Noted → Event → Node → Input → Stop → Option Took → Life → Result Noted RunError
on_poll setup before event node input stop outside (Stopped sections) = Err refusals.NotRunning
on_poll setup before event node input stop outside (Running made past) =
    unless (refusal_of made past input) (noted_poll setup before event node input stop outside made past)

-- the event is one of the node, which starts it or not
pub record IsOf (event : Event) (node : Node) (starts : Bool) : Type 0 where
  pub of : (other : Node) → is_of other event ≡ is_same_node node other
  pub start : is_start event ≡ starts

-- the event is an input of this node's engine
pub record IsInput (event : Event) (node : Node) : Type 0 where
  pub of : IsOf event node false
  pub goes : (setting : Setting) (did : Did) (life : Life) → after setting event (Some did) life ≡ went_on did life
  pub time : (noted : Noted) (before : List Noted) → noted.event ≡ event → clock_of (noted ∷ before) ≡ clock_of before

-- what was taken from inside an engine, its request named by its place
abbrev pub named : List Noted → Node → TakenInside → Option Took
named before node (insides.Message message) = Some (tooks.Message message)
named before node (insides.Answer request answer) =
    option_map (λ at. tooks.Request at answer) (request_place before node request)
named before node insides.Deadline = Some tooks.Timer

-- whatever entries the records stand for, this is the entry of what a step of the node's engine made
abbrev pub EntersMade : Records → Setup → Node → Made → Entry → Type 0
EntersMade records setup node made entry =
    (before : List Noted) (did : Did) → RecordsStand records setup before → did.out ≡ made.out
    → did.outcome ≡ made.polled.outcome
    → entry ≡ entry_with setup (length before + 1) node
    (option_or made.outside (option_and_then (named before node) made.polled.taken)) did

-- what a start of this node makes
abbrev pub noted_start : Setting → List Noted → Node → Option Finalization → Stop → Life → Noted
noted_start setting before node floor stop life =
    noted_with setting.setup before (events.Start node floor stop) node (Some tooks.Floor)
    (begun (engine_of setting node.member (floor_of setting.genesis floor) (sections_in life)) (clock_of before) stop)
