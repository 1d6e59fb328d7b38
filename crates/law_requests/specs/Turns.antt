-- What an event is to a node that runs an engine.
use Rattle.std.specs.Prelude.{ℕ, ◌≡◌, ◌⊎◌, true, false, List, Option, Some, None}
use Rattle.simplex_values.specs.declared.answer.Answer.{Answer}
use Rattle.simplex_wire.specs.declared.certificate.Finalization.{Finalization}
use Rattle.simplex_journal.specs.Journal.{Section}
use Rattle.simplex_messages.specs.declared.step.Stop.{Stop}
use Rattle.simplex_transcript.specs.declared.entry.Packet.{Packet}
use Rattle.simplex_transcript.specs.declared.entry.Took.TheVariants as tooks
use Rattle.simplex_transcript.specs.declared.event.Event.TheVariants as events
use Rattle.simplex_transcript.specs.declared.event.StepSource.{StepSource}
use Rattle.simplex_transcript.specs.declared.node.Node.{Node}
use Rattle.simplex_transcript.specs.declared.node.Ref.{Ref}
use Rattle.model_steps.specs.Engine as engine
use Rattle.model_steps.specs.Engine.{EngineMade, Did}
use Rattle.model_run.specs.Setting.{Setting}
use Rattle.model_run.specs.Life.{Noted, Stopped, Running, clock_of, is_of, life_in}
use Rattle.model_run.specs.Members.{floor_of, engine_of}
use Rattle.model_run.specs.Requests.{request_number, packet_for}
use Rattle.model_run.specs.Entries.{noted_with, noted_blank, is_own_floor, is_at_end, took_of}

-- it starts
pub record HasStarted (setting : Setting) (before : List Noted) (node : Node) (noted : Noted) : Type 0 where
  pub floor : Option Finalization
  pub stop : Stop
  pub sections : List Section
  pub stopped : life_in setting before node ≡ Stopped sections
  pub own : is_own_floor setting.setup before floor ≡ true
  pub is : noted_with setting.setup before (events.Start node floor stop) node (Some tooks.Floor)
      (engine.begun (engine_of setting node.member (floor_of setting.genesis floor) sections) (clock_of before) stop)
      ≡ noted

-- it hears a packet
pub record HasHeard (setting : Setting) (before : List Noted) (node : Node) (noted : Noted) : Type 0 where
  pub ref : Ref
  pub packet : Packet
  pub made : EngineMade
  pub past : List Did
  pub running : life_in setting before node ≡ Running made past
  pub found : packet_for before node ref ≡ Some packet
  pub low : is_at_end setting.setup made past ≡ false
  pub is : noted_with setting.setup before (events.Deliver node ref) node (Some (tooks.Packet ref))
      (engine.heard made past packet.from.member packet.channel packet.bytes (clock_of before)) ≡ noted

-- it steps
pub record HasStepped (setting : Setting) (before : List Noted) (node : Node) (noted : Noted) : Type 0 where
  pub source : StepSource
  pub stop : Stop
  pub made : EngineMade
  pub past : List Did
  pub running : life_in setting before node ≡ Running made past
  pub low : is_at_end setting.setup made past ≡ false
  pub is : (let did = engine.stepped made past source (clock_of before) stop in
      noted_with setting.setup before (events.Step node source stop) node (took_of before node made past did) did)
      ≡ noted

-- it is answered
pub record WasAnswered (setting : Setting) (before : List Noted) (node : Node) (noted : Noted) : Type 0 where
  pub ref : Ref
  pub answer : Answer
  pub number : ℕ
  pub made : EngineMade
  pub past : List Did
  pub running : life_in setting before node ≡ Running made past
  pub named : request_number before node ref ≡ Some number
  pub taken : engine.takes_reply made past number answer ≡ true
  pub is : noted_with setting.setup before (events.Answer node ref answer) node None
      (engine.replied number answer (clock_of before)) ≡ noted

-- it crashes
pub record HasCrashed (setting : Setting) (before : List Noted) (node : Node) (noted : Noted) : Type 0 where
  pub made : EngineMade
  pub past : List Did
  pub running : life_in setting before node ≡ Running made past
  pub is : noted_blank before (events.Crash node) (Some node) ≡ noted

-- one of these, or the event is none of the node
abbrev pub IsTurnOf : Setting → List Noted → Node → Noted → Type 0
IsTurnOf setting before node noted =
    (is_of node noted.event ≡ false) ⊎ (HasStarted setting before node noted ⊎ (HasHeard setting before node noted ⊎
    (HasStepped setting before node noted
    ⊎ (WasAnswered setting before node noted ⊎ HasCrashed setting before node noted))))
