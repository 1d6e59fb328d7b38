-- The conditions of an event, on the entries before it, for every kind of member.
use Rattle.std.specs.Prelude.{◌≡◌, ℕ, ◌+◌, ◌-◌, ◌*◌, ◌^◌, ◌<◌, ◌≤◌, true, List, All, IfSome, IfOk, Option}
use Rattle.simplex_values.specs.declared.answer.Answer.{Answer}
use Rattle.simplex_values.specs.Terms.{greatest_view}
use Rattle.simplex_wire.specs.declared.certificate.Finalization.{Finalization}
use Rattle.model_rules.specs.Views.{current_of}
use Rattle.simplex_journal.specs.Journal.{Section}
use Rattle.simplex_transcript.specs.declared.event.Event.{Event}
use Rattle.simplex_transcript.specs.declared.event.Event.TheVariants as events
use Rattle.simplex_transcript.specs.declared.entry.Packet.{Packet}
use Rattle.simplex_transcript.specs.declared.node.Node.{Node}
use Rattle.simplex_transcript.specs.declared.node.Ref.{Ref}
use Rattle.simplex_transcript.specs.declared.setup.Setup.{Setup}
use Rattle.model_steps.specs.VoterLife.{place_of}
use Rattle.model_steps.specs.Engine.{EngineMade, Did, voter_in, voter_past, takes_reply}
use Rattle.model_run.specs.Setting.{Setting}
use Rattle.model_run.specs.Kinds.{members_of, halves_of, runs_engine, is_faulty_member}
use Rattle.model_run.specs.Life.{Noted, Stopped, Running, clock_of, life_in}
use Rattle.model_run.specs.Entries.{made_of}
use Rattle.law_run.specs.Earlier.{IsReported, IsSentTo, IsAsked}
use Rattle.law_run.specs.PacketForging.{ForgesNothing}

-- the node exists: it is the first half of a member, or the second half of a twin
pub record IsNode (setup : Setup) (node : Node) : Type 0 where
  pub member : node.member < members_of setup
  pub half : node.half < halves_of setup node.member

-- The node is one that has an engine. A node without one belongs to a faulty member: it is never stopped, hears what comes,
-- and does nothing of itself
abbrev pub HasEngine : Setup → Node → Type 0
HasEngine setup node = runs_engine setup node.member ≡ true

-- the node's engine runs: what it was made with, and its history
abbrev pub IsUp : Setting → List Noted → Node → EngineMade → List Did → Type 0
IsUp setting before node made past = life_in setting before node ≡ Running made past

-- the view that an engine is in
abbrev pub view_in : EngineMade → List Did → ℕ
view_in made past =
    current_of (voter_in made past).rules (place_of (voter_in made past) (voter_past past)).standing.desk.known

-- behind the engine's view there is room for two terms and the lookahead
abbrev pub HasRoom : Setup → EngineMade → List Did → Type 0
HasRoom setup made past = view_in made past ≤ greatest_view - 2 * setup.term - setup.lookahead

-- the node's engine runs
pub record IsRunning (setting : Setting) (before : List Noted) (node : Node) : Type 0 where
  pub made : EngineMade
  pub past : List Did
  pub up : IsUp setting before node made past

-- the node's engine runs, and its view is not near the greatest one
pub record IsReady (setting : Setting) (before : List Noted) (node : Node) : Type 0 where
  pub made : EngineMade
  pub past : List Did
  pub up : IsUp setting before node made past
  pub room : HasRoom setting.setup made past

-- a stopped node with an engine starts at genesis, or at a finalization that an honest member reported
pub record MayStart (setting : Setting) (before : List Noted) (node : Node) (floor : Option Finalization) : Type 0 where
  pub there : IsNode setting.setup node
  pub engine : HasEngine setting.setup node
  pub sections : List Section
  pub stopped : life_in setting before node ≡ Stopped sections
  pub reported : IfSome floor (IsReported setting.setup before)

-- the clock stays below 2^63
pub record MayTick (before : List Noted) (ms : ℕ) : Type 0 where
  pub early : clock_of before + ms < 2 ^ 63

-- a packet that went to the node comes to it; if it has an engine, this is ready
pub record MayDeliver (setting : Setting) (before : List Noted) (node : Node) (at : Ref) : Type 0 where
  pub there : IsNode setting.setup node
  pub packet : Packet
  pub sent : IsSentTo before at node packet
  pub ready : HasEngine setting.setup node → IsReady setting before node

-- a node makes a step, from any source; if it has an engine, this is ready
pub record MayStep (setting : Setting) (before : List Noted) (node : Node) : Type 0 where
  pub there : IsNode setting.setup node
  pub ready : HasEngine setting.setup node → IsReady setting before node

-- an engine that runs is told the answer to a request that it asked, still waits for, and that takes an answer of this kind
pub record MayAnswer (setting : Setting) (before : List Noted) (node : Node) (at : Ref) (answer : Answer) : Type 0 where
  pub there : IsNode setting.setup node
  pub engine : HasEngine setting.setup node
  pub made : EngineMade
  pub past : List Did
  pub up : IsUp setting before node made past
  pub number : ℕ
  pub asked : IsAsked before at node number
  pub pending : takes_reply made past number answer ≡ true

-- a node stops; if it has an engine, this runs
pub record MayCrash (setting : Setting) (before : List Noted) (node : Node) : Type 0 where
  pub there : IsNode setting.setup node
  pub running : HasEngine setting.setup node → IsRunning setting before node

-- a faulty member sends any bytes to any nodes
pub record MayInject (setup : Setup) (member : ℕ) (to : List Node) : Type 0 where
  pub there : member < members_of setup
  pub faulty : is_faulty_member setup member ≡ true
  pub nodes : All (IsNode setup) to

-- the event may happen, but for what its packets hold
unfoldable pub May : Setting → List Noted → Event → Type 0
May setting before (events.Start node floor stop) = MayStart setting before node floor
May setting before (events.Tick ms) = MayTick before ms
May setting before (events.Deliver node at) = MayDeliver setting before node at
May setting before (events.Step node source stop) = MayStep setting before node
May setting before (events.Answer node at answer) = MayAnswer setting before node at answer
May setting before (events.Crash node) = MayCrash setting before node
May setting before (events.Inject member channel to bytes) = MayInject setting.setup member to

-- the event meets its conditions: it may happen, and the entry that it makes forges nothing
pub record Meets (setting : Setting) (before : List Noted) (event : Event) : Type 0 where
  pub may : May setting before event
  pub genuine : IfOk (made_of setting before event) (λ noted. ForgesNothing setting.setup before noted.entry)
