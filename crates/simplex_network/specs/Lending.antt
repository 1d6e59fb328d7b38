-- Hosts that a network lends for a step, and what comes of the step.
use Rattle.std.specs.Prelude.{◌≡◌, ℕ, true, false, IsNone, List, [], ◌∷◌, take, Some, Result, Ok, Err, if◌then◌else◌}
use Rattle.simplex_transcript.specs.declared.event.Event.{Event}
use Rattle.simplex_transcript.specs.declared.node.Node.{Node}
use Rattle.simplex_transcript.specs.declared.entry.Entry.{Entry}
use Rattle.simplex_transcript.specs.declared.setup.Setup.{Setup}
use Rattle.simplex_transcript.specs.declared.refusal.RunError.{RunError}
use Rattle.simplex_engine.specs.declared.error.PollError.{PollError}
use Rattle.model_run.specs.Setting.{Setting}
use Rattle.model_run.specs.Kinds.{is_node, is_honest}
use Rattle.model_run.specs.Setups.{first_bad}
use Rattle.model_run.specs.Life.{Noted, Life, Stopped, clock_of}
use Rattle.model_run.specs.Entries.{entry_of}
use Rattle.model_run.specs.Groups.{node_stepped, is_named, joins, with_named, joined}
use Rattle.law_run.specs.Histories.{IsRun}
use Rattle.law_run.specs.Fitting.{AreTyped}
use Rattle.simplex_records.specs.Stands.{RecordsStand}
use Rattle.simplex_network.specs.declared.host.Host.{Host}
use Rattle.simplex_network.specs.declared.network.Network.{Network}
use Rattle.simplex_network.specs.declared.status.Status.{Status}
use Rattle.simplex_network.specs.declared.status.Status.TheVariants as statuses
use Rattle.simplex_network.specs.declared.task.Given.{Given}
use Rattle.simplex_network.specs.declared.task.Made.{Made}
use Rattle.simplex_network.specs.declared.task.Stage.{Stage}
use Rattle.simplex_network.specs.declared.task.Stage.TheVariants as stages
use Rattle.simplex_network.specs.declared.task.Task.{Task}
use Rattle.simplex_network.specs.Answer.{is_memory}
use Rattle.simplex_network.specs.Parts.{Part, Lives, part_in, found_in, refusal_in, after_poll, IsPolled}
use Rattle.simplex_network.specs.Stages.{is_done}
use Rattle.simplex_network.specs.Polls.{as_run_error, IsInput, tested_of, on_poll}
use Rattle.simplex_network.specs.Stands.{HostStands, HostsStand, AreOfMembers, StandsFor, LivesAs, entered}

-- ---- a network that has lent some of its hosts

-- it remembers these entries, the newest first, whatever its hosts do
pub record Remembers (network : Network) (setting : Setting) (before : List Noted) : Type 0 where
  pub given : network.setup ≡ setting.setup
  pub genesis : network.genesis ≡ setting.genesis
  pub alive : network.failed ≡ false
  pub clock : network.clock ≡ clock_of before
  pub records : RecordsStand network.records setting.setup before
  pub senders : AreOfMembers setting.setup before

-- a node that is lent is stopped, with nothing
abbrev pub without : List Node → (Node → Part) → Node → Part
without lent parts node = if is_named lent node then Lives (Stopped []) else parts node

-- it keeps what these entries made, but for these nodes, which are lent
pub record KeepsBut (lent : List Node) (network : Network) (setting : Setting) (before : List Noted) : Type 0 where
  pub remembers : Remembers network setting before
  pub hosts : HostsStand network.setup network.hosts.list.items (without lent (part_in setting before))

-- it was so set, made these entries, and has lent these nodes
pub record StandsBut (lent : List Node) (network : Network) (setting : Setting) (before : List Noted) : Type 0 where
  pub keeps : KeepsBut lent network setting before
  pub good : IsNone (first_bad setting.setup)
  pub ran : IsRun setting before
  pub typed : AreTyped before

-- ---- what a step is given

-- the network remembers entries behind which the node runs at this view, and the event is this input of its engine
abbrev pub Prepares : Network → Node → ℕ → Event → Given → Type 0
Prepares network node view event given =
    (setting : Setting) (before : List Noted) (life : Life) → Remembers network setting before
    → Ok (statuses.Running view) ≡ found_in setting.setup node (part_in setting before node)
    → LivesAs setting before node life
    → tested_of setting before event ≡ on_poll setting.setup before event node given.input given.stop given.outside life

-- or this is why it is refused
abbrev pub Bars : Network → Node → ℕ → Event → RunError → Type 0
Bars network node view event error =
    (setting : Setting) (before : List Noted) → Remembers network setting before
    → Ok (statuses.Running view) ≡ found_in setting.setup node (part_in setting before node)
    → tested_of setting before event ≡ Err error

-- the same of a node of an honest member: the network may have lent others
abbrev pub Readies : Network → Node → Event → Given → Type 0
Readies network node event given =
    (setting : Setting) (before : List Noted) (lent : List Node) → is_named lent node ≡ false
    → KeepsBut lent network setting before → is_honest setting.setup node.member ≡ true
    → (life : Life) × LivesAs setting before node life
    × (entry_of setting before event
    ≡ on_poll setting.setup before event node given.input given.stop given.outside life)

abbrev pub Refrains : Network → Node → Event → RunError → Type 0
Refrains network node event error =
    (setting : Setting) (before : List Noted) (lent : List Node) → is_named lent node ≡ false
    → KeepsBut lent network setting before → is_honest setting.setup node.member ≡ true
    → entry_of setting before event ≡ Err error

-- what a node that is not lent is at, or that it does not exist
abbrev pub FindsAmong : Network → Node → Result Status RunError → Type 0
FindsAmong network node result =
    (setting : Setting) (before : List Noted) (lent : List Node) → is_named lent node ≡ false
    → KeepsBut lent network setting before
    → result ≡ found_in setting.setup node (part_in setting before node)

-- ---- what comes of a step

-- the host of a member took what it was given in this life
pub record Took (setup : Setup) (member : ℕ) (life : Life) (given : Given) (now : ℕ) (host : Host)
    (made : Made) : Type 0 where
  pub gave : IsPolled life given.input now given.stop made.polled.outcome made.polled.taken made.out
  pub outside : made.outside ≡ given.outside
  pub stands : HostStands setup member host (Lives (after_poll given.input now given.stop life))

-- or it refused it, and lives on as before
pub record Declined (setup : Setup) (member : ℕ) (life : Life) (given : Given) (host : Host)
    (error : RunError) : Type 0 where
  pub reason : PollError
  pub is : error ≡ as_run_error reason
  pub why : refusal_in life given.input ≡ Some reason
  pub stands : HostStands setup member host (Lives life)

unfoldable pub CameTo : Setup → ℕ → Life → Given → ℕ → Host → Stage → Type 0
CameTo setup member life given now host (stages.Given other) = ⊥
CameTo setup member life given now host (stages.Made made) = Took setup member life given now host made
CameTo setup member life given now host (stages.Refused error) =
    is_memory error ≡ false → Declined setup member life given host error

abbrev pub IsDone : Task → Type 0
IsDone task = is_done task.stage ≡ true

-- the host of the node, which lives this life behind these entries, waits with what it is given
pub record Waits (setting : Setting) (before : List Noted) (node : Node) (life : Life) (given : Given)
    (task : Task) : Type 0 where
  pub stage : task.stage ≡ stages.Given given
  pub lives : LivesAs setting before node life
  pub now : task.now ≡ clock_of before
  pub stands : HostStands setting.setup node.member task.host (Lives life)

-- this came of it
pub record Comes (setting : Setting) (before : List Noted) (node : Node) (life : Life) (given : Given)
    (task : Task) : Type 0 where
  pub lives : LivesAs setting before node life
  pub now : task.now ≡ clock_of before
  pub came : CameTo setting.setup node.member life given task.now task.host task.stage

abbrev pub Makes : Task → Task → Type 0
Makes old new =
    (setting : Setting) (before : List Noted) (node : Node) (life : Life) (given : Given)
    → Waits setting before node life given old → Comes setting before node life given new

-- ---- the step of an event

-- behind these entries the event is this input of its node's engine, in this life
pub record IsStepOf (setting : Setting) (before : List Noted) (event : Event) (node : Node) (life : Life)
    (given : Given) : Type 0 where
  pub steps : node_stepped event ≡ Some node
  pub input : IsInput event node
  pub is : entry_of setting before event
      ≡ on_poll setting.setup before event node given.input given.stop given.outside life

abbrev pub ReadyAt : Setting → List Noted → Event → Task → Stage → Type 0
ReadyAt setting before event task (stages.Given given) =
    (node : Node) × (life : Life) × IsStepOf setting before event node life given
    × Waits setting before node life given task
ReadyAt setting before event task (stages.Made made) = ⊥
ReadyAt setting before event task (stages.Refused error) =
    is_memory error ≡ false → entry_of setting before event ≡ Err error

-- the task waits for the step of the event behind these entries, or the event is refused
unfoldable pub IsReady : Setting → List Noted → Event → Task → Type 0
IsReady setting before event task = ReadyAt setting before event task task.stage

abbrev pub SteppedAt : Setting → List Noted → Event → Task → Stage → Type 0
SteppedAt setting before event task (stages.Given given) = ⊥
SteppedAt setting before event task (stages.Made made) =
    (node : Node) × (life : Life) × (given : Given) × IsStepOf setting before event node life given
    × Comes setting before node life given task
SteppedAt setting before event task (stages.Refused error) =
    is_memory error ≡ false → entry_of setting before event ≡ Err error

-- it made that step, or the event is refused
unfoldable pub IsStepped : Setting → List Noted → Event → Task → Type 0
IsStepped setting before event task = SteppedAt setting before event task task.stage

-- whatever event the old task waits to step, behind whatever entries, the new one has stepped it
abbrev pub Steps : Task → Task → Type 0
Steps old new =
    (setting : Setting) (before : List Noted) (event : Event) → IsReady setting before event old
    → IsStepped setting before event new

-- ---- a host is lent, and taken back

-- the event steps a node of an honest member
pub record MayLend (network : Network) (event : Event) : Type 0 where
  pub node : Node
  pub steps : node_stepped event ≡ Some node
  pub exists : is_node network.setup node ≡ true
  pub honest : is_honest network.setup node.member ≡ true

-- as many of the first events as are stepped at once
abbrev pub Groups : Network → List Event → ℕ → Type 0
Groups network events size =
    (setting : Setting) (before : List Noted) → StandsFor network setting before
    → take size events ≡ joined setting.setup before [] events

-- whatever entries the old network made, and whatever it has lent: an event that joins waits for its step, and its node
-- is lent too
abbrev pub Lends : Network → Network → Event → Task → Type 0
Lends old new event task =
    (setting : Setting) (before : List Noted) (lent : List Node) → StandsBut lent old setting before
    → joins setting.setup before lent event ≡ true
    → StandsBut (with_named lent (node_stepped event)) new setting before × IsReady setting before event task

-- whatever entries the old network made: the new one made the event's too, whose entry is this, and has its node back
abbrev pub Returns : Network → Network → Event → Task → Entry → Type 0
Returns old new event task entry =
    (setting : Setting) (before : List Noted) (node : Node) (lent : List Node) → node_stepped event ≡ Some node
    → is_named lent node ≡ false
    → StandsBut (node ∷ lent) old setting before → IsStepped setting before event task
    → (noted : Noted) × (entry_of setting before event ≡ Ok noted) × (noted.entry ≡ entry)
    × StandsBut lent new setting (noted ∷ before)

-- whatever entries the network made: this is why the event is refused
abbrev pub Declines : Network → Event → Task → RunError → Type 0
Declines network event task error =
    (setting : Setting) (before : List Noted) (node : Node) (lent : List Node) → node_stepped event ≡ Some node
    → StandsBut (node ∷ lent) network setting before → IsStepped setting before event task
    → entry_of setting before event ≡ Err error

-- ---- the same words of any node that has an engine

abbrev pub BackAdds : Network → Network → Node → Task → Type 0
BackAdds old new node task =
    (setting : Setting) (before : List Noted) (lent : List Node) (event : Event) (noted : Noted) (life : Life)
    (given : Given) → is_named lent node ≡ false
    → KeepsBut (node ∷ lent) old setting before → IsInput event node → Comes setting before node life given task
    → on_poll setting.setup before event node given.input given.stop given.outside life ≡ Ok noted
    → KeepsBut lent new setting (noted ∷ before)

abbrev pub BackGives : Network → Node → Task → Entry → Type 0
BackGives old node task entry =
    (setting : Setting) (before : List Noted) (event : Event) (life : Life) (given : Given)
    → Remembers old setting before → Comes setting before node life given task
    → entered (on_poll setting.setup before event node given.input given.stop given.outside life) ≡ Ok entry

abbrev pub BackRests : Network → Network → Node → Task → Type 0
BackRests old new node task =
    (setting : Setting) (before : List Noted) (lent : List Node) (life : Life) (given : Given)
    → is_named lent node ≡ false
    → KeepsBut (node ∷ lent) old setting before → Comes setting before node life given task
    → KeepsBut lent new setting before
