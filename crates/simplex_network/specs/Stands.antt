-- Which entries a network stands for.
use Rattle.std.specs.Prelude.{◌≡◌, ◌<◌, ◌+◌, ◌⊎◌, ℕ, Bool, true, false, IsNone, List, [], ◌∷◌, length, Option, Some, None, Result, Ok, Err, if◌then◌else◌}
use Rattle.std.specs.List.{slice_get}
use Rattle.simplex_wire.specs.declared.certificate.Finalization.{Finalization}
use Rattle.simplex_messages.specs.declared.step.Outcome.{Outcome}
use Rattle.simplex_messages.specs.declared.step.Stop.{Stop}
use Rattle.model_steps.specs.Engine.{EngineMade, Did, runs}
use Rattle.simplex_transcript.specs.declared.event.Event.{Event}
use Rattle.simplex_transcript.specs.declared.event.Event.TheVariants as events
use Rattle.simplex_transcript.specs.declared.event.StepSource.{StepSource}
use Rattle.simplex_transcript.specs.declared.entry.Packet.{Packet}
use Rattle.simplex_transcript.specs.declared.node.Node.{Node}
use Rattle.simplex_transcript.specs.declared.node.Ref.{Ref}
use Rattle.simplex_transcript.specs.declared.entry.Entry.{Entry}
use Rattle.simplex_transcript.specs.declared.setup.Setup.{Setup}
use Rattle.simplex_transcript.specs.declared.refusal.RunError.{RunError}
use Rattle.simplex_transcript.specs.declared.refusal.Refusal.{Refusal}
use Rattle.model_run.specs.Setting.{Setting}
use Rattle.model_run.specs.Kinds.{members_of, is_of_kind, is_node, runs_engine}
use Rattle.model_run.specs.Setups.{first_bad}
use Rattle.model_run.specs.Life.{Noted, Life, Stopped, Running, clock_of, going_on, life_in}
use Rattle.model_run.specs.Requests.{packet_at}
use Rattle.model_run.specs.Forged.{unless_forged}
use Rattle.model_run.specs.Entries.{entry_of, blank_entry, noted_blank, noted_idle}
use Rattle.law_run.specs.Histories.{IsRun}
use Rattle.law_run.specs.Fitting.{AreTyped}
use Rattle.law_run.specs.EventForging.{is_impersonator}
use Rattle.simplex_members.specs.FaultyMember.{FaultyStands}
use Rattle.simplex_records.specs.Seats.{seat_of, node_at}
use Rattle.simplex_records.specs.declared.records.Records.{Records}
use Rattle.simplex_records.specs.Stands.{RecordsStand}
use Rattle.simplex_network.specs.declared.host.Host.{Host}
use Rattle.simplex_network.specs.declared.host.Host.TheVariants as hosts
use Rattle.simplex_network.specs.declared.network.Network.{Network}
use Rattle.simplex_network.specs.declared.status.Status.{Status}
use Rattle.simplex_network.specs.NodeEngine.{NodeEngine, EngineStands, JournalStands}
use Rattle.simplex_network.specs.Parts.{Part, Lives, Hears, changed, part_in, found_in}
use Rattle.simplex_network.specs.Polls.{tested_of, noted_start}

-- a host at a node of this member does this. One that is away is at a node that is stopped, with nothing
unfoldable pub HostStands : Setup → ℕ → Host → Part → Type 0
HostStands setup member (hosts.Stopped journal) (Lives (Stopped sections)) = JournalStands journal sections
HostStands setup member (hosts.Running engine) (Lives (Running made past)) = EngineStands engine made past
HostStands setup member (hosts.Faulty faulty) (Hears past) = FaultyStands faulty setup member past
HostStands setup member hosts.Away (Lives (Stopped sections)) = sections ≡ []
HostStands setup member _ _ = ⊥

-- whatever part the host does, this holds of it
abbrev pub OfItsPart : Host → (Part → Type 0) → Type 0
OfItsPart host Holds =
    (setup : Setup) (member : ℕ) (part : Part) → HostStands setup member host part → Holds part

-- whatever life the host lives, this holds of it
abbrev pub OfItsLife : Host → (Life → Type 0) → Type 0
OfItsLife host Holds =
    (setup : Setup) (member : ℕ) (life : Life) → HostStands setup member host (Lives life) → Holds life

-- whatever life the old host lives, the new one lives what becomes of it
abbrev pub LivesOn : Host → Host → (Life → Life) → Type 0
LivesOn old new becomes =
    (setup : Setup) (member : ℕ) (life : Life) → HostStands setup member old (Lives life)
    → HostStands setup member new (Lives (becomes life))

-- whatever the old host's engine did, whose last step was whole or was not: the new host goes on from there
abbrev pub Settles : Host → Host → Bool → Type 0
Settles old new whole =
    (setup : Setup) (member : ℕ) (made : EngineMade) (past : List Did) → runs past ≡ whole
    → HostStands setup member old (Lives (Running made past)) → HostStands setup member new (Lives (going_on made past))

-- each host does its node's part
unfoldable pub HostsStand : Setup → List Host → (Node → Part) → Type 0
HostsStand setup list parts =
    (at : ℕ) (host : Host) → slice_get list at ≡ Some host
    → HostStands setup (node_at at).member host (parts (node_at at))

-- whatever the nodes' parts are, this holds of this one's
abbrev pub OfPartAt : List Host → Node → (Part → Type 0) → Type 0
OfPartAt list node Holds = (setup : Setup) (parts : Node → Part) → HostsStand setup list parts → Holds (parts node)

-- whatever the nodes' parts are, where this one's is a life, this holds of it
abbrev pub OfLifeAt : List Host → Node → (Life → Type 0) → Type 0
OfLifeAt list node Holds =
    (setup : Setup) (parts : Node → Part) (life : Life) → HostsStand setup list parts → parts node ≡ Lives life
    → Holds life

-- whatever the nodes' parts are, where this one's is a life, the node lives what becomes of it, and the others do
-- theirs
abbrev pub LivesOnAt : List Host → List Host → Node → (Life → Life) → Type 0
LivesOnAt old new node becomes =
    (setup : Setup) (parts : Node → Part) (life : Life) → HostsStand setup old parts → parts node ≡ Lives life
    → HostsStand setup new (changed node (Lives (becomes life)) parts)

-- the node has a seat among them
abbrev pub HasSeat : List Host → Node → Type 0
HasSeat list node = (node.half < 2) × (seat_of node < length list)

-- each packet was sent by a member
abbrev pub AreOfMembers : Setup → List Noted → Type 0
AreOfMembers setup before =
    (at : Ref) (packet : Packet) → packet_at before at ≡ Some packet → packet.from.member < members_of setup

-- the network keeps what these entries made, the newest first, and never wanted memory
pub record Keeps (network : Network) (setting : Setting) (before : List Noted) : Type 0 where
  pub given : network.setup ≡ setting.setup
  pub genesis : network.genesis ≡ setting.genesis
  pub alive : network.failed ≡ false
  pub clock : network.clock ≡ clock_of before
  pub hosts : HostsStand network.setup network.hosts.list.items (part_in setting before)
  pub records : RecordsStand network.records setting.setup before
  pub senders : AreOfMembers setting.setup before

-- the network, so set, made these entries, the newest first, and never wanted memory
pub record StandsFor (network : Network) (setting : Setting) (before : List Noted) : Type 0 where
  pub keeps : Keeps network setting before
  pub good : IsNone (first_bad setting.setup)
  pub ran : IsRun setting before
  pub typed : AreTyped before

-- the network made these entries. A run that was refused made none
abbrev pub MadeBy : Network → Setting → Result (List Noted) Refusal → Type 0
MadeBy network setting (Ok before) = StandsFor network setting before
MadeBy network setting (Err refusal) = ⊥

-- whether an earlier event wanted memory
unfoldable pub has_failed : Network → Bool
has_failed network = network.failed

-- what the reader of a transcript sees of an event
abbrev pub entered : Result Noted RunError → Result Entry RunError
entered (Ok noted) = Ok noted.entry
entered (Err error) = Err error

-- whatever entries the old network made, the new one made them and this event's, whose entry is this
abbrev pub Grows : Network → Network → Event → Entry → Type 0
Grows old new event entry =
    (setting : Setting) (before : List Noted) (noted : Noted) → StandsFor old setting before
    → entry_of setting before event ≡ Ok noted
    → StandsFor new setting (noted ∷ before)

-- whatever entries the network made, this is the event's
abbrev pub Enters : Network → Event → Entry → Type 0
Enters network event entry =
    (setting : Setting) (before : List Noted) → StandsFor network setting before
    → entered (entry_of setting before event) ≡ Ok entry

-- whatever entries the network made, this is why the event is refused
abbrev pub Refuses : Network → Event → RunError → Type 0
Refuses network event error =
    (setting : Setting) (before : List Noted) → StandsFor network setting before
    → entry_of setting before event ≡ Err error

-- whatever entries the old network made, the new one made them
abbrev pub Stays : Network → Network → Type 0
Stays old new = (setting : Setting) (before : List Noted) → StandsFor old setting before → StandsFor new setting before

-- the engine that is shown is the node's, and there is one exactly where its life runs
abbrev pub EngineOf : Part → Option NodeEngine → Type 0
EngineOf (Lives (Running made past)) (Some engine) = EngineStands engine made past
EngineOf (Lives (Running made past)) None = ⊥
EngineOf _ (Some engine) = ⊥
EngineOf _ None = Unit {0}

abbrev pub ShowsEngine : Network → Node → Option NodeEngine → Type 0
ShowsEngine network node engine =
    (setting : Setting) (before : List Noted) → StandsFor network setting before
    → EngineOf (if is_node setting.setup node then part_in setting before node else Lives (Stopped [])) engine

-- ---- the same words, where forgeries are looked for where they may be

-- whatever the old network keeps, the new one keeps it and this event's
abbrev pub Adds : Network → Network → Event → Type 0
Adds old new event =
    (setting : Setting) (before : List Noted) (noted : Noted) → Keeps old setting before
    → tested_of setting before event ≡ Ok noted
    → Keeps new setting (noted ∷ before)

-- whatever the network keeps, this is the event's
abbrev pub Gives : Network → Event → Entry → Type 0
Gives network event entry =
    (setting : Setting) (before : List Noted) → Keeps network setting before
    → entered (tested_of setting before event) ≡ Ok entry

-- whatever the network keeps, this is why the event is refused
abbrev pub Denies : Network → Event → RunError → Type 0
Denies network event error =
    (setting : Setting) (before : List Noted) → Keeps network setting before
    → tested_of setting before event ≡ Err error

-- whatever the old network keeps, the new one keeps it
abbrev pub Rests : Network → Network → Type 0
Rests old new = (setting : Setting) (before : List Noted) → Keeps old setting before → Keeps new setting before

-- what the node is at, or that it does not exist
abbrev pub Finds : Network → Node → Result Status RunError → Type 0
Finds network node result =
    (setting : Setting) (before : List Noted) → Keeps network setting before
    → result ≡ found_in setting.setup node (part_in setting before node)

abbrev pub Shows : Network → Node → Option NodeEngine → Type 0
Shows network node engine =
    (setting : Setting) (before : List Noted) → Keeps network setting before
    → EngineOf (if is_node setting.setup node then part_in setting before node else Lives (Stopped [])) engine

-- the node exists
abbrev pub Exists : Network → Node → Type 0
Exists network node = is_node network.setup node ≡ true

-- the node's life, where its member runs engines
abbrev pub LivesAs : Setting → List Noted → Node → Life → Type 0
LivesAs setting before node life = (runs_engine setting.setup node.member ≡ true) × (life_in setting before node ≡ life)

-- the same words of a start of a node
abbrev pub StartAdds : Network → Network → Node → Option Finalization → Stop → Type 0
StartAdds old new node floor stop =
    (setting : Setting) (before : List Noted) (life : Life) → Keeps old setting before
    → LivesAs setting before node life
    → Keeps new setting (noted_start setting before node floor stop life ∷ before)

abbrev pub StartGives : Network → Node → Option Finalization → Stop → Entry → Type 0
StartGives network node floor stop entry =
    (setting : Setting) (before : List Noted) (life : Life) → Keeps network setting before
    → LivesAs setting before node life
    → entry ≡ (noted_start setting before node floor stop life).entry

-- of an event that steps a node of a faulty member without an engine
abbrev pub FaultyAdds : Network → Network → Node → Event → Type 0
FaultyAdds old new node event =
    (setting : Setting) (before : List Noted) (noted : Noted) → Keeps old setting before
    → runs_engine setting.setup node.member ≡ false
    → tested_of setting before event ≡ Ok noted → Keeps new setting (noted ∷ before)

abbrev pub FaultyGives : Network → Node → Event → Entry → Type 0
FaultyGives network node event entry =
    (setting : Setting) (before : List Noted) → Keeps network setting before
    → runs_engine setting.setup node.member ≡ false → entered (tested_of setting before event) ≡ Ok entry

abbrev pub FaultyDenies : Network → Node → Event → RunError → Type 0
FaultyDenies network node event error =
    (setting : Setting) (before : List Noted) → Keeps network setting before
    → runs_engine setting.setup node.member ≡ false → tested_of setting before event ≡ Err error

abbrev pub FaultyRests : Network → Network → Node → Type 0
FaultyRests old new node =
    (setting : Setting) (before : List Noted) → Keeps old setting before → runs_engine setting.setup node.member ≡ false
    → Keeps new setting before

-- of a crash of a running node
abbrev pub HaltAdds : Network → Network → Node → Type 0
HaltAdds old new node =
    (setting : Setting) (before : List Noted) (life : Life) → Keeps old setting before
    → LivesAs setting before node life
    → Keeps new setting (noted_blank before (events.Crash node) (Some node) ∷ before)

-- of a step or a crash of a node that has no engine
abbrev pub IsIdle : Event → Node → Type 0
IsIdle event node =
    ((source : StepSource) × (stop : Stop) × (event ≡ events.Step node source stop)) ⊎ (event ≡ events.Crash node)

abbrev pub IdleAdds : Network → Network → Node → Type 0
IdleAdds old new node =
    (setting : Setting) (before : List Noted) (event : Event) → Keeps old setting before
    → runs_engine setting.setup node.member ≡ false → IsIdle event node
    → Keeps new setting (noted_idle before event node ∷ before)

-- the entry of an event that does nothing
abbrev pub BlankGives : Network → Option Node → Outcome → Entry → Type 0
BlankGives network who outcome entry =
    (setting : Setting) (before : List Noted) → Keeps network setting before
    → entry ≡ record (blank_entry (length before + 1) who) { outcome = outcome }

-- ---- tests

-- whatever entries the records stand for, nothing in the packets of one more is forged
abbrev pub IsUnforged : Setup → Records → List Packet → Type 0
IsUnforged setup records packets =
    (before : List Noted) (noted : Noted) → RecordsStand records setup before → noted.entry.packets ≡ packets
    → unless_forged setup before (Ok noted) ≡ Ok noted

-- or this is why one is refused
abbrev pub IsForgedAs : Setup → Records → List Packet → RunError → Type 0
IsForgedAs setup records packets error =
    (before : List Noted) (noted : Noted) → RecordsStand records setup before → noted.entry.packets ≡ packets
    → unless_forged setup before (Ok noted) ≡ Err error

-- what a node of a faulty member without an engine says is tested where it may be forged
abbrev pub heard_test : Setup → List Noted → Node → Noted → Result Noted RunError
heard_test setup before node noted =
    if is_of_kind is_impersonator setup node.member then unless_forged setup before (Ok noted) else Ok noted

abbrev pub IsPassed : Setup → Records → Node → List Packet → Type 0
IsPassed setup records node packets =
    (before : List Noted) (noted : Noted) → RecordsStand records setup before → noted.entry.packets ≡ packets
    → heard_test setup before node noted ≡ Ok noted

abbrev pub IsStopped : Setup → Records → Node → List Packet → RunError → Type 0
IsStopped setup records node packets error =
    (before : List Noted) (noted : Noted) → RecordsStand records setup before → noted.entry.packets ≡ packets
    → heard_test setup before node noted ≡ Err error
