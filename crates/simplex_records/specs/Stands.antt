-- Which entries the records stand for.
use Rattle.std.specs.Prelude.{◌≡◌, ◌+◌, ℕ, Bool, false, List, ◌∷◌, length, Option, Some}
use Rattle.std.specs.List.{slice_get}
use Rattle.simplex_wire.specs.declared.certificate.Finalization.{Finalization}
use Rattle.simplex_messages.specs.declared.step.Outcome.{Outcome}
use Rattle.simplex_messages.specs.declared.step.StepOut.{StepOut}
use Rattle.simplex_transcript.specs.declared.entry.Entry.{Entry}
use Rattle.simplex_transcript.specs.declared.entry.Packet.{Packet}
use Rattle.simplex_transcript.specs.declared.entry.Took.{Took}
use Rattle.simplex_transcript.specs.declared.node.Node.{Node}
use Rattle.simplex_transcript.specs.declared.node.Ref.{Ref}
use Rattle.simplex_transcript.specs.declared.setup.Setup.{Setup}
use Rattle.model_steps.specs.Engine.{Did}
use Rattle.model_run.specs.Kinds.{is_honest}
use Rattle.model_run.specs.Life.{Noted}
use Rattle.model_run.specs.Requests.{is_start, packet_at}
use Rattle.model_run.specs.Entries.{was_reported, entry_with}
use Rattle.simplex_records.specs.declared.requests.Requests.{Requests}
use Rattle.simplex_records.specs.declared.records.Records.{Records}
use Rattle.simplex_records.specs.Seats.{seat_of, node_at}
use Rattle.simplex_records.specs.Packets.{packet_in}
use Rattle.simplex_records.specs.Requests.{RequestsStand}
use Rattle.simplex_records.specs.Reported.{has_reported}
use Rattle.simplex_records.specs.Votes.{VotesStand}
use Rattle.simplex_records.specs.Events.{IsOf, AreFrom}

-- how many nodes have a seat
unfoldable pub seats_in : Records → ℕ
seats_in records = length records.desks.items

-- the requests of the node at each seat are kept
unfoldable pub DesksStand : List Requests → List Noted → Type 0
DesksStand desks before =
    (at : ℕ) (desk : Requests) → slice_get desks at ≡ Some desk → RequestsStand desk before (node_at at)

-- the records of a run that is so set up keep these entries, the newest first
pub record RecordsStand (records : Records) (setup : Setup) (before : List Noted) : Type 0 where
  pub count : length records.packets.items ≡ length before
  pub packets : (at : Ref) → packet_in records.packets.items at ≡ packet_at before at
  pub desks : DesksStand records.desks.items before
  pub reported : (f : Finalization) → has_reported records.reported f ≡ was_reported setup before f
  pub votes : VotesStand records.votes setup before

-- whatever setup and entries the records stand for, this is the rule's answer at them
abbrev pub Answers : {A : Type 0} → Records → (Setup → List Noted → A) → A → Type 0
Answers records rule answer =
    (setup : Setup) (before : List Noted) → RecordsStand records setup before → answer ≡ rule setup before

-- the same in this setup
abbrev pub AnswersIn : {A : Type 0} → Records → Setup → (List Noted → A) → A → Type 0
AnswersIn records setup rule answer = (before : List Noted) → RecordsStand records setup before → answer ≡ rule before

-- whatever entries the records stand for, this is the entry of what an engine of the node did behind them
abbrev pub Enters : Records → Setup → Node → Option Took → StepOut → Outcome → Entry → Type 0
Enters records setup node took out outcome entry =
    (before : List Noted) (did : Did) → RecordsStand records setup before → did.out ≡ out → did.outcome ≡ outcome
    → entry ≡ entry_with setup (length before + 1) node took did

-- whatever entries the old records stand for, the new ones stand for them and this one of an event of the node
abbrev pub TakesIn : Records → Records → Setup → Node → Bool → Entry → Type 0
TakesIn old new setup node starts entry =
    (before : List Noted) (noted : Noted) → noted.entry ≡ entry → IsOf noted.event (seat_of node) starts
    → RecordsStand old setup before → RecordsStand new setup (noted ∷ before)

-- the same of each entry that has these packets, and the requests and calls that a step of the node gave
abbrev pub TakesInStep : Records → Records → Setup → Node → Bool → List Packet → StepOut → Type 0
TakesInStep old new setup node starts packets out =
    (entry : Entry) → entry.who ≡ Some node → entry.packets ≡ packets → entry.asked ≡ out.asked
    → entry.calls ≡ out.calls
    → TakesIn old new setup node starts entry

-- the same of an entry in which nothing happens, of an event that is no start
abbrev pub PassesBy : Records → Records → Entry → Type 0
PassesBy old new entry =
    (setup : Setup) (before : List Noted) (noted : Noted) → noted.entry ≡ entry → is_start noted.event ≡ false
    → RecordsStand old setup before → RecordsStand new setup (noted ∷ before)

-- the same of an entry of packets that no engine made, and that are a faulty member's. The event may be one of its
-- node, which is no start, or one of no node
abbrev pub Speaks : Records → Records → Node → List Packet → Entry → Type 0
Speaks old new node packets entry =
    (setup : Setup) (before : List Noted) (noted : Noted) → noted.entry ≡ entry → is_start noted.event ≡ false
    → is_honest setup node.member ≡ false → AreFrom node packets
    → RecordsStand old setup before → RecordsStand new setup (noted ∷ before)

-- whatever entries these are kept of, they are kept of them and of one more whose packets are these, of the node
abbrev pub TakesInPackets : Node → List Packet → (Old New : List Noted → Type 0) → Type 0
TakesInPackets node packets Old New =
    (before : List Noted) (noted : Noted) → noted.entry.packets ≡ packets → AreFrom node packets → Old before
    → New (noted ∷ before)
