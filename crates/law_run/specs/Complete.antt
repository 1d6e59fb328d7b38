-- Which setups and events make a transcript.
use Rattle.std.specs.Prelude.{◌≡◌, ℕ, ◌+◌, true, List, [], ◌∷◌, ◌++◌, length, Option, Some, None, Ok, IsNone}
use Rattle.simplex_transcript.specs.declared.entry.Entry.{Entry}
use Rattle.simplex_transcript.specs.declared.event.Event.{Event}
use Rattle.simplex_transcript.specs.declared.event.Event.TheVariants as events
use Rattle.simplex_transcript.specs.declared.node.Node.{Node}
use Rattle.simplex_transcript.specs.declared.setup.Setup.{Setup}
use Rattle.model_run.specs.Setting.{Setting}
use Rattle.model_run.specs.Life.{Noted}
use Rattle.model_run.specs.Entries.{node_of}
use Rattle.model_run.specs.Setups.{first_bad}
use Rattle.model_run.specs.Run.{are_few, run, RunFrom}
use Rattle.law_run.specs.Conditions.{Meets}

-- the node that an event names
abbrev pub node_named : Event → Option Node
node_named (events.Start node floor stop) = Some node
node_named (events.Tick ms) = None
node_named (events.Deliver node at) = Some node
node_named (events.Step node source stop) = Some node
node_named (events.Answer node at answer) = Some node
node_named (events.Crash node) = Some node
node_named (events.Inject member channel to bytes) = Some (node_of member)

-- the entry has this number, and is of the node that the event names
pub record IsEntryOf (number : ℕ) (event : Event) (entry : Entry) : Type 0 where
  pub counted : entry.event ≡ number
  pub who : entry.who ≡ node_named event

-- from this number on, one entry for each event, in their order
unfoldable pub AreEach : ℕ → List Event → List Entry → Type 0
AreEach number [] [] = Unit {0}
AreEach number (event ∷ events) (entry ∷ entries) = IsEntryOf number event entry × AreEach (number + 1) events entries
AreEach number _ _ = ⊥

-- as many entries as events, of which each is one
pub record IsOneEach (entries : List Entry) (events : List Event) : Type 0 where
  pub count : length entries ≡ length events
  pub each : AreEach 1 events entries

-- none of the setup's items breaks its limit, and there are no more events than may be
pub record IsValid (setup : Setup) (events : List Event) : Type 0 where
  pub few : are_few setup events ≡ true
  pub good : IsNone (first_bad setup)

-- wherever the first of the events make entries, the next one meets its conditions on them
unfoldable pub MeetAll : Setting → List Event → Type 0
MeetAll setting events =
    (first : List Event) (next : Event) (rest : List Event) (before : List Noted)
    → events ≡ first ++ next ∷ rest → run setting [] first ≡ Ok before → Meets setting before next

-- the setup is valid, and each event meets its conditions
pub record IsPossible (setting : Setting) (events : List Event) : Type 0 where
  pub valid : IsValid setting.setup events
  pub met : MeetAll setting events

-- they have a run: it is not refused
abbrev pub HasRun : Setting → List Event → Type 0
HasRun setting events = (entries : List Entry) × (RunFrom setting events ≡ Ok entries)
