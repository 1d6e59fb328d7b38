-- What stands in the entries before an event.
use Rattle.std.specs.Prelude.{◌≡◌, ℕ, ◌+◌, ◌<◌, true, false, List, ◌∷◌, ◌++◌, length, All, Contains, Some}
use Rattle.std.specs.List.{slice_get}
use Rattle.simplex_wire.specs.declared.certificate.Finalization.{Finalization}
use Rattle.simplex_types.specs.declared.activity.Activity.TheVariants as activities
use Rattle.simplex_messages.specs.declared.call.Call.TheVariants as calls
use Rattle.simplex_transcript.specs.declared.entry.Packet.{Packet}
use Rattle.simplex_transcript.specs.declared.node.Node.{Node}
use Rattle.simplex_transcript.specs.declared.node.Ref.{Ref}
use Rattle.simplex_transcript.specs.declared.setup.Setup.{Setup}
use Rattle.model_run.specs.Life.{Noted, is_of}
use Rattle.model_run.specs.Entries.{is_of_honest}
use Rattle.model_run.specs.Requests.{is_start, first_number}

-- The entry of this number, with those that came earlier and those that came later. The newest entry stands first
pub record IsEntry (before : List Noted) (number : ℕ) (noted : Noted) (earlier later : List Noted) : Type 0 where
  pub stands : before ≡ later ++ noted ∷ earlier
  pub place : number ≡ length earlier + 1

-- an entry of an honest member reported this very finalization
pub record IsReported (setup : Setup) (before : List Noted) (f : Finalization) : Type 0 where
  pub noted : Noted
  pub stands : Contains before noted
  pub honest : is_of_honest setup noted.entry.who ≡ true
  pub reports : Contains noted.entry.calls (calls.Report (activities.Finalization f))

-- an entry has a packet at this place, and the node is among those to whom it goes
pub record IsSentTo (before : List Noted) (at : Ref) (node : Node) (packet : Packet) : Type 0 where
  pub noted : Noted
  pub earlier : List Noted
  pub later : List Noted
  pub entry : IsEntry before at.event noted earlier later
  pub holds : slice_get noted.entry.packets at.place ≡ Some packet
  pub to : Contains packet.to node

-- the event is no start of the node
abbrev pub IsNoStart : Node → Noted → Type 0
IsNoStart node noted = is_of node noted.event ≡ true → is_start noted.event ≡ false

-- An entry of the node asked a request at this place, and the node did not start again. Its number is how many the node
-- had asked before it, since the start
pub record IsAsked (before : List Noted) (at : Ref) (node : Node) (number : ℕ) : Type 0 where
  pub noted : Noted
  pub earlier : List Noted
  pub later : List Noted
  pub entry : IsEntry before at.event noted earlier later
  pub of : is_of node noted.event ≡ true
  pub place : at.place < length noted.entry.asked
  pub since : All (IsNoStart node) later
  pub counted : number ≡ first_number noted earlier node + at.place
