-- What comes of the events of a group.
use Rattle.std.specs.Prelude.{◌≡◌, ℕ, ◌+◌, List, [], ◌∷◌, length, map, reverse, Result, Ok, Err}
use Rattle.simplex_transcript.specs.declared.event.Event.{Event}
use Rattle.simplex_transcript.specs.declared.entry.Entry.{Entry}
use Rattle.simplex_transcript.specs.declared.node.Node.{Node}
use Rattle.simplex_transcript.specs.declared.setup.Setup.{Setup}
use Rattle.model_run.specs.Setting.{Setting, at_epoch_genesis}
use Rattle.simplex_transcript.specs.declared.refusal.Refusal.{Refusal}
use Rattle.model_run.specs.Life.{Noted}
use Rattle.model_run.specs.Run.{run, transcript_of, unless_bad}
use Rattle.model_run.specs.Setups.{first_bad}
use Rattle.model_run.specs.Groups.{node_stepped, with_named, AllJoin}
use Rattle.simplex_network.specs.declared.network.Network.{Network}
use Rattle.simplex_network.specs.Stands.{MadeBy, StandsFor}
use Rattle.simplex_network.specs.Lending.{StandsBut, IsReady, IsStepped}
use Rattle.simplex_par.specs.declared.lanes.Dealt.{Dealt}
use Rattle.simplex_par.specs.declared.lanes.Lane.{Lane}
use Rattle.simplex_par.specs.Lanes.{LanesHold}

-- in order of events
abbrev pub in_order : List Noted → List Entry
in_order before = reverse (map (λ (n : Noted). n.entry) before)

-- the network is what the events make of the setup
abbrev pub MadeOf : Network → Setup → List Event → Type 0
MadeOf network setup events = MadeBy network (at_epoch_genesis setup) (run (at_epoch_genesis setup) [] events)

-- the entries that the events make of the setup, or the first refusal, where there are no more events than may be
abbrev pub run_of_few : Setup → List Event → Result (List Entry) Refusal
run_of_few setup events = unless_bad (first_bad setup) (transcript_of (run (at_epoch_genesis setup) [] events))

-- the nodes that the events step
abbrev pub names_of : List Event → List Node
names_of [] = []
names_of (event ∷ events) = with_named (names_of events) (node_stepped event)

-- whatever entries the old network made: the events of the group, which stand apart behind them, make these entries more
pub record Made (new : Network) (setting : Setting) (before : List Noted) (group : List Event)
    (olds news : List Entry) : Type 0 where
  pub here : List Noted
  pub ran : run setting before group ≡ Ok here
  pub stands : StandsFor new setting here
  pub entries : in_order before ≡ olds → in_order here ≡ news

abbrev pub GroupMakes : Network → Network → List Event → List Entry → List Entry → Type 0
GroupMakes old new group olds news =
    (setting : Setting) (before : List Noted) → StandsFor old setting before → AllJoin setting.setup before [] group
    → Made new setting before group olds news

-- or this is the first refusal
abbrev pub GroupRefuses : Network → List Event → ℕ → Refusal → Type 0
GroupRefuses old group first refusal =
    (setting : Setting) (before : List Noted) → StandsFor old setting before → AllJoin setting.setup before [] group
    → first ≡ length before + 1 → run setting before group ≡ Err refusal

-- ---- the same in parts

-- the task waits for the event's step behind these entries, or made it
abbrev pub Ready : Setting → List Noted → Event → Dealt → Type 0
Ready setting before event dealt = IsReady setting before event dealt.task

abbrev pub Stepped : Setting → List Noted → Event → Dealt → Type 0
Stepped setting before event dealt = IsStepped setting before event dealt.task

-- whatever entries the old network made: the nodes of the events are lent, and each task waits for its step behind those
-- entries
abbrev pub LendsAll : Network → Network → List Event → ℕ → List Lane → Type 0
LendsAll old new group workers lanes =
    (setting : Setting) (before : List Noted) → StandsFor old setting before → AllJoin setting.setup before [] group
    → StandsBut (names_of group) new setting before × LanesHold (Ready setting before) workers 0 group lanes

-- the tasks that made their steps behind these entries are entered
abbrev pub EntersAll : Network → Network → List Event → List Lane → List Entry → List Entry → Type 0
EntersAll old new group lanes olds news =
    (setting : Setting) (before : List Noted) → StandsBut (names_of group) old setting before
    → AllJoin setting.setup before [] group
    → LanesHold (Stepped setting before) (length lanes) 0 group lanes → Made new setting before group olds news

abbrev pub RefusesOne : Network → List Event → List Lane → ℕ → Refusal → Type 0
RefusesOne old group lanes first refusal =
    (setting : Setting) (before : List Noted) → StandsBut (names_of group) old setting before
    → AllJoin setting.setup before [] group → first ≡ length before + 1
    → LanesHold (Stepped setting before) (length lanes) 0 group lanes → run setting before group ≡ Err refusal
