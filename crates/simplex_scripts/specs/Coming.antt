-- What comes up between nodes by itself.
use Rattle.std.specs.Prelude.{◌&&◌, Bool, true, false, not, List, [], ◌∷◌, find, map, Option, if◌then◌else◌}
use Rattle.std.specs.List.{flat_map, list_any, range_with_len, slice_get}
use Rattle.std.specs.Option.{option_map, option_or}
use Rattle.simplex_transcript.specs.declared.event.Event.{Event}
use Rattle.simplex_transcript.specs.declared.node.Node.{Node}
use Rattle.simplex_transcript.specs.declared.setup.MemberKind.{MemberKind}
use Rattle.simplex_transcript.specs.declared.setup.MemberKind.TheVariants as kinds
use Rattle.simplex_transcript.specs.declared.setup.Setup.{Setup}
use Rattle.model_run.specs.Kinds.{is_node, is_of_kind, is_same_node, members_of, nodes_at, runs_engine}
use Rattle.model_run.specs.Life.{Noted, clock_of, life_in}
use Rattle.model_run.specs.Setting.{Setting}
use Rattle.simplex_generator.specs.declared.source.Held.{Held}
use Rattle.simplex_generator.specs.declared.unanswered.Unanswered.{Unanswered}
use Rattle.simplex_generator.specs.Drawing.{step}
use Rattle.simplex_generator.specs.Generated.{held_at, runs}
use Rattle.simplex_generator.specs.Unanswered.{unanswered}
use Rattle.simplex_script.specs.declared.planning.OpenRequest.{OpenRequest}
use Rattle.simplex_script.specs.declared.post.Parcel.{Parcel}
use Rattle.simplex_script.specs.Planning.{delivery, judged, wants_verdict}

-- the nodes of a setup, by member, then half
abbrev pub nodes_of : Setup → List Node
nodes_of setup = flat_map (nodes_at setup) (range_with_len 0 (members_of setup))

-- the node is one of these; each node is, where none is named
abbrev pub is_among : List Node → Node → Bool
is_among [] node = true
is_among (one ∷ others) node = list_any (is_same_node node) (one ∷ others)

-- ---- a step

-- what the engine of a node holds, where the node is among these
abbrev pub held_among : Setting → List Noted → List Node → Node → List Held
held_among setting before among node =
    if is_among among node then held_at (life_in setting before node) (clock_of before) node else []

-- the first source that holds something, by node, then in order
unfoldable pub next_step : Setting → List Noted → List Node → Option Event
next_step setting before among =
    option_map step (slice_get (flat_map (held_among setting before among) (nodes_of setting.setup)) 0)

-- ---- a verdict

abbrev pub as_open : Unanswered → OpenRequest
as_open it = record { node = it.node; request = it.request; asked = it.asked }

-- the requests that are open, by event, then place
abbrev pub open_in : List Noted → List OpenRequest
open_in before = map as_open (unanswered before)

abbrev pub wants_verdict_among : List Node → OpenRequest → Bool
wants_verdict_among among it = is_among among it.node && wants_verdict it

-- the oldest request for a verdict is answered by yes
abbrev pub next_verdict : List OpenRequest → List Node → Option Event
next_verdict open_ among = option_map (judged true) (find (wants_verdict_among among) open_)

-- ---- a delivery

abbrev pub is_silent : MemberKind → Bool
is_silent kinds.Silent = true
is_silent _ = false

-- what is delivered to the node may come to something: its engine runs, or it has none and says something
abbrev pub hears : Setting → List Noted → Node → Bool
hears setting before node =
    if runs_engine setting.setup node.member then runs (life_in setting before node)
    else is_of_kind (λ kind. not (is_silent kind)) setting.setup node.member

-- the parcel goes between the nodes, to one that hears
abbrev pub may_come : Setting → List Noted → List Node → Parcel → Bool
may_come setting before among it =
    (is_among among it.from && is_among among it.to) && (is_node setting.setup it.to && hears setting before it.to)

-- the oldest packet is delivered
unfoldable pub next_delivery : Setting → List Noted → List Parcel → List Node → Option Event
next_delivery setting before waiting among = option_map delivery (find (may_come setting before among) waiting)

-- ---- any of them

-- what comes up next: a step, else a verdict, else a delivery
unfoldable pub next : Setting → List Noted → List Parcel → List Node → Option Event
next setting before waiting among =
    option_or (next_step setting before among)
    (option_or (next_verdict (open_in before) among) (next_delivery setting before waiting among))
