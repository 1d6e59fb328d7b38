-- A node's life, read from the entries so far, the newest first.
use Rattle.std.specs.Prelude.{ℕ, ◌+◌, Bool, false, List, [], ◌∷◌, Option, Some, None, if◌then◌else◌}
use Rattle.simplex_journal.specs.Journal.{Section, crashed}
use Rattle.simplex_transcript.specs.declared.event.Event.{Event}
use Rattle.simplex_transcript.specs.declared.event.Event.TheVariants as events
use Rattle.simplex_transcript.specs.declared.entry.Entry.{Entry}
use Rattle.simplex_transcript.specs.declared.node.Node.{Node}
use Rattle.model_steps.specs.Engine.{EngineMade, Did, runs, sections_of}
use Rattle.model_run.specs.Setting.{Setting}
use Rattle.model_run.specs.Members.{is_same_node, floor_of, engine_of}

-- what an event did: its entry, and for a node that runs an engine what the engine did
pub record Noted : Type 0 where
  pub event : Event
  pub entry : Entry
  pub did : Option Did

-- a node is stopped, with what its journal holds, or its engine runs: what it was made with, and its history
pub data Life : Type 0 where
  Stopped : (sections : List Section) → Life
  Running : (made : EngineMade) (past : List Did) → Life

-- the clock: how long all ticks took
unfoldable pub clock_of : List Noted → ℕ
clock_of [] = 0
clock_of (noted ∷ before) = after_tick noted.event (clock_of before)
  where
    after_tick : Event → ℕ → ℕ
    after_tick (events.Tick ms) clock = clock + ms
    after_tick _ clock = clock

-- whether the event is one of the node
abbrev pub is_of : Node → Event → Bool
is_of node (events.Start at floor stop) = is_same_node at node
is_of node (events.Deliver at packet) = is_same_node at node
is_of node (events.Step at source stop) = is_same_node at node
is_of node (events.Answer at request answer) = is_same_node at node
is_of node (events.Crash at) = is_same_node at node
is_of node _ = false

-- what a journal holds when its node is stopped
abbrev pub sections_in : Life → List Section
sections_in (Stopped sections) = sections
sections_in (Running made past) = sections_of made past

-- the engine goes on, unless a step was broken
abbrev pub going_on : EngineMade → List Did → Life
going_on made past = if runs past then Running made past else Stopped (sections_of made past)

abbrev pub went_on : Did → Life → Life
went_on did (Stopped sections) = Stopped sections
went_on did (Running made past) = going_on made (did ∷ past)

-- what an event makes of the life of its node
unfoldable pub after : Setting → Event → Option Did → Life → Life
after setting (events.Start node floor stop) (Some did) life =
    going_on (engine_of setting node.member (floor_of setting.genesis floor) (sections_in life)) (did ∷ [])
after setting (events.Crash node) did life = Stopped (crashed 0 (sections_in life))
after setting event (Some did) life = went_on did life
after setting event None life = life

unfoldable pub life_in : Setting → List Noted → Node → Life
life_in setting [] node = Stopped []
life_in setting (noted ∷ before) node =
    if is_of node noted.event then after setting noted.event noted.did (life_in setting before node)
    else life_in setting before node
