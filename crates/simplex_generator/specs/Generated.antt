-- The events that a number makes, drawn by random words.
use Rattle.std.specs.Prelude.{ℕ, zero, suc, ◌+◌, Bool, true, false, List, [], ◌∷◌, map, filter, Result, Ok, Err, if◌then◌else◌}
use Rattle.std.specs.List.{flat_map}
use Rattle.simplex_transcript.specs.declared.event.Event.{Event}
use Rattle.simplex_transcript.specs.declared.event.StepSource.{StepSource}
use Rattle.simplex_transcript.specs.declared.node.Node.{Node}
use Rattle.simplex_transcript.specs.declared.refusal.RunError.{RunError}
use Rattle.simplex_engine.specs.Holding.{holds}
use Rattle.model_run.specs.Setting.{Setting, at_epoch_genesis}
use Rattle.model_run.specs.Kinds.{runs_engine}
use Rattle.model_run.specs.Life.{Noted, Life, Stopped, Running, clock_of, life_in}
use Rattle.model_run.specs.Entries.{entry_of}
use Rattle.simplex_generator.specs.declared.source.Held.{Held}
use Rattle.simplex_generator.specs.Setup.{setup_of, all_nodes, engine_nodes}
use Rattle.simplex_generator.specs.Drawing.{Drawn, all_sources, next_event}

-- whether a node is given packets: its engine runs, or it has none
abbrev pub runs : Life → Bool
runs (Stopped sections) = false
runs (Running made past) = true

unfoldable pub is_running : Setting → List Noted → Node → Bool
is_running setting before node =
    if runs_engine setting.setup node.member then runs (life_in setting before node) else true

abbrev pub running_nodes : Setting → List Noted → List Node
running_nodes setting before = filter (is_running setting before) all_nodes

-- whether a source of a node's engine holds something at this clock
abbrev pub holds_at : Life → ℕ → StepSource → Bool
holds_at (Stopped sections) now source = false
holds_at (Running made past) now source = holds made past source now

-- those of these sources of a node that do
abbrev pub held_of : Life → ℕ → Node → List StepSource → List Held
held_of life now node list = map (λ source. record { node = node; source = source }) (filter (holds_at life now) list)

-- of all its sources, in their order
abbrev pub held_at : Life → ℕ → Node → List Held
held_at life now node = held_of life now node all_sources

-- all that hold something, by node
unfoldable pub held : Setting → List Noted → List Held
held setting before = flat_map (λ node. held_at (life_in setting before node) (clock_of before) node) engine_nodes

-- the setup that a number makes, whose run begins at the epoch's genesis digest
abbrev pub setting_for : ℕ → Setting
setting_for number = at_epoch_genesis (setup_of number)

-- the event behind these entries, with words from this place on
unfoldable pub event_behind : ℕ → List Noted → ℕ → Drawn
event_behind number before at =
    next_event (running_nodes (setting_for number) before) (held (setting_for number) before) number before at

-- an event that is refused is the last
abbrev pub unless_refused : Result Noted RunError → (Noted → List Event) → List Event
unless_refused (Err error) behind = []
unless_refused (Ok noted) behind = behind noted

-- so many events behind these entries
unfoldable pub events_behind : ℕ → ℕ → List Noted → ℕ → List Event
events_behind number zero before at = []
events_behind number (suc left) before at =
    (let drawn = event_behind number before at in
    drawn.event ∷ unless_refused (entry_of (setting_for number) before drawn.event)
    (λ noted. events_behind number left (noted ∷ before) (at + drawn.words)))

-- the events that the number makes, so many of them
unfoldable pub generated : ℕ → ℕ → List Event
generated number count = events_behind number count [] 0
