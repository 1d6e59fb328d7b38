-- Which events are stepped at once.
use Rattle.std.specs.Prelude.{◌≡◌, ℕ, All, true, List, [], ◌++◌, take, drop, Some}
use Rattle.std.specs.BTreeSet.{BTreeSet}
use Rattle.simplex_transcript.specs.declared.event.Event.{Event}
use Rattle.simplex_transcript.specs.declared.node.Node.{Node}
use Rattle.simplex_transcript.specs.declared.setup.Setup.{Setup}
use Rattle.simplex_values.specs.Maps.{has}
use Rattle.model_run.specs.Kinds.{is_node, is_honest}
use Rattle.model_run.specs.Life.{Noted}
use Rattle.model_run.specs.Groups.{node_stepped, is_named, joined}
use Rattle.simplex_records.specs.Seats.{node_at}
use Rattle.simplex_records.specs.declared.records.Records.{Records}
use Rattle.simplex_records.specs.Stands.{RecordsStand}

-- the event steps this node, which is one of an honest member
pub record IsLendableAt (setup : Setup) (event : Event) (node : Node) : Type 0 where
  pub steps : node_stepped event ≡ Some node
  pub exists : is_node setup node ≡ true
  pub honest : is_honest setup node.member ≡ true

abbrev pub IsLendable : Setup → Event → Type 0
IsLendable setup event = (node : Node) × IsLendableAt setup event node

-- these are the seats of the nodes
abbrev pub AreSeats : BTreeSet ℕ → List Node → Type 0
AreSeats seats nodes = (at : ℕ) → has seats at ≡ is_named nodes (node_at at)

-- the first of the events, as many as this, are stepped at once, and those behind them join as far as they may beside
-- the nodes at these seats
pub record IsCutAt (setup : Setup) (records : Records) (seats : BTreeSet ℕ) (events : List Event)
    (size : ℕ) : Type 0 where
  pub nodes : List Node
  pub named : AreSeats seats nodes
  pub each : All (IsLendable setup) (take size events)
  pub rest : (before : List Noted) → RecordsStand records setup before
      → joined setup before [] events ≡ take size events ++ joined setup before nodes (drop size events)
