-- What is kept of a node.
use Rattle.std.specs.Prelude.{◌≡◌, ℕ, ◌<◌, ◌≤◌, nat_le, ◌&&◌, ◌||◌, Bool, false, List, length, Some, if◌then◌else◌}
use Rattle.std.specs.Option.{option_map_or}
use Rattle.simplex_values.specs.Maps.{found}
use Rattle.simplex_messages.specs.declared.step.Outcome.{Outcome}
use Rattle.simplex_transcript.specs.declared.event.Event.{Event}
use Rattle.simplex_transcript.specs.declared.node.Node.{Node}
use Rattle.model_run.specs.Life.{Noted}
use Rattle.model_run.specs.Requests.{is_start}
use Rattle.simplex_records.specs.Requests.{RequestsStand}
use Rattle.model_audit.specs.Conditions.{was_dropped}
use Rattle.model_audit.specs.Running.{runs_at, is_done, is_broken, is_crash}
use Rattle.simplex_case.specs.declared.desk.Desk.{Desk}

-- whether a request of this number was dropped in this event or since
unfoldable pub drops_since : Desk → ℕ → ℕ → Bool
drops_since desk event number = option_map_or (λ last. nat_le event last) (found desk.dropped number) false

-- whether the node runs behind an event of its own
abbrev pub runs_behind : Bool → Event → Outcome → Bool
runs_behind runs event outcome =
    if is_start event || is_crash event || is_broken outcome then is_start event && is_done outcome else runs

-- its requests, whether it runs, and which requests it dropped
pub record DeskStands (desk : Desk) (before : List Noted) (node : Node) : Type 0 where
  pub requests : RequestsStand desk.requests before node
  pub runs : desk.runs ≡ runs_at before node
  pub dropped : (event number : ℕ) → 0 < event → event ≤ length before → drops_since desk event number ≡ was_dropped before node event number
  pub bound : (number last : ℕ) → found desk.dropped number ≡ Some last → last ≤ length before
