-- Which requests were answered.
use Rattle.std.specs.Prelude.{◌≡◌, ◌-◌, ◌==◌, ◌<◌, ℕ, Bool, true, false, List, length, if◌then◌else◌}
use Rattle.std.specs.List.{slice_get}
use Rattle.std.specs.Option.{option_map_or, is_some}
use Rattle.std.specs.BTreeSet.{BTreeSet}
use Rattle.simplex_values.specs.Maps.{has}
use Rattle.simplex_transcript.specs.declared.event.Event.{Event}
use Rattle.simplex_transcript.specs.declared.event.Event.TheVariants as events
use Rattle.simplex_transcript.specs.declared.node.Node.{Node}
use Rattle.simplex_transcript.specs.declared.node.Ref.{Ref}
use Rattle.model_run.specs.Life.{Noted}
use Rattle.model_run.specs.Requests.{request_number}
use Rattle.model_audit.specs.Conditions.{was_answered}

-- whether the request at this place is marked
unfoldable pub is_marked : List (BTreeSet ℕ) → Ref → Bool
is_marked marks at = if at.event == 0 then false else option_map_or (λ places. has places at.place) (slice_get marks (at.event - 1)) false

-- of the requests that nodes asked since their last start, those that were answered are marked; nothing was answered ahead
pub record AnswersStand (marks : List (BTreeSet ℕ)) (before : List Noted) : Type 0 where
  pub count : length marks ≡ length before
  pub marked : (node : Node) (at : Ref) → is_some (request_number before node at) ≡ true → is_marked marks at ≡ was_answered before node at
  pub ahead : (node : Node) (at : Ref) → length before < at.event → was_answered before node at ≡ false

-- where the event answers a request, its node asked this since its last start
unfoldable pub IsOfRequest : List Noted → Event → Type 0
IsOfRequest before (events.Answer node at answer) = is_some (request_number before node at) ≡ true
IsOfRequest before event = Unit {0}
