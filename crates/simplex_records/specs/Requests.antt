-- The requests that are kept of a node.
use Rattle.std.specs.Prelude.{◌≡◌, ℕ, ◌+◌, ◌-◌, nat_lt, Bool, List, length, map, Option, Some, None, if◌then◌else◌}
use Rattle.std.specs.List.{slice_get, range_with_len}
use Rattle.std.specs.Option.{option_and_then}
use Rattle.std.specs.Ordering.{nat_cmp}
use Rattle.std.specs.BTreeMap as tree
use Rattle.simplex_transcript.specs.declared.node.Node.{Node}
use Rattle.simplex_transcript.specs.declared.node.Ref.{Ref}
use Rattle.model_run.specs.Life.{Noted}
use Rattle.model_run.specs.Requests.{asked_since, request_number, request_place}
use Rattle.simplex_records.specs.declared.requests.Span.{Span}
use Rattle.simplex_records.specs.declared.requests.Requests.{Requests}

-- the number of the request at this place, where so many were asked with numbers from the first on
abbrev pub number_from : ℕ → ℕ → ℕ → Option ℕ
number_from first count place = if nat_lt place count then Some (first + place) else None

abbrev pub number_in_span : ℕ → Span → Option ℕ
number_in_span place span = number_from span.first (span.end - span.first) place

unfoldable pub number_in : Requests → Ref → Option ℕ
number_in requests at = option_and_then (number_in_span at.place) (tree.get nat_cmp requests.spans at.event)

-- the requests are those that the node asked since its last start
pub record RequestsStand (requests : Requests) (before : List Noted) (node : Node) : Type 0 where
  pub count : length requests.places.items ≡ asked_since before node
  pub number : (at : Ref) → number_in requests at ≡ request_number before node at
  pub place : (number : ℕ) → slice_get requests.places.items number ≡ request_place before node number

-- the same behind a start, which forgets them
pub record RequestsRest (requests : Requests) (starts : Bool) (before : List Noted) (node : Node) : Type 0 where
  pub count : length requests.places.items ≡ (if starts then 0 else asked_since before node)
  pub number : (at : Ref) → number_in requests at ≡ (if starts then None else request_number before node at)
  pub place : (number : ℕ) → slice_get requests.places.items number
      ≡ (if starts then None else request_place before node number)

-- the places of so many requests of an event
abbrev pub places_of : ℕ → ℕ → List Ref
places_of event count = map (λ place. record { event = event; place = place }) (range_with_len 0 count)
