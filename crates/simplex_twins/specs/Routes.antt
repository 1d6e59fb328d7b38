-- Which halves of a twin a message reaches.
use Rattle.std.specs.Prelude.{ℕ, ◌==◌, Bool, true, false, List, position, Option, Some, None}
use Rattle.std.specs.List.{list_any}
use Rattle.simplex_values.specs.declared.plan.SplitTarget.{SplitTarget}
use Rattle.simplex_values.specs.declared.plan.SplitTarget.TheVariants as targets
use Rattle.simplex_twins.specs.Masks.{has}
use Rattle.simplex_twins.specs.Script.{ScriptedRound, round_at}
use Rattle.simplex_twins.specs.Partitions.{view_partitions}

-- by whether it reaches the first half, and the second
abbrev pub target_of : Bool → Bool → SplitTarget
target_of true true = targets.Both
target_of true false = targets.Primary
target_of false true = targets.Secondary
target_of false false = targets.None

-- the first place of a member in the list, if it is there
abbrev pub place_of : ℕ → List ℕ → Option ℕ
place_of member members = position (λ m. m == member) members

-- the halves whose masks have the place, and without a place none
abbrev pub target_at : ScriptedRound → Option ℕ → SplitTarget
target_at round None = targets.None
target_at round (Some place) = target_of (has round.primary place) (has round.secondary place)

-- the halves that the member at this place reaches in a scripted round, and without one both
abbrev pub route_in : Option ScriptedRound → Option ℕ → SplitTarget
route_in None place = targets.Both
route_in (Some round) place = target_at round place

-- the halves that the sender reaches at a view
unfoldable pub route : List ScriptedRound → ℕ → ℕ → ℕ → List ℕ → SplitTarget
route script length view sender members = route_in (round_at script length view) (place_of sender members)

abbrev pub is_among : ℕ → List ℕ → Bool
is_among member members = list_any (λ m. m == member) members

-- without a script: the halves in whose parts of the list the sender is
unfoldable pub view_route : ℕ → ℕ → ℕ → List ℕ → SplitTarget
view_route length view sender members =
    (let parts = view_partitions length view members in target_of (is_among sender parts.0) (is_among sender parts.1))
