use Rattle.std.proofs.Common.{ℕ, ◌+◌, ◌*◌, ◌≤◌, List, ◌++◌, length}
use Rattle.json.specs.Token.{Token}
use Rattle.serde_json.specs.Data.{Members}
use Rattle.serde_json.specs.View.{items_view, members_view}
use Rattle.serde_json.specs.declared.value.Value.{Value}
use Rattle.simplex_form.specs.Stream.{ReadsItems, ReadsMembers}
use Rattle.simplex_form.proofs.values.+next_value.Given as goal

abbrev pub decreases-next_value : goal.decreases-next_value
decreases-next_value l = 2 * l.depth

abbrev pub decreases-next_items : goal.decreases-next_items
decreases-next_items l = 2 * l.depth + 1

abbrev pub decreases-rest_of_members : goal.decreases-rest_of_members
decreases-rest_of_members l = 2 * l.depth + 1

-- whatever items the rest begins with, the whole began with those found and then these
abbrev pub invariant-next_items-items : goal.invariant-next_items-items
invariant-next_items-items l =
    (n : ℕ) × (length l.reader ≤ n) × (length l.reader ≤ length l.initial.reader)
    × ((vs : List Value) (rest : List Token) → ReadsItems l.depth n l.reader (items_view vs) rest
    → ReadsItems l.depth (length l.initial.reader) l.initial.reader (items_view (l.found.items ++ vs)) rest)

abbrev pub decreases-next_items-items : goal.decreases-next_items-items
decreases-next_items-items l = length l.reader

abbrev pub invariant-rest_of_members-members : goal.invariant-rest_of_members-members
invariant-rest_of_members-members l =
    (length l.reader ≤ length l.initial.reader)
    × ((most : ℕ) → length l.initial.reader ≤ most → (n : ℕ) × (length l.reader ≤ n)
    × ((ms : Members) (rest : List Token) → ReadsMembers l.depth n l.reader (members_view l.found.entries) ms rest
    → ReadsMembers l.depth most l.initial.reader (members_view l.initial.found.entries) ms rest))

abbrev pub decreases-rest_of_members-members : goal.decreases-rest_of_members-members
decreases-rest_of_members-members l = length l.reader
