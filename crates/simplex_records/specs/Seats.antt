-- One list for both halves of each member: where a node sits, and which node sits at a place.
use Rattle.std.specs.Prelude.{ℕ, ◌+◌, ◌*◌, ◌/◌, ◌%◌}
use Rattle.simplex_transcript.specs.declared.node.Node.{Node}

-- a member's halves sit side by side
abbrev pub seat_of : Node → ℕ
seat_of node = 2 * node.member + node.half

unfoldable pub node_at : ℕ → Node
node_at at = record { member = at / 2; half = at % 2 }
