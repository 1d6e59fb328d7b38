-- Seats and nodes.
use Rattle.std.proofs.Common.{◌≡◌, ℕ, ◌+◌, ◌*◌, ◌/◌, ◌%◌, ◌<◌, true, arith, refl}
use Rattle.std.specs.Prelude.{◌==◌, ◌&&◌}
use Rattle.std.proofs.lemmas.Grind.{common_steps}
use Rattle.std.proofs.lemmas.Bool.Decides.{nat_tests}
use Rattle.simplex_transcript.specs.declared.node.Node.{Node}
use Rattle.model_run.specs.Kinds.{is_same_node}
use Rattle.simplex_records.specs.Seats.{seat_of, node_at}

node_is : (a b c d : ℕ) → a ≡ c → b ≡ d → ◌≡◌ {A = Node} (record { member = a; half = b }) (record { member = c; half = d })
node_is a b c d e f = rw (e, f) refl

-- the node that sits at a node's seat is that node
pub seated : (node : Node) → node.half < 2 → node_at (seat_of node) ≡ node
unfolding node_at
seated node half =
    node_is ((2 * node.member + node.half) / 2) ((2 * node.member + node.half) % 2) node.member node.half (grind arith) (grind arith)

tests : (member half at : ℕ) → half < 2 → (member == at / 2 && half == at % 2) ≡ (2 * member + half == at)
tests member half at small = grind (arith, nat_tests)

-- a node is the one at a seat exactly where it sits there
pub same-seat : (node : Node) (at : ℕ) → node.half < 2 → is_same_node node (node_at at) ≡ (seat_of node == at)
unfolding node_at
same-seat node at half = tests node.member node.half at half

-- the test that a seat is itself
pub own-seat : (seat : ℕ) → (seat == seat) ≡ true
own-seat seat = grind (arith, common_steps)
