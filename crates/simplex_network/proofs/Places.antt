-- Nodes that exist have a seat.
use Rattle.std.proofs.Common.{◌≡◌, ℕ, Bool, true, false, arith, refl, length, ◌<◌, ◌*◌, ◌/◌, ◌^◌, ltb-true, if◌then◌else◌}
use Rattle.std.specs.Prelude.{◌&&◌, nat_lt, List, IsNone}
use Rattle.simplex_transcript.specs.declared.node.Node.{Node}
use Rattle.simplex_transcript.specs.declared.setup.Setup.{Setup}
use Rattle.model_run.specs.Kinds.{is_node, is_twin}
use Rattle.model_run.specs.Setups.{first_bad}
use Rattle.simplex_members.proofs.Good.{good-few}
use Rattle.simplex_records.specs.Seats.{seat_of}
use Rattle.simplex_network.specs.declared.host.Host.{Host}
use Rattle.simplex_network.specs.Stands.{HasSeat}

both : (a b : Bool) → (a && b) ≡ true → (a ≡ true) × (b ≡ true)
both true b e = (refl, e)
both false b e = absurd (cc)

half_by : (b : Bool) (half : ℕ) → nat_lt half (if b then 2 else 1) ≡ true → half < 2
half_by true half e = ltb-true half 2 e
half_by false half e = let h = ltb-true half 1 e in omega (arith, h)

pub node-member : (setup : Setup) (node : Node) → is_node setup node ≡ true → node.member < length setup.members
node-member setup node e = ltb-true node.member (length setup.members) (both _ _ e).0

pub member-below : (setup : Setup) (member : ℕ) (rest : Bool) → (nat_lt member (length setup.members) && rest) ≡ true → member < length setup.members
member-below setup member rest e = ltb-true member (length setup.members) (both _ _ e).0

pub node-half : (setup : Setup) (node : Node) → is_node setup node ≡ true → node.half < 2
node-half setup node e = half_by (is_twin setup node.member) node.half (both _ _ e).1

pub node-seat : (setup : Setup) (node : Node) (count : ℕ) → is_node setup node ≡ true → count ≡ 2 * length setup.members → seat_of node < count
node-seat setup node count e is = omega (arith, is, node-member setup node e, node-half setup node e)

pub host-seat : (setup : Setup) (node : Node) (list : List Host) → is_node setup node ≡ true → length list ≡ 2 * length setup.members → HasSeat list node
host-seat setup node list e is = (node-half setup node e, node-seat setup node (length list) e is)

-- there are few members
pub node_small : (setup : Setup) (node : Node) → IsNone (first_bad setup) → is_node setup node ≡ true → node.member < 2 ^ 32
node_small setup node good e = let few = good-few setup good in omega (arith, few, node-member setup node e)

pub seats_few : (setup : Setup) → IsNone (first_bad setup) → 2 * length setup.members < 2 ^ 32
seats_few setup good = let few = good-few setup good in omega (arith, few)

pub seat_member : (setup : Setup) (seat : ℕ) → IsNone (first_bad setup) → seat < 2 * length setup.members → seat / 2 < 2 ^ 32
seat_member setup seat good lt = let few = good-few setup good in grind (arith, few, lt)

pub seat_below : (setup : Setup) (seat : ℕ) → seat < 2 * length setup.members → seat / 2 < length setup.members
seat_below setup seat lt = grind (arith, lt)

pub ruleset seats = (seat_member, seat_below)

pub ruleset places = (node-member, node-half, node-seat, host-seat)
