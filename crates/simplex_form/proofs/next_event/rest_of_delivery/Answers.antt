use Rattle.std.proofs.Common.{◌≡◌, ◌∷◌, codes, arith}
use Rattle.json.specs.Token.{Token}
use Rattle.simplex_form.proofs.Members.{delivery_rest}
use Rattle.simplex_form.proofs.next_event.rest_of_delivery.Goals as goal

pub returns : goal.returns
returns c =
    let first : c.args.reader.now ≡ Token.key (codes "node") ∷ c.take_key.new.reader = grind arith in
    let second : c.next_node.new.reader ≡ Token.key (codes "packet") ∷ c.take_key-2.new.reader = grind arith in
    let last : c.next_ref.new.reader ≡ Token.end_object ∷ c.take_close_object.new.reader = grind arith in
    let node = c.in_ok-node.ensures in
    let packet = c.in_ok-packet.ensures in
    delivery_rest c.args.reader.now c.take_key.new.reader c.next_node.new.reader c.take_key-2.new.reader c.next_ref.new.reader c.take_close_object.new.reader
    node.0 packet.0 c.in_ok-node.node c.in_ok-packet.packet first node.1 node.2 second packet.1 packet.2 last
