use Rattle.std.proofs.Common.{◌≡◌, ◌∷◌, codes, arith}
use Rattle.json.specs.Token.{Token}
use Rattle.simplex_form.proofs.Members.{step_rest}
use Rattle.simplex_form.proofs.next_event.rest_of_step.Goals as goal

pub returns : goal.returns
returns c =
    let first : c.args.reader.now ≡ Token.key (codes "node") ∷ c.take_key.new.reader = grind arith in
    let second : c.next_node.new.reader ≡ Token.key (codes "source") ∷ c.take_key-2.new.reader = grind arith in
    let third : c.next_source.new.reader ≡ Token.key (codes "stop") ∷ c.take_key-3.new.reader = grind arith in
    let last : c.next_stop.new.reader ≡ Token.end_object ∷ c.take_close_object.new.reader = grind arith in
    let node = c.in_ok-node.ensures in
    let source = c.in_ok-source.ensures in
    let stop = c.in_ok-stop.ensures in
    step_rest c.args.reader.now c.take_key.new.reader c.next_node.new.reader c.take_key-2.new.reader c.next_source.new.reader c.take_key-3.new.reader c.next_stop.new.reader
    c.take_close_object.new.reader node.0 source.0 stop.0 c.in_ok-node.node c.in_ok-source.source c.in_ok-stop.stop first node.1 node.2 second source.1 source.2 third stop.1 stop.2 last
