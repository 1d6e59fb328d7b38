use Rattle.std.proofs.Common.{◌≡◌, ◌∷◌, arith}
use Rattle.json.specs.Token.{Token}
use Rattle.simplex_form.proofs.Members.{pair_said}
use Rattle.simplex_form.proofs.next_event.next_pair.Goals as goal

pub returns : goal.returns
returns c =
    let opens : c.args.reader.now ≡ Token.begin_array ∷ c.take_open_list.new.reader = grind arith in
    let close : c.take_number-2.new.reader ≡ Token.end_array ∷ c.take_close_list.new.reader = grind arith in
    pair_said c.args.reader.now c.take_open_list.new.reader c.take_number.new.reader c.take_number-2.new.reader c.take_close_list.new.reader c.in_ok-first.first c.in_ok-second.second
    opens c.in_ok-first.ensures c.in_ok-second.ensures close
