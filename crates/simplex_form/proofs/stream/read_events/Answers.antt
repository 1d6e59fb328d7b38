use Rattle.std.proofs.Common.{◌≡◌, ◌∷◌, Result, Ok, Err, IfOk, arith}
use Rattle.json.specs.Token.{Token}
use Rattle.simplex_form.proofs.Reading.{reads_array}
use Rattle.simplex_form.proofs.stream.read_events.Goals as goal

-- what an answer brings with it may be said in other words
if_ok : {A E : Type 0} {P Q : A → Type 0} (r : Result A E) → ((a : A) → P a → Q a) → IfOk r P → IfOk r Q
if_ok (Ok a) f h = f a h
if_ok (Err e) f h = tt

pub returns : goal.returns
returns c =
    let first : c.args.reader.now ≡ Token.begin_array ∷ c.take_open_list.new.reader = grind arith in
    if_ok c.read_event_items.result
    (λ events w. (w.0, rw first (reads_array 126 c.take_open_list.new.reader c.read_event_items.new.reader w.0 (omega arith) w.1), w.2))
    c.read_event_items.ensures
