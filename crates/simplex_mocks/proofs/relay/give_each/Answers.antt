use Rattle.std.proofs.Common.{◌∙◌, ap}
use Rattle.simplex_mocks.specs.Relay.{with_relayed, taken_back}
use Rattle.simplex_mocks.proofs.Slots.{changed, changed_back, gives_back, set_next, set_same}
use Rattle.simplex_mocks.proofs.relay.give_each.Goals as goal

pub returns-in-Err-clause-err : goal.returns-in-Err-clause-err
returns-in-Err-clause-err c =
    let gives = with_relayed c.args.sender c.args.recipients.now (record { payload = c.args.payload; contents = c.args.contents.now }) in
    let takes = taken_back c.args.sender c.args.recipients.now in
    c.take_back_each.ensures
    ∙ ap (changed takes c.loop-place.place)
    (set_same c.loop-place.slots c.loop-place.place c.index-slots-place.result c.receive.new.self c.in-Err.ensures.err ∙ c.loop-place.invariant)
    ∙ changed_back gives takes (gives_back c.args.sender c.args.recipients.now (record { payload = c.args.payload; contents = c.args.contents.now }))
    c.loop-place.place c.args.slots.now

pub loop-place-preserved : goal.loop-place-preserved
loop-place-preserved c =
    set_next (with_relayed c.args.sender c.args.recipients.now (record { payload = c.args.payload; contents = c.args.contents.now }))
    c.args.slots.now c.loop-place.slots c.loop-place.place c.index-slots-place.result c.receive.new.self
    c.loop-place.invariant c.loop-place-test.true c.in_default.ensures.ok
