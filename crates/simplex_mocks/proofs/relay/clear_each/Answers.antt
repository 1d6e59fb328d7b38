use Rattle.simplex_mocks.specs.Relay.{cleared}
use Rattle.simplex_mocks.proofs.Slots.{set_next}
use Rattle.simplex_mocks.proofs.relay.clear_each.Goals as goal

pub loop-place-preserved : goal.loop-place-preserved
loop-place-preserved c =
    set_next cleared c.args.slots.now c.loop-place.slots c.loop-place.place c.index-slots-place.result c.clear.new.self
    c.loop-place.invariant c.loop-place-test.true c.clear.ensures
