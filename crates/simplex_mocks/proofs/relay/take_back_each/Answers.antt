use Rattle.std.proofs.Common.{arith}
use Rattle.simplex_mocks.specs.Relay.{taken_back}
use Rattle.simplex_mocks.proofs.Slots.{set_next}
use Rattle.simplex_mocks.proofs.relay.take_back_each.Goals as goal

pub loop-place-preserved : goal.loop-place-preserved
loop-place-preserved c =
    set_next (taken_back c.args.sender c.args.recipients.now) c.args.slots.now c.loop-place.slots c.loop-place.place c.index-slots-place.result c.take_back.new.self
    c.loop-place.invariant (omega (arith, c.loop-place-test.true, c.requires)) c.take_back.ensures
