use Rattle.std.proofs.Common.{◌≡◌}
use Rattle.simplex_mocks.specs.Relay.{with_relayed}
use Rattle.simplex_mocks.proofs.Slots.{changed}
use Rattle.simplex_mocks.proofs.relay.give_each.Given as goal

abbrev pub invariant-loop-place : goal.invariant-loop-place
invariant-loop-place l =
    l.slots ≡ changed (with_relayed l.sender l.recipients (record { payload = l.payload; contents = l.contents })) l.place l.fn.slots
