use Rattle.std.proofs.Common.{◌≡◌}
use Rattle.simplex_mocks.specs.Relay.{taken_back}
use Rattle.simplex_mocks.proofs.Slots.{changed}
use Rattle.simplex_mocks.proofs.relay.take_back_each.Given as goal

abbrev pub invariant-loop-place : goal.invariant-loop-place
invariant-loop-place l = l.slots ≡ changed (taken_back l.sender l.recipients) l.place l.fn.slots
