use Rattle.std.proofs.Common.{◌≡◌}
use Rattle.simplex_mocks.specs.Relay.{cleared}
use Rattle.simplex_mocks.proofs.Slots.{changed}
use Rattle.simplex_mocks.proofs.relay.clear_each.Given as goal

abbrev pub invariant-loop-place : goal.invariant-loop-place
invariant-loop-place l = l.slots ≡ changed cleared l.place l.fn.slots
