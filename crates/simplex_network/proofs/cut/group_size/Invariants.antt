use Rattle.std.proofs.Common.{◌≡◌}
use Rattle.simplex_network.specs.Cuts.{IsCutAt}
use Rattle.simplex_network.proofs.cut.group_size.Given as goal

abbrev pub invariant-loop-event : goal.invariant-loop-event
invariant-loop-event l = (l.size ≡ l.event-index) × IsCutAt l.setup l.records l.named l.events l.event-index
