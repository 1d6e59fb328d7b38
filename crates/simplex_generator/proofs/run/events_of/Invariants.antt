use Rattle.std.proofs.Common.{◌≡◌}
use Rattle.simplex_generator.specs.Setup.{setup_of}
use Rattle.simplex_generator.proofs.Leading.{Leads}
use Rattle.simplex_generator.proofs.run.events_of.Given as goal

abbrev pub invariant-loop-left : goal.invariant-loop-left
invariant-loop-left l = l.setup ≡ setup_of l.number → Leads l.generator l.number l.left l.steps l.events.items

abbrev pub decreases-loop-left : goal.decreases-loop-left
decreases-loop-left l = l.left
