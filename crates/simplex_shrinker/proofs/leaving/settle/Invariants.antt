use Rattle.std.proofs.Common.{◌≡◌, ◌≤◌, length, true}
use Rattle.simplex_shrinker.specs.Part.{IsPartOf}
use Rattle.simplex_shrinker.proofs.leaving.settle.Given as goal

abbrev pub invariant-loop-best : goal.invariant-loop-best
invariant-loop-best g l = (g.P.Probe.stays l.probe l.best ≡ true) × (length l.best ≤ length l.fn.events) × IsPartOf l.best l.fn.events

abbrev pub decreases-loop-best : goal.decreases-loop-best
decreases-loop-best g l = l.count
