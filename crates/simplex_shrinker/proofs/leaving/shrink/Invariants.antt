use Rattle.std.proofs.Common.{◌≡◌, ◌≤◌, length, true}
use Rattle.simplex_shrinker.specs.Part.{IsPartOf}
use Rattle.simplex_shrinker.proofs.leaving.shrink.Given as goal

abbrev pub invariant-loop-size : goal.invariant-loop-size
invariant-loop-size g l = (g.P.Probe.stays l.probe l.best ≡ true) × (length l.best ≤ length l.fn.events) × IsPartOf l.best l.fn.events

abbrev pub decreases-loop-size : goal.decreases-loop-size
decreases-loop-size g l = l.size
