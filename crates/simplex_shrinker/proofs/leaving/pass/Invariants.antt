use Rattle.std.proofs.Common.{◌≡◌, ◌≤◌, length, true}
use Rattle.simplex_shrinker.specs.Part.{IsPartOf}
use Rattle.simplex_shrinker.proofs.leaving.pass.Given as goal

abbrev pub invariant-loop-end : goal.invariant-loop-end
invariant-loop-end g l = (g.P.Probe.stays l.probe l.best ≡ true) × (length l.best ≤ length l.fn.events) × IsPartOf l.best l.fn.events

abbrev pub decreases-loop-end : goal.decreases-loop-end
decreases-loop-end g l = l.end
