use Rattle.std.proofs.Common.{◌≤◌, length, take}
use Rattle.simplex_shrinker.specs.Part.{IsPartOf}
use Rattle.simplex_shrinker.proofs.without.without.Given as goal

abbrev pub invariant-loop-place : goal.invariant-loop-place
invariant-loop-place l = (length l.left ≤ l.place) × IsPartOf l.left (take l.place l.events)
