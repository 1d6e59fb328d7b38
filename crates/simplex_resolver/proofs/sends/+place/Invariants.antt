use Rattle.std.proofs.Common.{length}
use Rattle.simplex_resolver.proofs.sends.«+place».Given as goal

abbrev pub decreases-place : goal.decreases-place
decreases-place l = length l.items.now.items
