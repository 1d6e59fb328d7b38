use Rattle.std.proofs.Common.{◌≡◌, length}
use Rattle.simplex_script.specs.Post.{first_on}
use Rattle.simplex_script.proofs.post.first_on.Given as goal

abbrev pub invariant-loop-rest : goal.invariant-loop-rest
invariant-loop-rest l = first_on l.from l.to l.channel l.rest ≡ first_on l.from l.to l.channel l.parcels

abbrev pub decreases-loop-rest : goal.decreases-loop-rest
decreases-loop-rest l = length l.rest
