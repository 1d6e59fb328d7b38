use Rattle.std.proofs.Common.{◌≡◌, length, None}
use Rattle.simplex_script.specs.Post.{last_on}
use Rattle.simplex_script.proofs.post.last_on.Given as goal

abbrev pub invariant-loop-rest : goal.invariant-loop-rest
invariant-loop-rest l = last_on l.from l.to l.channel l.found l.rest ≡ last_on l.from l.to l.channel None l.parcels

abbrev pub decreases-loop-rest : goal.decreases-loop-rest
decreases-loop-rest l = length l.rest
