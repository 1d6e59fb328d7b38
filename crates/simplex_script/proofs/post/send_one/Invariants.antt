use Rattle.std.proofs.Common.{◌≡◌, ◌++◌, length}
use Rattle.simplex_script.specs.Post.{parcels_to}
use Rattle.simplex_script.proofs.post.send_one.Given as goal

abbrev pub invariant-loop-rest : goal.invariant-loop-rest
invariant-loop-rest l = l.waiting.items ++ parcels_to l.at l.packet l.rest ≡ l.initial.waiting.items ++ parcels_to l.at l.packet l.to

abbrev pub decreases-loop-rest : goal.decreases-loop-rest
decreases-loop-rest l = length l.rest
