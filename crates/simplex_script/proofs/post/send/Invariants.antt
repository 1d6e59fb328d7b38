use Rattle.std.proofs.Common.{◌≡◌, ◌++◌, length}
use Rattle.simplex_script.specs.Post.{parcels_from}
use Rattle.simplex_script.proofs.post.send.Given as goal

abbrev pub invariant-loop-rest : goal.invariant-loop-rest
invariant-loop-rest l = l.waiting.items ++ parcels_from l.event l.place l.rest ≡ l.initial.waiting.items ++ parcels_from l.event 0 l.packets

abbrev pub decreases-loop-rest : goal.decreases-loop-rest
decreases-loop-rest l = length l.rest
