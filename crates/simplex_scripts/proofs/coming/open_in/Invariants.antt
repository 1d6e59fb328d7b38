use Rattle.std.proofs.Common.{◌≡◌, ◌++◌, length, map}
use Rattle.simplex_scripts.specs.Coming.{as_open}
use Rattle.simplex_scripts.proofs.coming.open_in.Given as goal

abbrev pub invariant-loop-rest : goal.invariant-loop-rest
invariant-loop-rest l = l.all.items ++ map as_open l.rest ≡ map as_open l.requests.«open».items

abbrev pub decreases-loop-rest : goal.decreases-loop-rest
decreases-loop-rest l = length l.rest
