use Rattle.std.proofs.Common.{◌≡◌, ◌++◌, length}
use Rattle.simplex_script.specs.Planning.{crashes}
use Rattle.simplex_script.proofs.planning.crashes.Given as goal

abbrev pub invariant-loop-rest : goal.invariant-loop-rest
invariant-loop-rest l = l.events.items ++ crashes l.rest ≡ crashes l.nodes

abbrev pub decreases-loop-rest : goal.decreases-loop-rest
decreases-loop-rest l = length l.rest
