use Rattle.std.proofs.Common.{◌≡◌, length}
use Rattle.std.specs.List.{list_any}
use Rattle.simplex_lab.specs.Opening.{takes}
use Rattle.simplex_lab.proofs.opening.was_taken.Given as goal

abbrev pub invariant-loop-rest : goal.invariant-loop-rest
invariant-loop-rest l = list_any (takes l.node l.at) l.rest ≡ list_any (takes l.node l.at) l.events

abbrev pub decreases-loop-rest : goal.decreases-loop-rest
decreases-loop-rest l = length l.rest
