use Rattle.simplex_scripts.specs.declared.play.TheConstants.{MOST_EVENTS}
use Rattle.simplex_scripts.proofs.Going.{Left, of_settling}
use Rattle.simplex_scripts.proofs.play.Play.settle.Given as goal

abbrev pub invariant-events : goal.invariant-events
invariant-events l = Left l.initial.self l.self (of_settling l.line l.nodes l.left) (of_settling l.line l.nodes MOST_EVENTS)

abbrev pub decreases-events : goal.decreases-events
decreases-events l = l.left
