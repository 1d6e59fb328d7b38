use Rattle.std.proofs.Common.{length}
use Rattle.simplex_scripts.proofs.Going.{Left, of_commands}
use Rattle.simplex_scripts.proofs.play.Play.obey_all.Given as goal

abbrev pub invariant-loop-rest : goal.invariant-loop-rest
invariant-loop-rest l = Left l.initial.self l.self (of_commands l.rest) (of_commands l.commands)

abbrev pub decreases-loop-rest : goal.decreases-loop-rest
decreases-loop-rest l = length l.rest
