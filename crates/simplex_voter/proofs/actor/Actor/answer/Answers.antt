use Rattle.simplex_voter.specs.Actor.{StandsOver}
use Rattle.simplex_voter.proofs.actor.Actor.answer.Goals as goal

pub returns-clause-answer : goal.returns-clause-answer
unfolding StandsOver
returns-clause-answer g c = λ made past s. c.answer.ensures.answer made.rules _ _ s.planner
