use Rattle.simplex_voter.specs.Actor.{StandsOver}
use Rattle.simplex_voter.proofs.actor.Actor.next_deadline.Goals as goal

pub returns : goal.returns
unfolding StandsOver
returns g c = λ made past s. c.next_deadline.ensures made.rules _ _ s.planner
