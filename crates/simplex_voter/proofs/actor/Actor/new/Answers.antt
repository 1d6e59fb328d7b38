use Rattle.std.proofs.Common.{refl}
use Rattle.model_steps.specs.VoterLife.{place_of}
use Rattle.simplex_voter.specs.Actor.{StandsFor, StandsOver, voter_made}
use Rattle.simplex_voter.proofs.actor.Actor.new.Goals as goal

pub returns-clause-stands : goal.returns-clause-stands
unfolding StandsFor place_of voter_made
returns-clause-stands g c = λ told. record { floor = refl; planner = c.in_ok-planner.ensures; sections_are = refl; order_is = told }

pub returns-clause-over : goal.returns-clause-over
unfolding StandsOver place_of voter_made
returns-clause-over g c = record { floor = refl; planner = c.in_ok-planner.ensures; sections_are = refl }
