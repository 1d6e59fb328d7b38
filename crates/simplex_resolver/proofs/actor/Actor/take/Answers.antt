use Rattle.model_resolver.specs.Resolver.{begun, step}
use Rattle.simplex_resolver.proofs.actor.Actor.take.Goals as goal

pub returns : goal.returns
unfolding step
returns g c = λ made standing s.
    c.in_ok-act.ensures made (begun standing) (record { stands = s; does = c.new-work.ensures })
