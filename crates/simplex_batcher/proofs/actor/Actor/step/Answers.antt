use Rattle.model_steps.specs.Batcher.{standing_after, step_out}
use Rattle.simplex_batcher.specs.Stands.{StandsFor}
use Rattle.simplex_batcher.proofs.actor.Actor.step.Goals as goal

pub returns-clause-out : goal.returns-clause-out
unfolding StandsFor step_out
returns-clause-out g c = λ made past s.
    (c.in_ok-take.ensures made (standing_after made past) s).does
