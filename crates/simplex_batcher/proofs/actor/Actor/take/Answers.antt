use Rattle.model_steps.specs.Batcher.{begun, step}
use Rattle.simplex_batcher.proofs.actor.Actor.take.Goals as goal

pub returns : goal.returns
unfolding step
returns g c = λ made standing s.
    let acted = c.in_ok-act.ensures made (begun standing) (record { stands = s; does = c.requires.empty; marks = c.new-dirty.ensures }) in
    let done = c.in_ok-finish.ensures made _ acted in
    record { stands = done.stands; does = done.does }
