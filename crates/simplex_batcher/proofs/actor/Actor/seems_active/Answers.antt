use Rattle.std.proofs.Common.{arith}
use Rattle.std.proofs.lemmas.Grind.{common_steps}
use Rattle.model_steps.specs.Batcher.{is_active}
use Rattle.simplex_batcher.proofs.actor.Actor.seems_active.Goals as goal

pub returns-then-was_seen : goal.returns-then-was_seen
unfolding is_active
returns-then-was_seen g c = λ made standing s.
    let seen = c.was_seen.ensures made standing s in
    grind (arith, common_steps)

pub returns : goal.returns
unfolding is_active
returns g c = λ made standing s.
    let count = c.count_active.ensures made standing s in
    let required = c.required_active.ensures made standing s in
    let seen = c.was_seen.ensures made standing s in
    grind (arith, common_steps)
