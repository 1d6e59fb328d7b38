use Rattle.model_resolver.specs.Resolver.{minded}
use Rattle.simplex_resolver.proofs.actor.Actor.mind.Goals as goal

pub returns-in-Left : goal.returns-in-Left
unfolding minded
returns-in-Left g c = λ made doing s. rw c.in-Left.is (c.leave.ensures c.args.work.now made doing s)
