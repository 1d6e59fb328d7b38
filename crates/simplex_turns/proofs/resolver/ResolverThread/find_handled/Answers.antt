use Rattle.std.proofs.Common.{◌∷◌}
use Rattle.model_resolver.specs.Resolver.{HandlerTaken}
use Rattle.simplex_turns.proofs.ResolverTurned.{found-handler}
use Rattle.simplex_turns.proofs.resolver.ResolverThread.find_handled.Goals as goal

pub returns-clause-finds : goal.returns-clause-finds
returns-clause-finds g c = λ holds made place at. (
  record place { past = HandlerTaken ∷ place.past },
  found-handler made c.args.self.now.now place c.in_ok-message.message (c.in_ok-message.ensures.message made place.past at.stands),
  record { stands = c.in_ok-message.ensures.stands made place.past at.stands; feed = at.feed },
)
