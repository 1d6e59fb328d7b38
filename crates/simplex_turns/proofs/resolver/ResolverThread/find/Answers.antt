use Rattle.simplex_turns.proofs.ResolverTurned.{found-mail}
use Rattle.simplex_turns.proofs.resolver.ResolverThread.find.Goals as goal

pub returns-in-Some-clause-finds : goal.returns-in-Some-clause-finds
returns-in-Some-clause-finds g c = λ made place at. (place, rw c.in-Some.is (found-mail made c.args.self.now.now place c.in-Some.message), at)
