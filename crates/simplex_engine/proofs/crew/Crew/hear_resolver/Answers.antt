use Rattle.simplex_engine.proofs.Polls.{takes-packet, gives-packet}
use Rattle.simplex_engine.proofs.crew.Crew.hear_resolver.Goals as goal

pub returns-clause-stands : goal.returns-clause-stands
returns-clause-stands g c = λ told. takes-packet _ _ _ _ _ _ _ (c.in_ok-outcome.ensures.stands told) (c.in_ok-outcome.ensures.gives told)

pub returns-clause-gives : goal.returns-clause-gives
returns-clause-gives g c = rw c.polled.ensures (λ told. gives-packet _ _ _ _ _ _ (c.in_ok-outcome.ensures.gives told))

pub returns-clause-faults : goal.returns-clause-faults
returns-clause-faults g c = rw c.polled.ensures c.in_ok-outcome.ensures.faults
