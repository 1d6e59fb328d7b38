use Rattle.simplex_node.proofs.Ended.{ended_well, ended_broken}
use Rattle.simplex_node.proofs.node.Node.poll.Goals as goal

pub returns-in-Ok-clause-takes : goal.returns-in-Ok-clause-takes
returns-in-Ok-clause-takes g c =
    rw c.ended.ensures (ended_well c.in-Ok.polled.outcome (λ whole. record {
      outcome = c.in-Ok.polled.outcome;
      taken = c.in-Ok.polled.taken;
      ended = whole;
      fares = rw c.ms.ensures.same at c.in-Ok.ensures.over;
    }))

pub returns-in-Ok-clause-broken : goal.returns-in-Ok-clause-broken
returns-in-Ok-clause-broken g c =
    rw c.ended.ensures (ended_broken c.in-Ok.polled.outcome (λ broken. record {
      outcome = c.in-Ok.polled.outcome;
      taken = c.in-Ok.polled.taken;
      ended = broken;
      fares = rw c.ms.ensures.same at c.in-Ok.ensures.over;
    }))
