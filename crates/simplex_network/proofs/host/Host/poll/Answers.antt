use Rattle.simplex_engine.proofs.Told.{answered-told}
use Rattle.simplex_network.proofs.OneHost.{host-polled, host-gives, host-refuses, host-stays}
use Rattle.simplex_network.proofs.host.Host.poll.Goals as goal

pub returns-clause-gives : goal.returns-clause-gives
returns-clause-gives c =
    λ setup member life stand. host-gives setup member _ _ _ _ _ _ _ (answered-told _ _ _ c.in-Ok.ensures.accepted) c.in-Ok.ensures.gives life (rw c.in-Running.is at stand)

pub returns-clause-stands : goal.returns-clause-stands
returns-clause-stands c =
    λ setup member life stand. host-polled setup member _ _ _ _ _ _ _ c.in-Ok.ensures.stands (λ made past s. (c.in-Ok.ensures.gives made past s).0) c.in_ok-settle.ensures.stands life
    (rw c.in-Running.is at stand)

pub returns-in-Err-clause-refused : goal.returns-in-Err-clause-refused
returns-in-Err-clause-refused c =
    λ whole setup member life stand. host-refuses setup member _ _ _ (answered-told _ _ _ (c.in-Err.ensures.refused whole)) life (rw c.in-Running.is at stand)

pub returns-in-Err-clause-stays : goal.returns-in-Err-clause-stays
returns-in-Err-clause-stays c =
    λ whole setup member part stand. host-stays setup member _ _ (c.in-Err.ensures.stays whole) part (rw c.in-Running.is at stand)
