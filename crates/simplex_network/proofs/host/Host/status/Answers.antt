use Rattle.simplex_engine.proofs.Told.{told-over}
use Rattle.simplex_network.proofs.OneHost.{stopped-views, away-views, host-views, faulty-views}
use Rattle.simplex_network.proofs.host.Host.status.Goals as goal

pub returns-in-Stopped : goal.returns-in-Stopped
returns-in-Stopped c = λ setup member part stand goes. stopped-views setup member _ part (rw c.in-Stopped.is at stand)

pub returns-in-Running : goal.returns-in-Running
returns-in-Running c = λ setup member part stand goes. host-views setup member _ _ (λ made past stands. c.current_view.ensures.running made past (told-over _ made past stands)) part (rw c.in-Running.is at stand) goes

pub returns-in-Faulty : goal.returns-in-Faulty
returns-in-Faulty c = λ setup member part stand goes. faulty-views setup member _ part (rw c.in-Faulty.is at stand)

pub returns-in-Away : goal.returns-in-Away
returns-in-Away c = λ setup member part stand goes. away-views setup member part (rw c.in-Away.is at stand)
