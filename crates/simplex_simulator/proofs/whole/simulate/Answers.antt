use Rattle.simplex_simulator.proofs.Making.{is_run}
use Rattle.simplex_simulator.proofs.whole.simulate.Goals as goal

pub returns-clause-runnable : goal.returns-clause-runnable
returns-clause-runnable c =
    is_run c.loop.simulation.network c.args.setup.now c.loop.simulation.events c.into_events.result c.loop.invariant.0 c.into_events.ensures
