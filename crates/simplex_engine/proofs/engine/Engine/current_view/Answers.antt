use Rattle.std.proofs.Common.{false}
use Rattle.simplex_engine.specs.Stands.{StandsOver}
use Rattle.simplex_engine.proofs.Stages.{running-view, running-started, stopped-started, waiting-idle-over}
use Rattle.simplex_engine.proofs.engine.Engine.current_view.Goals as goal

pub returns-in-Running-clause-running : goal.returns-in-Running-clause-running
unfolding StandsOver
returns-in-Running-clause-running g c = λ made past h _. running-view false c.args.self.now _ _ c.in-Running.is c.current_view.ensures made past h

pub returns-in-Running-clause-waiting : goal.returns-in-Running-clause-waiting
unfolding StandsOver
returns-in-Running-clause-waiting g c = λ made h. absurd (running-started false c.args.self.now _ made c.in-Running.is h)

pub returns-in-Stopped-clause-waiting : goal.returns-in-Stopped-clause-waiting
unfolding StandsOver
returns-in-Stopped-clause-waiting g c = λ made h. absurd (stopped-started false c.args.self.now _ made c.in-Stopped.is h)

pub returns-in-Waiting-clause-running : goal.returns-in-Waiting-clause-running
returns-in-Waiting-clause-running g c = λ made past h r. absurd (waiting-idle-over c.args.self.now _ made past c.in-Waiting.is h r)
