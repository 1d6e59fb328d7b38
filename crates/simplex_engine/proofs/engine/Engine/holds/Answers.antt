use Rattle.std.proofs.Common.{false}
use Rattle.simplex_engine.specs.Stands.{StandsOver}
use Rattle.simplex_engine.proofs.Stages.{running-holds, waiting-idle-over}
use Rattle.simplex_engine.proofs.engine.Engine.holds.Goals as goal

pub returns-in-Running : goal.returns-in-Running
unfolding StandsOver
returns-in-Running g c = λ made past h _. running-holds false c.args.self.now _ _ _ c.args.now c.in-Running.is c.holds.ensures made past h

pub returns-in-Waiting : goal.returns-in-Waiting
returns-in-Waiting g c = λ made past h r. absurd (waiting-idle-over c.args.self.now _ made past c.in-Waiting.is h r)
