use Rattle.std.proofs.Common.{false}
use Rattle.simplex_engine.specs.Stands.{StandsOver}
use Rattle.simplex_engine.proofs.Stages.{running-deadline, stopped-undue, waiting-undue}
use Rattle.simplex_engine.proofs.engine.Engine.next_deadline.Goals as goal

pub returns-in-Running : goal.returns-in-Running
unfolding StandsOver
returns-in-Running g c = λ made past h. running-deadline false c.args.self.now _ _ c.in-Running.is c.next_deadline.ensures made past h

pub returns-in-Stopped : goal.returns-in-Stopped
unfolding StandsOver
returns-in-Stopped g c = λ made past h. stopped-undue false c.args.self.now _ c.in-Stopped.is made past h

pub returns-in-Waiting : goal.returns-in-Waiting
unfolding StandsOver
returns-in-Waiting g c = λ made past h. waiting-undue false c.args.self.now _ c.in-Waiting.is made past h
