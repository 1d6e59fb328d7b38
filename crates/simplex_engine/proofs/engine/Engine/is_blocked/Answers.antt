use Rattle.std.proofs.Common.{false}
use Rattle.simplex_engine.specs.Stands.{StandsOver}
use Rattle.simplex_engine.proofs.Stages.{running-blocked, stopped-blocked, waiting-blocked}
use Rattle.simplex_engine.proofs.engine.Engine.is_blocked.Goals as goal

pub returns-in-Running : goal.returns-in-Running
unfolding StandsOver
returns-in-Running g c = running-blocked false c.args.self.now _ _ _ c.in-Running.is c.is_blocked.ensures

pub returns-in-Stopped : goal.returns-in-Stopped
unfolding StandsOver
returns-in-Stopped g c = stopped-blocked false c.args.self.now _ _ _ c.in-Stopped.is c.is_blocked-in-Stopped.ensures

pub returns-in-Waiting : goal.returns-in-Waiting
unfolding StandsOver
returns-in-Waiting g c = waiting-blocked false c.args.self.now _ c.args.member c.in-Waiting.is
