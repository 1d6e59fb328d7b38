use Rattle.std.proofs.Common.{false}
use Rattle.simplex_engine.specs.Stands.{StandsOver}
use Rattle.simplex_engine.proofs.Stages.{waiting-sections, running-sections, stopped-sections}
use Rattle.simplex_engine.proofs.engine.Engine.journal.Goals as goal

pub returns-in-Waiting-clause-sections : goal.returns-in-Waiting-clause-sections
unfolding StandsOver
returns-in-Waiting-clause-sections g c = waiting-sections false c.args.self.now _ c.in-Waiting.is

pub returns-in-Running-clause-sections : goal.returns-in-Running-clause-sections
unfolding StandsOver
returns-in-Running-clause-sections g c = running-sections false c.args.self.now _ _ c.in-Running.is c.journal.ensures.sections

pub returns-in-Stopped-clause-sections : goal.returns-in-Stopped-clause-sections
unfolding StandsOver
returns-in-Stopped-clause-sections g c = stopped-sections false c.args.self.now _ _ c.in-Stopped.is c.journal-in-Stopped.ensures.sections
