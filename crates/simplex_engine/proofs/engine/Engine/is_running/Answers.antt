use Rattle.simplex_engine.specs.Stands.{StandsOver}
use Rattle.simplex_engine.proofs.Told.{at-work}
use Rattle.simplex_engine.proofs.engine.Engine.is_running.Goals as goal

pub returns-clause-runs : goal.returns-clause-runs
unfolding StandsOver
returns-clause-runs g c = λ made past h. at-work _ made past h
