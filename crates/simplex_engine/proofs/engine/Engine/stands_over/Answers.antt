use Rattle.simplex_engine.proofs.Told.{told-over}
use Rattle.simplex_engine.proofs.engine.Engine.stands_over.Goals as goal

pub returns : goal.returns
returns g c = λ made past h. told-over _ made past h
