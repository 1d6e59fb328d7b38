use Rattle.simplex_engine.proofs.Told.{told-over}
use Rattle.simplex_generator.proofs.held.holds.Goals as goal

pub returns : goal.returns
returns c = λ made past stands runs. c.holds.ensures made past (told-over _ made past stands) runs
