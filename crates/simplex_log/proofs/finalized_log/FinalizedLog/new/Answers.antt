use Rattle.std.proofs.Common.{refl}
use Rattle.model_log.specs.Links.{proposals_of, finals_of}
use Rattle.simplex_log.specs.Stands.{StandsFor}
use Rattle.simplex_log.proofs.finalized_log.FinalizedLog.new.Goals as goal

pub returns : goal.returns
unfolding StandsFor proposals_of finals_of
returns g c = (refl, c.new.ensures)
