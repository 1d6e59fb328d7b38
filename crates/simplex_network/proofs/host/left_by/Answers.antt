use Rattle.simplex_engine.proofs.Told.{answered-told}
use Rattle.simplex_network.proofs.Leaving.{engine-leaves}
use Rattle.simplex_network.proofs.host.left_by.Goals as goal

pub returns-clause-stands : goal.returns-clause-stands
returns-clause-stands c = engine-leaves _ _ (answered-told _ _ _ c.into_journal.ensures.sections) c.into_journal.ensures.whole
