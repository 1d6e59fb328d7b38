use Rattle.simplex_engine.proofs.Voters.{either-answers}
use Rattle.simplex_engine.proofs.crew.Crew.into_journal.Goals as goal

pub returns-clause-sections : goal.returns-clause-sections
returns-clause-sections g c = λ told parts h.
    rw (← h.voter.place) (either-answers told c.args.self _ _ c.into_journal.ensures.sections _ _ h.voter.stands)
