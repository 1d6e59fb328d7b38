use Rattle.simplex_engine.proofs.Voters.{either-answers}
use Rattle.simplex_engine.proofs.crew.Crew.journal.Goals as goal

pub returns-clause-sections : goal.returns-clause-sections
returns-clause-sections g c = λ told parts h.
    rw (← h.voter.place) (either-answers told c.args.self.now _ _ c.journal.ensures.sections _ _ h.voter.stands)
