use Rattle.simplex_engine.proofs.Voters.{either-answers}
use Rattle.simplex_engine.proofs.crew.Crew.voter_deadline.Goals as goal

pub returns : goal.returns
returns g c = λ told parts h.
    rw (← h.voter.place) (either-answers told c.args.self.now _ _ c.next_deadline.ensures _ _ h.voter.stands)
