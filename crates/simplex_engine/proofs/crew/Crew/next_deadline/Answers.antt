use Rattle.simplex_engine.proofs.crew.Crew.next_deadline.Goals as goal

pub returns : goal.returns
returns g c = λ told parts h. rw (← (c.voter_deadline.ensures told parts h), ← (c.fetch_deadline.ensures told parts h)) c.earliest.ensures
