use Rattle.simplex_turns.proofs.voter.VoterThread.find.Goals as goal

pub returns-in-None-clause-finds : goal.returns-in-None-clause-finds
returns-in-None-clause-finds g c = λ told made place h. rw c.in-None.is (c.find_own.ensures.finds told made place h)
