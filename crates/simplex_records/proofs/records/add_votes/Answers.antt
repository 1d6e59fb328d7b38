use Rattle.simplex_records.specs.Votes.{VotesStand}
use Rattle.simplex_records.proofs.records.add_votes.Goals as goal

pub returns-in-None : goal.returns-in-None
unfolding VotesStand
returns-in-None c = λ before noted same from stand. rw c.in-None.is (rw c.in-None.is at stand)

pub returns-in_ok-add_sent-in-Some : goal.returns-in_ok-add_sent-in-Some
unfolding VotesStand
returns-in_ok-add_sent-in-Some c =
    λ before noted same from stand. c.in_ok-add_sent-in-Some.ensures before noted same from (rw c.in-Some.is at stand)
