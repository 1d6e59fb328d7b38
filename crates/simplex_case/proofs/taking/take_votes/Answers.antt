use Rattle.simplex_records.specs.Votes.{VotesStand}
use Rattle.simplex_case.proofs.Sending.{on-ok}
use Rattle.simplex_case.proofs.taking.take_votes.Goals as goal

pub returns-in-None : goal.returns-in-None
unfolding VotesStand
returns-in-None c = λ before noted same stand. rw c.in-None.is (rw c.in-None.is at stand)

pub returns-in-Some : goal.returns-in-Some
unfolding VotesStand
returns-in-Some c =
    on-ok c.take_packets.result (λ takes before noted same stand. takes before noted same (rw c.in-Some.is at stand)) c.take_packets.ensures
