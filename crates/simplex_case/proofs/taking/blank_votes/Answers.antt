use Rattle.std.proofs.Common.{sym}
use Rattle.simplex_records.specs.Votes.{VotesStand}
use Rattle.simplex_case.proofs.taking.blank_votes.Goals as goal

pub returns-then-are_honest : goal.returns-then-are_honest
unfolding VotesStand
returns-then-are_honest c = sym c.if-are_honest.ensures

pub returns : goal.returns
unfolding VotesStand
returns c = c.in_ok-votes.ensures
