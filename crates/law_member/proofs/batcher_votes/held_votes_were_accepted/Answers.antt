use Rattle.law_member.proofs.Steps.{held_accepted}
use Rattle.law_member.proofs.batcher_votes.held_votes_were_accepted.Goals as goal

pub returns : goal.returns
returns c made past view round is = held_accepted made past view round is
