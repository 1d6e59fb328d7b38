use Rattle.law_member.proofs.Steps.{accepted_came}
use Rattle.law_member.proofs.batcher_votes.accepted_votes_came_from_their_signers.Goals as goal

pub returns : goal.returns
returns c made past vote was = accepted_came made past vote was
