use Rattle.law_member.proofs.Standing.{leader_known}
use Rattle.law_member.proofs.batcher.leaders_are_known.Goals as goal

pub returns : goal.returns
returns c = leader_known
