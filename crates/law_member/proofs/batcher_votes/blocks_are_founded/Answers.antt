use Rattle.law_member.proofs.Steps.{blocks_founded}
use Rattle.law_member.proofs.batcher_votes.blocks_are_founded.Goals as goal

pub returns : goal.returns
returns c made past given = blocks_founded made past given
