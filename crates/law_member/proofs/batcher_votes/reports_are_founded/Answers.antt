use Rattle.law_member.proofs.Steps.{calls_founded}
use Rattle.law_member.proofs.batcher_votes.reports_are_founded.Goals as goal

pub returns : goal.returns
returns c made past given = calls_founded made past given
