use Rattle.law_member.proofs.RuleVoting.{is_open}
use Rattle.law_member.proofs.rule_votes.finalizes_are_open.Goals as goal

pub returns : goal.returns
returns c = is_open
