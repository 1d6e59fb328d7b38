use Rattle.law_member.proofs.RuleVoting.{untouched}
use Rattle.law_member.proofs.rule_votes.notarizes_are_untouched.Goals as goal

pub returns : goal.returns
returns c = untouched
