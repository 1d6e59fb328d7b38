use Rattle.law_member.proofs.RuleVoting.{given_up}
use Rattle.law_member.proofs.rule_votes.nullifies_are_current.Goals as goal

pub returns : goal.returns
returns c = given_up
