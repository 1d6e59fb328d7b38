use Rattle.law_member.proofs.Going.{nullifies_are}
use Rattle.law_member.proofs.voter_votes.nullifies_are_of_timer_steps.Goals as goal

pub returns : goal.returns
returns c = nullifies_are
