use Rattle.law_member.proofs.Going.{nullifies_once}
use Rattle.law_member.proofs.voter_votes.one_nullify_at_most.Goals as goal

pub returns : goal.returns
returns c = nullifies_once
