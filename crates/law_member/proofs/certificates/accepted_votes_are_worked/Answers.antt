use Rattle.law_member.proofs.Marking.{accepted_worked}
use Rattle.law_member.proofs.certificates.accepted_votes_are_worked.Goals as goal

pub returns : goal.returns
returns c made past given vote = accepted_worked made past given vote
