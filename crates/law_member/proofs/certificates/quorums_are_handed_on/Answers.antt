use Rattle.law_member.proofs.Turns.{quorum_handed}
use Rattle.law_member.proofs.certificates.quorums_are_handed_on.Goals as goal

pub returns : goal.returns
returns c made past given view round kind subject = quorum_handed made past given view round kind subject
