use Rattle.law_member.proofs.Handing.{verified_handed}
use Rattle.law_member.proofs.certificates.new_certificates_are_handed_on.Goals as goal

pub returns : goal.returns
returns c made past given certificate is = verified_handed made past given certificate is
