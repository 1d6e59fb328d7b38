use Rattle.law_member.proofs.Steps.{handed_founded}
use Rattle.law_member.proofs.certificates.handed_certificates_are_founded.Goals as goal

pub returns : goal.returns
returns c made past given fits = handed_founded made past given fits
