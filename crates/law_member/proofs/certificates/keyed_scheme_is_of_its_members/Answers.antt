use Rattle.law_member.proofs.Schemes.{keyed_fits}
use Rattle.law_member.proofs.certificates.keyed_scheme_is_of_its_members.Goals as goal

pub returns : goal.returns
returns c made base recovers is = keyed_fits made base recovers is
