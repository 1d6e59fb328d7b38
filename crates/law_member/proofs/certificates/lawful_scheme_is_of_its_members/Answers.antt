use Rattle.law_member.proofs.Schemes.{lawful_fits}
use Rattle.law_member.proofs.certificates.lawful_scheme_is_of_its_members.Goals as goal

pub returns : goal.returns
returns g c = λ made scheme.
    lawful_fits made (g.S.Scheme.verifies scheme) (g.S.Scheme.recovers scheme) (g.S.Scheme.members scheme) (g.met.S.Scheme.signer_is_below scheme)
