use Rattle.simplex_wire.proofs.Quorums.{certifies}
use Rattle.simplex_wire.proofs.scheme.a_verifying_quorum_certifies.Goals as goal

pub returns : goal.returns
returns g c = λ scheme subject list.
    certifies (g.S.Scheme.verifies scheme subject) (g.S.Scheme.members scheme) (g.met.S.Scheme.signer_is_below scheme subject) list
