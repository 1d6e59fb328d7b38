use Rattle.simplex_values.specs.declared.proposal.Subject.TheVariants as subjects
use Rattle.simplex_wire.specs.declared.certificate.CertificateKind.TheVariants as kinds
use Rattle.law_agreement.specs.WorldExamples.{first}
use Rattle.law_samples.specs.Quorums.{batcher, two_votes, third_vote, last_round}
use Rattle.law_samples.proofs.quorums.standing_quorums_are_handed_on.Goals as goal

pub returns : goal.returns
returns c =
    let it = c.quorums_can_stand.ensures in
    c.quorums_are_handed_on.ensures batcher two_votes third_vote 1 last_round kinds.Notarization (subjects.Notarize first)
    it.members it.recovers it.worked it.round it.quorum
