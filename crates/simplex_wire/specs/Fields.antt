-- What messages are about, and whose they are.
use Rattle.std.specs.Prelude.{ℕ, List}
use Rattle.simplex_values.specs.declared.round.Round.{Round}
use Rattle.simplex_values.specs.declared.proposal.Subject.{Subject}
use Rattle.simplex_values.specs.declared.proposal.Subject.TheVariants as subjects
use Rattle.simplex_wire.specs.declared.attestation.Attestation.{Attestation}
use Rattle.simplex_wire.specs.declared.vote.Vote.{Vote}
use Rattle.simplex_wire.specs.declared.vote.Vote.TheVariants as votes
use Rattle.simplex_wire.specs.declared.certificate.Certificate.{Certificate}
use Rattle.simplex_wire.specs.declared.certificate.Certificate.TheVariants as certificates
use Rattle.simplex_wire.specs.declared.certificate.CertificateKind.{CertificateKind}
use Rattle.simplex_wire.specs.declared.certificate.CertificateKind.TheVariants as kinds
use Rattle.simplex_wire.specs.declared.artifact.Artifact.{Artifact}
use Rattle.simplex_wire.specs.declared.artifact.Artifact.TheVariants as artifacts

abbrev pub subject_round : Subject → Round
subject_round (subjects.Notarize p) = p.round
subject_round (subjects.Nullify r) = r
subject_round (subjects.Finalize p) = p.round

-- what a vote is about, and its signature
abbrev pub vote_subject : Vote → Subject
vote_subject (votes.Notarize v) = subjects.Notarize v.proposal
vote_subject (votes.Nullify v) = subjects.Nullify v.round
vote_subject (votes.Finalize v) = subjects.Finalize v.proposal

abbrev pub vote_attestation : Vote → Attestation
vote_attestation (votes.Notarize v) = v.attestation
vote_attestation (votes.Nullify v) = v.attestation
vote_attestation (votes.Finalize v) = v.attestation

-- whose vote it is, and the epoch and the view that it is of
abbrev pub vote_signer : Vote → ℕ
vote_signer vote = (vote_attestation vote).signer

abbrev pub vote_epoch : Vote → ℕ
vote_epoch vote = (subject_round (vote_subject vote)).epoch

abbrev pub vote_view : Vote → ℕ
vote_view vote = (subject_round (vote_subject vote)).view

-- the certificate that votes of the kind make
abbrev pub vote_kind : Vote → CertificateKind
vote_kind (votes.Notarize v) = kinds.Notarization
vote_kind (votes.Nullify v) = kinds.Nullification
vote_kind (votes.Finalize v) = kinds.Finalization

-- what a certificate is about, its signatures, and which of the three it is
abbrev pub certificate_subject : Certificate → Subject
certificate_subject (certificates.Notarization c) = subjects.Notarize c.proposal
certificate_subject (certificates.Nullification c) = subjects.Nullify c.round
certificate_subject (certificates.Finalization c) = subjects.Finalize c.proposal

abbrev pub certificate_signatures : Certificate → List Attestation
certificate_signatures (certificates.Notarization c) = c.certificate
certificate_signatures (certificates.Nullification c) = c.certificate
certificate_signatures (certificates.Finalization c) = c.certificate

abbrev pub certificate_kind : Certificate → CertificateKind
certificate_kind (certificates.Notarization c) = kinds.Notarization
certificate_kind (certificates.Nullification c) = kinds.Nullification
certificate_kind (certificates.Finalization c) = kinds.Finalization

-- the epoch and the view that a certificate is of
abbrev pub certificate_epoch : Certificate → ℕ
certificate_epoch certificate = (subject_round (certificate_subject certificate)).epoch

abbrev pub certificate_view : Certificate → ℕ
certificate_view certificate = (subject_round (certificate_subject certificate)).view

-- the round of a journal's record
abbrev pub artifact_round : Artifact → Round
artifact_round (artifacts.Notarize v) = v.proposal.round
artifact_round (artifacts.Notarization c) = c.proposal.round
artifact_round (artifacts.Certification round verdict) = round
artifact_round (artifacts.Nullify v) = v.round
artifact_round (artifacts.Nullification c) = c.round
artifact_round (artifacts.Finalize v) = v.proposal.round
artifact_round (artifacts.Finalization c) = c.proposal.round
