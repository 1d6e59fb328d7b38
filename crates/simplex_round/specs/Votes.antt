-- What votes and certificates have in common.
use Rattle.std.specs.Prelude.{Bool, true, false, List, Option, Some, None}
use Rattle.simplex_values.specs.declared.proposal.Proposal.{Proposal}
use Rattle.simplex_values.specs.declared.proposal.Subject.{Subject}
use Rattle.simplex_values.specs.declared.proposal.Subject.TheVariants as subjects
use Rattle.simplex_values.specs.Proposal.{is_same_round, is_same_proposal}
use Rattle.simplex_wire.specs.declared.attestation.Attestation.{Attestation}
use Rattle.simplex_wire.specs.declared.vote.Vote.{Vote}
use Rattle.simplex_wire.specs.declared.vote.Vote.TheVariants as votes
use Rattle.simplex_wire.specs.declared.certificate.Certificate.{Certificate}
use Rattle.simplex_wire.specs.declared.certificate.Certificate.TheVariants as certificates
pub use Rattle.simplex_wire.specs.Fields.{vote_kind, vote_signer}

-- whether two subjects are one
abbrev pub is_same_subject : Subject → Subject → Bool
is_same_subject (subjects.Notarize p) (subjects.Notarize q) = is_same_proposal p q
is_same_subject (subjects.Nullify r) (subjects.Nullify s) = is_same_round r s
is_same_subject (subjects.Finalize p) (subjects.Finalize q) = is_same_proposal p q
is_same_subject _ _ = false

-- the proposal that a vote is for: a nullify is for none
abbrev pub vote_proposal : Vote → Option Proposal
vote_proposal (votes.Notarize v) = Some v.proposal
vote_proposal (votes.Nullify v) = None
vote_proposal (votes.Finalize v) = Some v.proposal

-- whether it is a nullify
abbrev pub is_nullify : Vote → Bool
is_nullify (votes.Nullify v) = true
is_nullify _ = false

-- the certificate on a subject that lists these
abbrev pub certificate_on : Subject → List Attestation → Certificate
certificate_on (subjects.Notarize p) list = certificates.Notarization (record { proposal = p; certificate = list })
certificate_on (subjects.Nullify r) list = certificates.Nullification (record { round = r; certificate = list })
certificate_on (subjects.Finalize p) list = certificates.Finalization (record { proposal = p; certificate = list })
