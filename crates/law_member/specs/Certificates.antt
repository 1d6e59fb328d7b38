-- Where a certificate comes from that is handed to the voter.
use Rattle.std.specs.Prelude.{◌≡◌, ◌≤◌, ◌<◌, ◌⊎◌, true, false, length, Ok, All, Contains}
use Rattle.simplex_values.specs.Quorum.{quorum_of}
use Rattle.simplex_values.specs.declared.proposal.Subject.{Subject}
use Rattle.simplex_wire.specs.declared.attestation.Attestation.{Attestation}
use Rattle.simplex_wire.specs.declared.vote.Vote.{Vote}
use Rattle.simplex_wire.specs.declared.certificate.Certificate.{Certificate}
use Rattle.simplex_wire.specs.Certified.{is_certified}
use Rattle.simplex_wire.specs.Fields.{vote_subject, vote_attestation, certificate_subject, certificate_signatures}
use Rattle.simplex_wire.specs.Format.{whole}
use Rattle.simplex_wire.specs.Message as format
use Rattle.simplex_messages.specs.declared.batcher.BatcherInput.{BatcherInput}
use Rattle.simplex_messages.specs.declared.batcher.BatcherInput.TheVariants as input
use Rattle.simplex_messages.specs.declared.handed.Handed.{Handed}
use Rattle.simplex_messages.specs.declared.handed.Handed.TheVariants as handed
use Rattle.simplex_messages.specs.declared.voter.Message.TheVariants as voter
use Rattle.simplex_messages.specs.declared.step.StepOut.{StepOut}
use Rattle.model_steps.specs.Batcher.{Made, Standing, holds_kind, retains_view, certificate_view, certificate_epoch}

-- the scheme is that of the batcher's members, and no signature of another verifies
pub record IsSchemeOfMembers (made : Made) : Type 0 where
  pub members : made.scheme.members ≡ made.members
  pub signers : (subject : Subject) (attestation : Attestation)
      → made.scheme.verifies subject attestation ≡ true → attestation.signer < made.members

-- the input is the certificate, and the round of its view holds none of its kind
abbrev pub BringsNew : Standing → BatcherInput → Certificate → Type 0
BringsNew standing (input.Certificate sender bytes) certificate =
    (whole format.certificate bytes ≡ Ok certificate) × (holds_kind standing certificate ≡ false)
BringsNew standing (input.Vote sender bytes) certificate = ⊥
BringsNew standing (input.Mail message) certificate = ⊥

-- the signature is that of a vote on the subject, which was accepted and verifies
pub record IsVoteOn (made : Made)
    (accepted : Vote → Type 0) (subject : Subject) (attestation : Attestation) : Type 0 where
  pub vote : Vote
  pub signature : vote_attestation vote ≡ attestation
  pub on : vote_subject vote ≡ subject
  pub verifies : made.scheme.verifies subject attestation ≡ true
  pub was_accepted : accepted vote

-- a quorum of signatures, each of an accepted vote that verifies
pub record IsMadeOfVotes (made : Made) (accepted : Vote → Type 0) (certificate : Certificate) : Type 0 where
  pub quorum : quorum_of made.members ≤ length (certificate_signatures certificate)
  pub each : All (IsVoteOn made accepted (certificate_subject certificate)) (certificate_signatures certificate)

-- it verifies, and is new or made of votes
pub record IsFoundedCertificate (made : Made)
    (accepted : Vote → Type 0) (is_new : Certificate → Type 0) (certificate : Certificate) : Type 0 where
  pub verifies : is_certified (made.scheme.verifies (certificate_subject certificate)) made.members
      (certificate_signatures certificate) ≡ true
  pub source : is_new certificate ⊎ IsMadeOfVotes made accepted certificate

-- the message is no certificate for the voter, or a founded one
abbrev pub IsFoundedMessage : Made → (Vote → Type 0) → (Certificate → Type 0) → Handed → Type 0
IsFoundedMessage made accepted is_new (handed.Voter (voter.Verified certificate)) =
    IsFoundedCertificate made accepted is_new certificate
IsFoundedMessage made accepted is_new _ = Unit {0}

-- the input brings it anew, and it is of the batcher's epoch and of a view that is retained, and verifies
pub record BringsVerified (made : Made) (standing : Standing)
    (given : BatcherInput) (certificate : Certificate) : Type 0 where
  pub brings : BringsNew standing given certificate
  pub epoch : certificate_epoch certificate ≡ made.epoch
  pub retained : retains_view made standing (certificate_view certificate) ≡ true
  pub verifies : is_certified (made.scheme.verifies (certificate_subject certificate)) made.members
      (certificate_signatures certificate) ≡ true

-- the step hands it to the voter
abbrev pub HandsOn : StepOut → Certificate → Type 0
HandsOn out certificate = Contains out.handed (handed.Voter (voter.Verified certificate))
