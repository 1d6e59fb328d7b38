-- The values that have a spelling: numbers keep to their types, and digests and signatures have 32 bytes.
use Rattle.std.specs.Prelude.{◌≡◌, ℕ, ◌<◌, ◌^◌, List, length, slice_index}
use Rattle.std.specs.List.{AllByRecursion}
use Rattle.simplex_wire.specs.declared.certificate.Notarization.{Notarization}
use Rattle.simplex_wire.specs.declared.certificate.Nullification.{Nullification}
use Rattle.simplex_wire.specs.declared.certificate.Finalization.{Finalization}
use Rattle.simplex_wire.specs.declared.certificate.Certificate.{Certificate}
use Rattle.simplex_wire.specs.declared.certificate.Certificate.TheVariants as certificates
use Rattle.simplex_wire.specs.Signatures.{IsSignatures}
use Rattle.simplex_values.specs.declared.round.Round.{Round}
use Rattle.simplex_values.specs.declared.proposal.Proposal.{Proposal}
use Rattle.simplex_wire.specs.declared.attestation.Attestation.{Attestation}
use Rattle.simplex_wire.specs.declared.vote.Notarize.{Notarize}
use Rattle.simplex_wire.specs.declared.vote.Nullify.{Nullify}
use Rattle.simplex_wire.specs.declared.vote.Finalize.{Finalize}
use Rattle.simplex_wire.specs.declared.vote.Vote.{Vote}
use Rattle.simplex_wire.specs.declared.vote.Vote.TheVariants as votes

abbrev pub IsBytes : List ℕ → Type 0
IsBytes bytes = (i : ℕ) → slice_index bytes i < 256

pub record IsRaw (n : ℕ) (bytes : List ℕ) : Type 0 where
  pub len : length bytes ≡ n
  pub each : IsBytes bytes

abbrev pub FitsRound : Round → Type 0
FitsRound r = (r.epoch < 2 ^ 64) × (r.view < 2 ^ 64)

abbrev pub FitsProposal : Proposal → Type 0
FitsProposal p = FitsRound p.round × ((p.parent < 2 ^ 64) × IsRaw 32 p.payload)

abbrev pub FitsAttestation : Attestation → Type 0
FitsAttestation a = (a.signer < 2 ^ 32) × IsRaw 32 a.signature

abbrev pub FitsNotarize : Notarize → Type 0
FitsNotarize v = FitsProposal v.proposal × FitsAttestation v.attestation

abbrev pub FitsNullify : Nullify → Type 0
FitsNullify v = FitsRound v.round × FitsAttestation v.attestation

abbrev pub FitsFinalize : Finalize → Type 0
FitsFinalize v = FitsProposal v.proposal × FitsAttestation v.attestation

abbrev pub FitsVote : Vote → Type 0
FitsVote (votes.Notarize v) = FitsNotarize v
FitsVote (votes.Nullify v) = FitsNullify v
FitsVote (votes.Finalize v) = FitsFinalize v

abbrev pub FitsSignatures : List Attestation → Type 0
FitsSignatures list = IsSignatures list × AllByRecursion FitsAttestation list

abbrev pub FitsNotarization : Notarization → Type 0
FitsNotarization c = FitsProposal c.proposal × FitsSignatures c.certificate

abbrev pub FitsNullification : Nullification → Type 0
FitsNullification c = FitsRound c.round × FitsSignatures c.certificate

abbrev pub FitsFinalization : Finalization → Type 0
FitsFinalization c = FitsProposal c.proposal × FitsSignatures c.certificate

abbrev pub FitsCertificate : Certificate → Type 0
FitsCertificate (certificates.Notarization c) = FitsNotarization c
FitsCertificate (certificates.Nullification c) = FitsNullification c
FitsCertificate (certificates.Finalization c) = FitsFinalization c
