-- Whom a step blocks, and for what.
use Rattle.std.specs.Prelude.{◌≡◌, ◌≢◌, ℕ, ◌⊎◌, false, Ok, Err}
use Rattle.simplex_wire.specs.declared.error.DecodeError.{DecodeError}
use Rattle.simplex_wire.specs.declared.vote.Vote.{Vote}
use Rattle.simplex_wire.specs.declared.vote.Vote.TheVariants as votes
use Rattle.simplex_wire.specs.declared.vote.Nullify.{Nullify}
use Rattle.simplex_wire.specs.declared.vote.Finalize.{Finalize}
use Rattle.simplex_wire.specs.declared.certificate.Certificate.{Certificate}
use Rattle.simplex_wire.specs.Format.{whole}
use Rattle.simplex_wire.specs.Message as format
use Rattle.simplex_wire.specs.Certified.{is_certified}
use Rattle.simplex_wire.specs.Fields.{vote_subject, vote_attestation, vote_kind, certificate_subject, certificate_signatures}
use Rattle.simplex_types.specs.declared.cause.BlockCause.{BlockCause}
use Rattle.simplex_types.specs.declared.cause.BlockCause.TheVariants as causes
use Rattle.simplex_round.specs.Votes.{vote_signer}
use Rattle.simplex_messages.specs.declared.batcher.BatcherInput.{BatcherInput}
use Rattle.simplex_messages.specs.declared.batcher.BatcherInput.TheVariants as input
use Rattle.simplex_messages.specs.declared.call.Call.{Call}
use Rattle.simplex_messages.specs.declared.call.Call.TheVariants as call
use Rattle.model_steps.specs.Batcher.{Made, vote_epoch, certificate_epoch}
use Rattle.law_member.specs.Reports.{SignedBoth}

-- the input is a packet of the member that is no vote and no certificate
abbrev pub IsNoise : BatcherInput → ℕ → Type 0
IsNoise (input.Vote sender bytes) member = (sender ≡ member)
    × (fault : DecodeError) × (whole format.vote bytes ≡ Err fault)
IsNoise (input.Certificate sender bytes) member =
    (sender ≡ member) × (fault : DecodeError) × (whole format.certificate bytes ≡ Err fault)
IsNoise (input.Mail message) member = ⊥

-- it is a packet of the member that is this vote, and this certificate
abbrev pub IsVoteOf : BatcherInput → ℕ → Vote → Type 0
IsVoteOf (input.Vote sender bytes) member vote = (sender ≡ member) × (whole format.vote bytes ≡ Ok vote)
IsVoteOf _ member vote = ⊥

abbrev pub IsCertificateOf : BatcherInput → ℕ → Certificate → Type 0
IsCertificateOf (input.Certificate sender bytes) member certificate =
    (sender ≡ member) × (whole format.certificate bytes ≡ Ok certificate)
IsCertificateOf _ member certificate = ⊥

-- what the member did, by the cause for which it is blocked. For the last two a batcher blocks nobody
abbrev pub Did : Made → (accepted came : Vote → Type 0) → BatcherInput → ℕ → BlockCause → Type 0
Did made accepted came given member causes.Undecodable = IsNoise given member
Did made accepted came given member causes.WrongEpoch =
    ((v : Vote) × IsVoteOf given member v × (vote_epoch v ≢ made.epoch))
    ⊎ ((c : Certificate) × IsCertificateOf given member c × (certificate_epoch c ≢ made.epoch))
Did made accepted came given member causes.InvalidCertificate =
    (c : Certificate) × IsCertificateOf given member c
    × (is_certified (made.scheme.verifies (certificate_subject c)) made.members (certificate_signatures c) ≡ false)
Did made accepted came given member causes.WrongSender = (v : Vote) × IsVoteOf given member v × (vote_signer v ≢ member)
Did made accepted came given member causes.ConflictingVotes =
    (first second : Vote) × (vote_signer first ≡ member) × (vote_kind first ≡ vote_kind second)
    × SignedBoth accepted came first second
Did made accepted came given member causes.NullifyAndFinalize =
    (n : Nullify) × (f : Finalize) × (n.attestation.signer ≡ member)
    × SignedBoth accepted came (votes.Nullify n) (votes.Finalize f)
Did made accepted came given member causes.InvalidSignature =
    (v : Vote) × accepted v × (vote_signer v ≡ member)
    × (made.scheme.verifies (vote_subject v) (vote_attestation v) ≡ false)
Did made accepted came given member causes.LeaderConflict = ⊥
Did made accepted came given member causes.InvalidResponse = ⊥

-- the call is no block, or the member did that for which it is blocked
abbrev pub IsFoundedBlock : Made → (accepted came : Vote → Type 0) → BatcherInput → Call → Type 0
IsFoundedBlock made accepted came given (call.Block member cause) = Did made accepted came given member cause
IsFoundedBlock made accepted came given _ = Unit {0}
