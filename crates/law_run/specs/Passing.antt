-- What a faulty member passes on: what faulty members signed, and what others sent.
use Rattle.std.specs.Prelude.{ℕ, ◌≡◌, ◌⊎◌, true, List, All, Contains, Ok}
use Rattle.simplex_values.specs.declared.plan.Channel.{Channel}
use Rattle.simplex_values.specs.declared.plan.Channel.TheVariants as channels
use Rattle.simplex_values.specs.declared.proposal.Subject.{Subject}
use Rattle.simplex_wire.specs.declared.attestation.Attestation.{Attestation}
use Rattle.simplex_wire.specs.declared.certificate.Certificate.{Certificate}
use Rattle.simplex_wire.specs.declared.vote.Vote.{Vote}
use Rattle.simplex_wire.specs.Fields.{vote_subject, vote_attestation, certificate_subject, certificate_signatures}
use Rattle.simplex_wire.specs.Format.{whole}
use Rattle.simplex_wire.specs.Message as format
use Rattle.simplex_types.specs.Keyed.{keyed_verifies}
use Rattle.simplex_transcript.specs.declared.entry.Packet.{Packet}
use Rattle.simplex_transcript.specs.declared.setup.Setup.{Setup}
use Rattle.model_run.specs.Kinds.{members_of, is_faulty_member}
use Rattle.model_run.specs.Life.{Noted}
use Rattle.law_run.specs.Backed.{certificate_on}
use Rattle.law_run.specs.Faulty.{faulty_of}
use Rattle.law_run.specs.Voting.{HasVoted}

-- where the signature verifies, its signer is faulty, or sent a vote on the subject
abbrev pub IsOwnOrSent : Setup → List Noted → Subject → Attestation → Type 0
IsOwnOrSent setup before subject a =
    keyed_verifies setup.key_base (members_of setup) subject a ≡ true
    → Contains (faulty_of setup) a.signer ⊎ HasVoted before a.signer subject

-- so it is with each signature that is read from the bytes
abbrev pub PassesOn : Setup → List Noted → Channel → List ℕ → Type 0
PassesOn setup before channels.Vote bytes =
    (v : Vote) → whole format.vote bytes ≡ Ok v → IsOwnOrSent setup before (vote_subject v) (vote_attestation v)
PassesOn setup before channels.Certificate bytes =
    (c : Certificate) → whole format.certificate bytes ≡ Ok c
    → All (IsOwnOrSent setup before (certificate_subject c)) (certificate_signatures c)
PassesOn setup before channels.Resolver bytes =
    (c : Certificate) → Contains (certificate_on channels.Resolver bytes) c
    → All (IsOwnOrSent setup before (certificate_subject c)) (certificate_signatures c)

-- a packet of a faulty member does
abbrev pub PassesFrom : Setup → List Noted → Packet → Type 0
PassesFrom setup before p = is_faulty_member setup p.from.member ≡ true → PassesOn setup before p.channel p.bytes
