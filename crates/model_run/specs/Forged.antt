-- Which attestations in the packets of faulty nodes are forged: those of an honest member on a subject for which it sent
-- no vote.
use Rattle.std.specs.Prelude.{ℕ, ◌&&◌, Bool, not, List, [], ◌∷◌, map, filter, flat_map, find, Option, Some, None, Result, Ok, Err}
use Rattle.simplex_values.specs.declared.plan.Channel.{Channel}
use Rattle.simplex_values.specs.declared.plan.Channel.TheVariants as channels
use Rattle.simplex_values.specs.declared.proposal.Subject.{Subject}
use Rattle.simplex_wire.specs.declared.attestation.Attestation.{Attestation}
use Rattle.simplex_wire.specs.declared.error.DecodeError.{DecodeError}
use Rattle.simplex_wire.specs.declared.vote.Vote.{Vote}
use Rattle.simplex_wire.specs.declared.certificate.Certificate.{Certificate}
use Rattle.simplex_wire.specs.declared.resolver.ResolverMessage.{ResolverMessage}
use Rattle.simplex_wire.specs.declared.resolver.ResolverBody.{ResolverBody}
use Rattle.simplex_wire.specs.declared.resolver.ResolverBody.TheVariants as bodies
use Rattle.simplex_wire.specs.Format.{whole}
use Rattle.simplex_wire.specs.Message as format
use Rattle.simplex_wire.specs.ResolverMessage.{resolver_message}
use Rattle.simplex_wire.specs.Fields.{vote_subject, vote_attestation, certificate_subject, certificate_signatures}
use Rattle.simplex_types.specs.Keyed.{keyed_verifies}
use Rattle.simplex_transcript.specs.declared.entry.Entry.{Entry}
use Rattle.simplex_transcript.specs.declared.entry.Packet.{Packet}
use Rattle.simplex_transcript.specs.declared.refusal.RunError.{RunError}
use Rattle.simplex_transcript.specs.declared.refusal.RunError.TheVariants as refusals
use Rattle.simplex_transcript.specs.declared.setup.Setup.{Setup}
use Rattle.model_run.specs.Kinds.{members_of, is_honest, is_faulty_member}
use Rattle.model_run.specs.Life.{Noted}
use Rattle.model_run.specs.SentVotes.{has_sent}

-- an attestation, and what it is on
pub record Signed : Type 0 where
  pub subject : Subject
  pub attestation : Attestation

abbrev pub signed : Subject → Attestation → Signed
signed subject attestation = record { subject = subject; attestation = attestation }

-- ---- what is signed in bytes, in reading order. Bytes that do not decode as a whole hold nothing

abbrev pub signed_in_vote : Result Vote DecodeError → List Signed
signed_in_vote (Ok vote) = signed (vote_subject vote) (vote_attestation vote) ∷ []
signed_in_vote (Err fault) = []

abbrev pub signed_in_certificate : Result Certificate DecodeError → List Signed
signed_in_certificate (Ok certificate) =
    map (signed (certificate_subject certificate)) (certificate_signatures certificate)
signed_in_certificate (Err fault) = []

abbrev pub signed_in_body : ResolverBody → List Signed
signed_in_body (bodies.Response bytes) = signed_in_certificate (whole format.certificate bytes)
signed_in_body _ = []

abbrev pub signed_in_message : Result ResolverMessage DecodeError → List Signed
signed_in_message (Ok message) = signed_in_body message.body
signed_in_message (Err fault) = []

unfoldable pub signed_in : Channel → List ℕ → List Signed
signed_in channels.Vote bytes = signed_in_vote (whole format.vote bytes)
signed_in channels.Certificate bytes = signed_in_certificate (whole format.certificate bytes)
signed_in channels.Resolver bytes = signed_in_message (whole resolver_message bytes)

-- ---- what is forged

-- an honest member's attestation that verifies, on a subject for which it sent no vote
unfoldable pub is_forged : Setup → List Noted → Signed → Bool
is_forged setup before s =
    is_honest setup s.attestation.signer && keyed_verifies setup.key_base (members_of setup) s.subject s.attestation
    && not (has_sent before s.attestation.signer s.subject)

-- what the packets of faulty nodes hold, in reading order
abbrev pub signed_by_faulty : Setup → List Packet → List Signed
signed_by_faulty setup packets = flat_map (λ packet. signed_in packet.channel packet.bytes)
    (filter (λ packet. is_faulty_member setup packet.from.member) packets)

-- the first that is forged
unfoldable pub first_forged : Setup → List Noted → Entry → Option Signed
first_forged setup before entry = find (is_forged setup before) (signed_by_faulty setup entry.packets)

abbrev pub unless : Option Signed → Noted → Result Noted RunError
unless None noted = Ok noted
unless (Some s) noted = Err (refusals.Forged s.attestation.signer s.subject)

-- an event whose packets hold what is forged is refused
unfoldable pub unless_forged : Setup → List Noted → Result Noted RunError → Result Noted RunError
unless_forged setup before (Err error) = Err error
unless_forged setup before (Ok noted) = unless (first_forged setup before noted.entry) noted
