-- Which certificates stand in a run, and when one is backed.
use Rattle.std.specs.Prelude.{ℕ, ◌≡◌, ◌⊎◌, ◌++◌, true, List, [], ◌∷◌, All, Contains, Result, Ok, Err}
use Rattle.std.specs.List.{flat_map}
use Rattle.simplex_values.specs.declared.plan.Channel.{Channel}
use Rattle.simplex_values.specs.declared.plan.Channel.TheVariants as channels
use Rattle.simplex_wire.specs.declared.artifact.Artifact.{Artifact}
use Rattle.simplex_wire.specs.declared.artifact.Artifact.TheVariants as artifacts
use Rattle.simplex_wire.specs.declared.attestation.Attestation.{Attestation}
use Rattle.simplex_wire.specs.declared.certificate.Certificate.{Certificate}
use Rattle.simplex_wire.specs.declared.certificate.Certificate.TheVariants as certificates
use Rattle.simplex_wire.specs.declared.error.DecodeError.{DecodeError}
use Rattle.simplex_wire.specs.Certified.{is_certified}
use Rattle.simplex_wire.specs.Fields.{certificate_subject, certificate_signatures}
use Rattle.simplex_wire.specs.Format.{whole}
use Rattle.simplex_wire.specs.Message as format
use Rattle.simplex_wire.specs.declared.resolver.ResolverBody.{ResolverBody}
use Rattle.simplex_wire.specs.declared.resolver.ResolverBody.TheVariants as bodies
use Rattle.simplex_wire.specs.declared.resolver.ResolverMessage.{ResolverMessage}
use Rattle.simplex_wire.specs.ResolverMessage.{resolver_message}
use Rattle.simplex_types.specs.Keyed.{keyed_verifies}
use Rattle.simplex_types.specs.declared.activity.Activity.{Activity}
use Rattle.simplex_types.specs.declared.activity.Activity.TheVariants as activities
use Rattle.simplex_messages.specs.declared.call.Call.{Call}
use Rattle.simplex_messages.specs.declared.call.Call.TheVariants as calls
use Rattle.simplex_messages.specs.declared.handed.Handed.{Handed}
use Rattle.simplex_messages.specs.declared.handed.Handed.TheVariants as handed
use Rattle.simplex_messages.specs.declared.resolver.MailboxMessage.TheVariants as resolver
use Rattle.simplex_messages.specs.declared.voter.Message.TheVariants as voter
use Rattle.simplex_transcript.specs.declared.entry.Entry.{Entry}
use Rattle.simplex_transcript.specs.declared.entry.Packet.{Packet}
use Rattle.simplex_transcript.specs.declared.setup.Setup.{Setup}
use Rattle.model_run.specs.Life.{Noted}
use Rattle.model_run.specs.Members.{members_of}
use Rattle.law_run.specs.Faulty.{faulty_of}
use Rattle.law_run.specs.Voting.{HasSigned}

-- ---- the certificates that stand in an entry

abbrev pub of_record : Artifact → List Certificate
of_record (artifacts.Notarization c) = certificates.Notarization c ∷ []
of_record (artifacts.Nullification c) = certificates.Nullification c ∷ []
of_record (artifacts.Finalization c) = certificates.Finalization c ∷ []
of_record _ = []

abbrev pub of_report : Activity → List Certificate
of_report (activities.Notarization c) = certificates.Notarization c ∷ []
of_report (activities.Certification c) = certificates.Notarization c ∷ []
of_report (activities.Nullification c) = certificates.Nullification c ∷ []
of_report (activities.Finalization c) = certificates.Finalization c ∷ []
of_report _ = []

abbrev pub of_call : Call → List Certificate
of_call (calls.Append section artifact) = of_record artifact
of_call (calls.Report activity) = of_report activity
of_call _ = []

abbrev pub of_message : Handed → List Certificate
of_message (handed.Voter (voter.Verified c)) = c ∷ []
of_message (handed.Resolver (resolver.Updated c)) = c ∷ []
of_message (handed.Resolver (resolver.Certified c success)) = certificates.Notarization c ∷ []
of_message _ = []

-- the one that was read, where one was
abbrev pub read_certificate : Result Certificate DecodeError → List Certificate
read_certificate (Ok c) = c ∷ []
read_certificate (Err error) = []

-- of a response the one that it carries
abbrev pub in_body : ResolverBody → List Certificate
in_body (bodies.Response bytes) = read_certificate (whole format.certificate bytes)
in_body _ = []

abbrev pub in_response : Result ResolverMessage DecodeError → List Certificate
in_response (Ok message) = in_body message.body
in_response (Err error) = []

abbrev pub certificate_on : Channel → List ℕ → List Certificate
certificate_on channels.Certificate bytes = read_certificate (whole format.certificate bytes)
certificate_on channels.Resolver bytes = in_response (whole resolver_message bytes)
certificate_on _ bytes = []

abbrev pub of_packet : Packet → List Certificate
of_packet packet = certificate_on packet.channel packet.bytes

-- added, handed on, appended, reported, or in a packet
abbrev pub standing_in : Entry → List Certificate
standing_in entry =
    entry.added ++ flat_map of_message entry.handed ++ flat_map of_call entry.calls ++ flat_map of_packet entry.packets

-- ---- backing

-- a quorum of the setup's members signed it, in rising order, and each signature verifies
abbrev pub IsVerifying : Setup → Certificate → Type 0
IsVerifying setup c =
    is_certified (keyed_verifies setup.key_base (members_of setup) (certificate_subject c))
    (members_of setup) (certificate_signatures c) ≡ true

-- each signer is faulty, or sent the signed vote
abbrev pub IsBackedIn : Setup → List Noted → Certificate → Type 0
IsBackedIn setup noted c =
    All (λ (a : Attestation). Contains (faulty_of setup) a.signer
    ⊎ HasSigned noted (certificate_subject c) a) (certificate_signatures c)

-- each certificate that stands in an entry and verifies is backed by what was sent in this entry and those before it
unfoldable pub AreBacked : Setup → List Noted → Type 0
AreBacked setup [] = Unit {0}
AreBacked setup (noted ∷ before) =
    ((c : Certificate) → Contains (standing_in noted.entry) c → IsVerifying setup c
    → IsBackedIn setup (noted ∷ before) c)
    × AreBacked setup before

-- one of the entries has it
unfoldable pub StandsIn : List Noted → Certificate → Type 0
StandsIn [] c = ⊥
StandsIn (noted ∷ before) c = Contains (standing_in noted.entry) c ⊎ StandsIn before c
