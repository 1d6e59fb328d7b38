-- What a faulty member hears, and the votes that it answers with.
use Rattle.std.specs.Prelude.{ℕ, List, Option, None, map, filter_map, option_map}
use Rattle.std.specs.Result.{result_ok}
use Rattle.simplex_values.specs.declared.plan.Channel.{Channel}
use Rattle.simplex_values.specs.declared.plan.Channel.TheVariants as channels
use Rattle.simplex_values.specs.declared.plan.Recipients.TheVariants as recipients
use Rattle.simplex_values.specs.declared.proposal.Subject.{Subject}
use Rattle.simplex_values.specs.declared.proposal.Subject.TheVariants as subjects
use Rattle.simplex_wire.specs.declared.attestation.Attestation.{Attestation}
use Rattle.simplex_wire.specs.declared.certificate.Certificate.{Certificate}
use Rattle.simplex_wire.specs.declared.vote.Vote.{Vote}
use Rattle.simplex_wire.specs.declared.vote.Vote.TheVariants as votes
use Rattle.simplex_wire.specs.Fields.{vote_subject}
use Rattle.simplex_wire.specs.Format.{whole}
use Rattle.simplex_wire.specs.Message as message
use Rattle.model_faults.specs.declared.sent.Sent.{Sent}

-- a message, and the channel on which it came. A history is a list of these, the newest first
pub record Heard : Type 0 where
  pub channel : Channel
  pub bytes : List ℕ

-- what the vote that was heard is about: other channels, and bytes that spell no vote, say nothing
unfoldable pub subject_heard : Heard → Option Subject
subject_heard heard = on_votes heard.channel (option_map vote_subject (result_ok (whole message.vote heard.bytes)))
  where
    on_votes : Channel → Option Subject → Option Subject
    on_votes channels.Vote heard = heard
    on_votes _ heard = None

-- the certificate that was heard
unfoldable pub certificate_heard : Heard → Option Certificate
certificate_heard heard = on_certificates heard.channel (result_ok (whole message.certificate heard.bytes))
  where
    on_certificates : Channel → Option Certificate → Option Certificate
    on_certificates channels.Certificate heard = heard
    on_certificates _ heard = None

-- ---- own votes

abbrev pub vote_on : Subject → Attestation → Vote
vote_on (subjects.Notarize proposal) a = votes.Notarize (record { proposal = proposal; attestation = a })
vote_on (subjects.Nullify round) a = votes.Nullify (record { round = round; attestation = a })
vote_on (subjects.Finalize proposal) a = votes.Finalize (record { proposal = proposal; attestation = a })

-- the own vote on a subject, where the scheme signs it
unfoldable pub own_vote : (Subject → Option Attestation) → Subject → Option Vote
own_vote attests subject = option_map (vote_on subject) (attests subject)

-- a vote that goes to all
abbrev pub to_all : Vote → Sent
to_all vote = record { channel = channels.Vote; recipients = recipients.All; bytes = message.vote.spelling vote }

-- the own votes on these subjects, each to all, in order
unfoldable pub votes_to_all : (Subject → Option Attestation) → List Subject → List Sent
votes_to_all attests about = map to_all (filter_map (own_vote attests) about)
