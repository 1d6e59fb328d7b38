-- Small values to try the members on.
use Rattle.std.specs.Prelude.{ℕ, List, [], Option, Some, replicate}
use Rattle.simplex_values.specs.declared.plan.Channel.TheVariants as channels
use Rattle.simplex_values.specs.declared.proposal.Proposal.{Proposal}
use Rattle.simplex_values.specs.declared.proposal.Subject.{Subject}
use Rattle.simplex_values.specs.declared.round.Round.{Round}
use Rattle.simplex_wire.specs.declared.attestation.Attestation.{Attestation}
use Rattle.simplex_wire.specs.declared.certificate.Certificate.{Certificate}
use Rattle.simplex_wire.specs.declared.certificate.Certificate.TheVariants as certificates
use Rattle.simplex_wire.specs.Message as message
use Rattle.model_faults.specs.declared.sent.Sent.{Sent}
use Rattle.model_faults.specs.Heard.{Heard, vote_on, to_all}
use Rattle.model_faults.specs.Equivocator.{Made}

-- a signature of 32 equal bytes, the member's number
abbrev pub signed : ℕ → Attestation
signed member = record { signer = member; signature = replicate 32 member }

abbrev pub signs : ℕ → Subject → Option Attestation
signs member subject = Some (signed member)

abbrev pub round : ℕ → ℕ → Round
round epoch view = record { epoch = epoch; view = view }

-- a proposal whose payload is 32 equal bytes
abbrev pub block : ℕ → ℕ → ℕ → Proposal
block view parent byte = record { round = round 0 view; parent = parent; payload = replicate 32 byte }

abbrev pub says : Subject → Heard
says subject = record { channel = channels.Vote; bytes = message.vote.spelling (vote_on subject (signed 1)) }

abbrev pub shows : Certificate → Heard
shows certificate = record { channel = channels.Certificate; bytes = message.certificate.spelling certificate }

abbrev pub votes : ℕ → Subject → Sent
votes member subject = to_all (vote_on subject (signed member))

-- words that count from 0
abbrev pub counting : ℕ → ℕ
counting place = place

-- member 3 of four, which leads each view
abbrev pub leader : Made
leader = record { attests = signs 3; leader = λ round. 3; me = Some 3; members = 4; epoch = 0; words = counting }

-- its proposal for view 3, with this payload
abbrev pub on_view_2 : List ℕ → Proposal
on_view_2 payload = record { round = round 0 3; parent = 2; payload = payload }

abbrev pub notarized : Proposal → Certificate
notarized p = certificates.Notarization (record { proposal = p; certificate = [] })

abbrev pub finalized : Proposal → Certificate
finalized p = certificates.Finalization (record { proposal = p; certificate = [] })
