-- Entries that all words but one let pass, of a setup of one honest member. They are of no run.
use Rattle.std.specs.Prelude.{ℕ, zero, suc, List, [], ◌∷◌, map, None}
use Rattle.simplex_values.specs.declared.plan.Channel.TheVariants as channels
use Rattle.simplex_values.specs.declared.plan.Recipients.TheVariants as recipients
use Rattle.simplex_values.specs.declared.proposal.Proposal.{Proposal}
use Rattle.simplex_values.specs.declared.proposal.Subject.{Subject}
use Rattle.simplex_values.specs.declared.proposal.Subject.TheVariants as subjects
use Rattle.simplex_values.specs.declared.round.Round.{Round}
use Rattle.simplex_wire.specs.declared.artifact.Artifact.TheVariants as artifacts
use Rattle.simplex_wire.specs.declared.attestation.Attestation.{Attestation}
use Rattle.simplex_wire.specs.declared.certificate.Certificate.{Certificate}
use Rattle.simplex_wire.specs.declared.certificate.Certificate.TheVariants as certificates
use Rattle.simplex_wire.specs.declared.certificate.Nullification.{Nullification}
use Rattle.simplex_wire.specs.declared.vote.Notarize.{Notarize}
use Rattle.simplex_wire.specs.declared.vote.Nullify.{Nullify}
use Rattle.simplex_wire.specs.declared.vote.Vote.{Vote}
use Rattle.simplex_wire.specs.declared.vote.Vote.TheVariants as votes
use Rattle.simplex_wire.specs.Message as format
use Rattle.simplex_types.specs.Keyed.{signature_of}
use Rattle.simplex_types.specs.declared.activity.Activity.TheVariants as activities
use Rattle.simplex_types.specs.declared.cause.BlockCause.TheVariants.{ConflictingVotes}
use Rattle.simplex_messages.specs.declared.call.Call.{Call}
use Rattle.simplex_messages.specs.declared.call.Call.TheVariants as calls
use Rattle.simplex_messages.specs.declared.step.Outcome.{Outcome}
use Rattle.simplex_messages.specs.declared.step.Outcome.TheVariants as outcomes
use Rattle.simplex_messages.specs.declared.step.Stop.TheVariants as stops
use Rattle.simplex_transcript.specs.declared.entry.Packet.{Packet}
use Rattle.simplex_transcript.specs.declared.event.Event.{Event}
use Rattle.simplex_transcript.specs.declared.event.Event.TheVariants as events
use Rattle.simplex_transcript.specs.declared.event.StepSource.TheVariants as sources
use Rattle.model_run.specs.Entries.{node_of, noted_blank, noted_packets}
use Rattle.model_run.specs.Life.{Noted}
use Rattle.law_run.specs.Words.{Word, Backed, Genuine, Named, Founded, Stored, Ruled, Ordered, Blameless, Unbarred}
use Rattle.model_run.specs.Samples.{with_last, injects, at}
use Rattle.simplex_transcript.specs.declared.setup.MemberKind.TheVariants as kinds
use Rattle.simplex_transcript.specs.declared.setup.Setup.{Setup}

-- the one member signs
abbrev pub signed : Subject → Attestation
signed s = record { signer = 0; signature = signature_of 1 0 s }

-- view 1, of the setup's epoch and of another one
abbrev pub near : Round
near = record { epoch = 0; view = 1 }

abbrev pub far : Round
far = record { epoch = 7; view = 1 }

-- so many of this byte
abbrev pub bytes_of : ℕ → ℕ → List ℕ
bytes_of zero byte = []
bytes_of (suc n) byte = byte ∷ bytes_of n byte

-- a proposal on view 0, by its view and its payload; and one for view 1
abbrev pub block_at : ℕ → ℕ → Proposal
block_at view byte = record { round = record { epoch = 0; view = view }; parent = 0; payload = bytes_of 32 byte }

abbrev pub block : ℕ → Proposal
block byte = block_at 1 byte

abbrev pub notarize_of : Proposal → Notarize
notarize_of p = record { proposal = p; attestation = signed (subjects.Notarize p) }

abbrev pub own_notarize : ℕ → Notarize
own_notarize byte = notarize_of (block byte)

abbrev pub own_nullify : Round → Nullify
own_nullify r = record { round = r; attestation = signed (subjects.Nullify r) }

abbrev pub notarization_of : Proposal → Certificate
notarization_of p = certificates.Notarization (record { proposal = p; certificate = signed (subjects.Notarize p) ∷ [] })

abbrev pub notarized : ℕ → Certificate
notarized byte = notarization_of (block byte)

abbrev pub nullified : Round → Certificate
nullified r = certificates.Nullification (record { round = r; certificate = signed (subjects.Nullify r) ∷ [] })

-- a nullification of view 1 that nobody signed: it does not verify
abbrev pub bare_nullification : Nullification
bare_nullification = record { round = near; certificate = [] }

abbrev pub packet_of : Vote → Packet
packet_of v = record { from = node_of 0; channel = channels.Vote; to = []; bytes = format.vote.spelling v }

abbrev pub send : Vote → Call
send v = calls.Send channels.Vote recipients.All (format.vote.spelling v)

-- an entry in which these were added, these votes went out, and these calls were made
abbrev pub entry_of : Event → Outcome → List Certificate → List Vote → List Call → Noted
entry_of event outcome added out made =
    record {
      event = event;
      entry = record {
        event = 1;
        who = None;
        took = None;
        added = added;
        asked = [];
        dropped = [];
        handed = [];
        calls = made;
        packets = map packet_of out;
        outcome = outcome;
      };
      did = None;
    }

-- an entry of no node, and one of the member's node
abbrev pub apart : List Certificate → List Vote → List Call → Noted
apart = entry_of (events.Tick 0) outcomes.Done

abbrev pub its : Outcome → List Call → Noted
its outcome made = entry_of (events.Step (node_of 0) sources.Batcher stops.None) outcome [] [] made

-- The word forbids: a nullification that nobody voted for; a record of a nullification that nobody signed; a certificate of
-- another epoch; a notarization whose vote nobody stored; a vote that goes out and is not stored; one that is stored and not
-- due; two notarizes of one view; a report that the member contradicts itself; and a block of the member for that
abbrev pub sample : Word → List Noted
sample Backed = apart (nullified near ∷ []) [] [] ∷ []
sample Genuine = its outcomes.Cut (calls.Append 1 (artifacts.Nullification bare_nullification) ∷ []) ∷ []
sample Named = apart (nullified far ∷ []) (votes.Nullify (own_nullify far) ∷ []) [] ∷ []
sample Founded = apart (notarized 1 ∷ []) (votes.Notarize (own_notarize 1) ∷ []) [] ∷ []
sample Stored = its outcomes.Cut (send (votes.Nullify (own_nullify near)) ∷ []) ∷ []
sample Ruled =
    its outcomes.Done (calls.Append 1 (artifacts.Nullify (own_nullify near))
    ∷ calls.Sync 1 ∷ send (votes.Nullify (own_nullify near)) ∷ []) ∷ []
sample Ordered = apart [] (votes.Notarize (own_notarize 1) ∷ votes.Notarize (own_notarize 2) ∷ []) [] ∷ []
sample Blameless = apart [] [] (calls.Report
    (activities.ConflictingNotarize (record { first = own_notarize 1; second = own_notarize 2 })) ∷ []) ∷ []
sample Unbarred = apart [] [] (calls.Block 0 ConflictingVotes ∷ []) ∷ []

-- of four members the last is silent: the clock goes on, and bytes that are nothing go out under that member's name
abbrev pub with_silent : Setup
with_silent = with_last kinds.Silent

abbrev pub noise : Event
noise = injects 3 at (7 ∷ [])

abbrev pub after_tick : List Noted
after_tick = noted_blank [] (events.Tick 5) None ∷ []

abbrev pub after_noise : List Noted
after_noise = noted_packets after_tick noise (node_of 3) None
    (record { from = node_of 3; channel = channels.Vote; to = at ∷ []; bytes = 7 ∷ [] } ∷ []) ∷ after_tick
