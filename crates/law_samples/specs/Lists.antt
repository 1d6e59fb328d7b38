-- The setups and events of the samples.
use Rattle.std.specs.Prelude.{ℕ, List, [], ◌∷◌, ◌++◌, replicate, Some, None, true, false}
use Rattle.simplex_values.specs.declared.answer.Answer.{Answer}
use Rattle.simplex_values.specs.declared.answer.Answer.TheVariants as answers
use Rattle.simplex_values.specs.declared.plan.Channel.TheVariants as channels
use Rattle.simplex_values.specs.declared.policy.ForwardPolicy.TheVariants as forward
use Rattle.simplex_values.specs.declared.policy.SkipPolicy.TheVariants as skip
use Rattle.simplex_values.specs.declared.proposal.Proposal.{Proposal}
use Rattle.simplex_values.specs.declared.proposal.Subject.{Subject}
use Rattle.simplex_values.specs.declared.proposal.Subject.TheVariants as subjects
use Rattle.simplex_values.specs.declared.round.Round.{Round}
use Rattle.simplex_wire.specs.declared.attestation.Attestation.{Attestation}
use Rattle.simplex_wire.specs.declared.certificate.Finalization.{Finalization}
use Rattle.simplex_wire.specs.declared.vote.Vote.TheVariants as votes
use Rattle.simplex_wire.specs.Message as format
use Rattle.simplex_types.specs.Keyed.{signature_of}
use Rattle.simplex_messages.specs.declared.step.Stop.{Stop}
use Rattle.simplex_messages.specs.declared.step.Stop.TheVariants as stops
use Rattle.simplex_transcript.specs.declared.event.Event.{Event}
use Rattle.simplex_transcript.specs.declared.event.Event.TheVariants as events
use Rattle.simplex_transcript.specs.declared.event.StepSource.{StepSource}
use Rattle.simplex_transcript.specs.declared.event.StepSource.TheVariants as sources
use Rattle.simplex_transcript.specs.declared.node.Node.{Node}
use Rattle.simplex_transcript.specs.declared.node.Ref.{Ref}
use Rattle.simplex_transcript.specs.declared.setup.Setup.{Setup}
use Rattle.simplex_transcript.specs.declared.setup.SetupRound.{SetupRound}
use Rattle.simplex_transcript.specs.declared.setup.MemberKind.{MemberKind}
use Rattle.simplex_transcript.specs.declared.setup.MemberKind.TheVariants as kinds

-- ---- setups: keys of base 1, terms of one view, nothing but the voter's deadlines

abbrev pub setup_of : List MemberKind → Setup
setup_of members = record {
  epoch = 0;
  key_base = 1;
  members = members;
  term = 1;
  lookahead = 0;
  leader_timeout = 1000;
  certification_timeout = 2000;
  retry = 500;
  stall = None;
  retention = 10;
  skip = skip.Disabled;
  forward = forward.Disabled;
  mailbox = 16;
  track = false;
  handoff = false;
  fetch_timeout = 1000;
  fetch_retry = 100;
  scenario = [];
}

-- one honest member
abbrev pub alone : Setup
alone = setup_of (kinds.Honest ∷ [])

-- three honest members, and a last one of this kind
abbrev pub with_last : MemberKind → Setup
with_last kind = setup_of (kinds.Honest ∷ kinds.Honest ∷ kinds.Honest ∷ kind ∷ [])

abbrev pub scripted : ℕ → List SetupRound → Setup
scripted term rounds = record (with_last kinds.Twin) { term = term; scenario = rounds }

abbrev pub round_with : (leader primary secondary : ℕ) → SetupRound
round_with leader primary secondary = record { leader = leader; primary = primary; secondary = secondary }

-- ---- nodes and names

abbrev pub node : ℕ → Node
node member = record { member = member; half = 0 }

abbrev pub second : ℕ → Node
second member = record { member = member; half = 1 }

abbrev pub at : ℕ → ℕ → Ref
at event place = record { event = event; place = place }

-- ---- events

abbrev pub starts : ℕ → Event
starts member = events.Start (node member) None stops.None

abbrev pub steps : ℕ → StepSource → Event
steps member source = events.Step (node member) source stops.None

abbrev pub steps_with : ℕ → StepSource → Stop → Event
steps_with member source stop = events.Step (node member) source stop

abbrev pub hears : ℕ → Ref → Event
hears member packet = events.Deliver (node member) packet

abbrev pub replies : ℕ → Ref → Answer → Event
replies member request answer = events.Answer (node member) request answer

-- the application's payload, 32 equal bytes
abbrev pub proposes : ℕ → Ref → ℕ → Event
proposes member request byte = replies member request (answers.Payload (replicate 32 byte))

abbrev pub approves : ℕ → Ref → Event
approves member request = replies member request (answers.Verdict true)

-- ---- one member finalizes its first view, with this event in the place of the eighth
abbrev pub to_finality : Event → List Event
to_finality eighth =
    starts 0
    ∷ proposes 0 (at 1 0) 17
    ∷ steps 0 sources.Propose
    ∷ steps 0 sources.Batcher
    ∷ steps 0 sources.Batcher
    ∷ steps 0 sources.Voter
    ∷ approves 0 (at 6 0)
    ∷ eighth
    ∷ []

abbrev pub finalizes : List Event
finalizes = to_finality (steps 0 sources.Certify) ++ steps 0 sources.Batcher ∷ steps 0 sources.Voter ∷ []

-- then its deadline comes, and once more half a second later
abbrev pub gives_up : List Event
gives_up =
    finalizes
    ++ events.Tick 999
    ∷ steps 0 sources.Timer
    ∷ events.Tick 1
    ∷ steps 0 sources.Timer
    ∷ events.Tick 499
    ∷ steps 0 sources.Timer
    ∷ events.Tick 1
    ∷ steps 0 sources.Timer
    ∷ []

-- the third call of its eighth event fails, a sync, and one pending record is kept; it starts again
abbrev pub fails_to_sync : ℕ → List Event
fails_to_sync call = to_finality (steps_with 0 sources.Certify (stops.Fail call 1)) ++ starts 0 ∷ []

-- what it finalized, and another payload
abbrev pub first_round : Round
first_round = record { epoch = 0; view = 1 }

abbrev pub first_block : ℕ → Proposal
first_block byte = record { round = first_round; parent = 0; payload = replicate 32 byte }

abbrev pub signed_by : ℕ → Subject → Attestation
signed_by member subject = record { signer = member; signature = signature_of 1 member subject }

abbrev pub finalization_of : ℕ → Finalization
finalization_of byte =
    record { proposal = first_block byte; certificate = signed_by 0 (subjects.Finalize (first_block byte)) ∷ [] }

-- it crashes, and starts at a finalization
abbrev pub restarts_at : Finalization → List Event
restarts_at floor = finalizes ++ events.Crash (node 0) ∷ events.Start (node 0) (Some floor) stops.None ∷ []

-- ---- four members: the second leads, and the first and the third vote
abbrev pub four_notarize : List Event
four_notarize =
    starts 0
    ∷ starts 1
    ∷ starts 2
    ∷ starts 3
    ∷ proposes 1 (at 2 0) 17
    ∷ steps 1 sources.Propose
    ∷ steps 0 sources.Batcher
    ∷ hears 0 (at 6 0)
    ∷ steps 0 sources.Voter
    ∷ approves 0 (at 9 0)
    ∷ steps 0 sources.Verify
    ∷ steps 2 sources.Batcher
    ∷ hears 2 (at 6 0)
    ∷ steps 2 sources.Voter
    ∷ approves 2 (at 14 0)
    ∷ steps 2 sources.Verify
    ∷ steps 3 sources.Batcher
    ∷ []

-- the fourth hears the votes, with the leader's twice, and the others in this order
abbrev pub and_tell : Ref → Ref → List Event
and_tell first last = four_notarize ++ hears 3 first ∷ hears 3 (at 6 0) ∷ hears 3 (at 6 0) ∷ hears 3 last ∷ []

-- ---- a leader whose step on its own proposal is stopped, and that starts again
abbrev pub stopped_at : Stop → List Event
stopped_at stop = starts 1 ∷ proposes 1 (at 1 0) 17 ∷ steps_with 1 sources.Propose stop ∷ starts 1 ∷ []

-- it proposes something else then
abbrev pub other_proposal : List Event
other_proposal = proposes 1 (at 4 0) 34 ∷ steps 1 sources.Propose ∷ []

-- a member's vote on the first payload, as it would sign it, shown by the last member
abbrev pub shown_vote : ℕ → Event
shown_vote member =
    events.Inject 3 channels.Vote (node 0 ∷ [])
    (format.vote.spelling (votes.Notarize
    (record { proposal = first_block 17; attestation = signed_by member (subjects.Notarize (first_block 17)) })))

-- the leader sends its vote, and the last member shows a vote on it
abbrev pub sent_and_shown : ℕ → List Event
sent_and_shown member = starts 1 ∷ proposes 1 (at 1 0) 17 ∷ steps 1 sources.Propose ∷ shown_vote member ∷ []

-- ---- a leader proposes, the last member hears it, and another hears what that one made of it
abbrev pub overheard : List Event
overheard =
    starts 1
    ∷ proposes 1 (at 1 0) 17
    ∷ steps 1 sources.Propose
    ∷ hears 3 (at 3 0)
    ∷ starts 0
    ∷ steps 0 sources.Batcher
    ∷ hears 0 (at 4 0)
    ∷ []

-- and its second packet, twice
abbrev pub overheard_both : List Event
overheard_both = overheard ++ hears 0 (at 4 1) ∷ hears 0 (at 4 1) ∷ []
