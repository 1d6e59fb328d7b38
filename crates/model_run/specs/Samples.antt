-- What the samples are made of.
use Rattle.std.specs.Prelude.{ℕ, List, [], ◌∷◌, length, map, None, Result, Ok, Err, false}
use Rattle.simplex_values.specs.declared.answer.Answer.TheVariants as answers
use Rattle.simplex_values.specs.declared.plan.Channel.TheVariants as channels
use Rattle.simplex_messages.specs.declared.step.Outcome.{Outcome}
use Rattle.simplex_transcript.specs.declared.entry.Entry.{Entry}
use Rattle.simplex_transcript.specs.declared.refusal.Refusal.{Refusal}
use Rattle.simplex_values.specs.declared.policy.SkipPolicy.TheVariants as skip
use Rattle.simplex_values.specs.declared.policy.ForwardPolicy.TheVariants as forward
use Rattle.simplex_messages.specs.declared.step.Stop.TheVariants as stops
use Rattle.simplex_transcript.specs.declared.event.Event.{Event}
use Rattle.simplex_transcript.specs.declared.event.Event.TheVariants as events
use Rattle.simplex_transcript.specs.declared.event.StepSource.TheVariants as sources
use Rattle.simplex_transcript.specs.declared.node.Node.{Node}
use Rattle.simplex_transcript.specs.declared.node.Ref.{Ref}
use Rattle.simplex_transcript.specs.declared.setup.Setup.{Setup}
use Rattle.simplex_transcript.specs.declared.setup.MemberKind.{MemberKind}
use Rattle.simplex_transcript.specs.declared.setup.MemberKind.TheVariants as kinds

abbrev pub setup_of : List MemberKind → Setup
setup_of members = record {
  epoch = 0;
  key_base = 1;
  members = members;
  term = 1;
  lookahead = 0;
  leader_timeout = 1000;
  certification_timeout = 2000;
  retry = 500;
  stall = None;
  retention = 10;
  skip = skip.Disabled;
  forward = forward.Disabled;
  mailbox = 16;
  track = false;
  handoff = false;
  fetch_timeout = 1000;
  fetch_retry = 100;
  scenario = [];
}

-- no members, one honest member, and two
abbrev pub nobody : Setup
nobody = setup_of []

abbrev pub alone : Setup
alone = setup_of (kinds.Honest ∷ [])

abbrev pub crowd : Setup
crowd = setup_of (kinds.Honest ∷ kinds.Honest ∷ [])

-- a member whose mailboxes have room for nothing
abbrev pub cramped : Setup
cramped = record alone { mailbox = 0 }

abbrev pub at : Node
at = record { member = 0; half = 0 }

abbrev pub other : Node
other = record { member = 1; half = 0 }

abbrev pub half : Node
half = record { member = 0; half = 1 }

abbrev pub starts : Node → Event
starts node = events.Start node None stops.None

abbrev pub steps : Node → Event
steps node = events.Step node sources.Batcher stops.None

-- ---- four members, of whom the last is of this kind

abbrev pub with_last : MemberKind → Setup
with_last kind = setup_of (kinds.Honest ∷ kinds.Honest ∷ kinds.Honest ∷ kind ∷ [])

-- two of the four are faulty
abbrev pub with_two : Setup
with_two = setup_of (kinds.Silent ∷ kinds.Honest ∷ kinds.Honest ∷ kinds.Silent ∷ [])

-- the first half of the last member, and the second
abbrev pub last : Node
last = record { member = 3; half = 0 }

abbrev pub last_half : Node
last_half = record { member = 3; half = 1 }

-- the first request or packet of the first event
abbrev pub first : Ref
first = record { event = 1; place = 0 }

abbrev pub crashes : Node → Event
crashes node = events.Crash node

abbrev pub answers_first : Node → Event
answers_first node = events.Answer node first answers.Closed

abbrev pub hears_first : Node → Event
hears_first node = events.Deliver node first

-- a member sends bytes on the vote channel to the node
abbrev pub injects : ℕ → Node → List ℕ → Event
injects member to bytes = events.Inject member channels.Vote (to ∷ []) bytes

-- how the events of a run ended, and how many packets each made
abbrev pub outcomes_in : Result (List Entry) Refusal → List Outcome
outcomes_in (Ok entries) = map (λ (e : Entry). e.outcome) entries
outcomes_in (Err refusal) = []

abbrev pub packets_in : Result (List Entry) Refusal → List ℕ
packets_in (Ok entries) = map (λ (e : Entry). length e.packets) entries
packets_in (Err refusal) = []
