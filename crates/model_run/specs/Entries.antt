-- The entry that an event makes, or the first refusal.
use Rattle.std.specs.Prelude.{ℕ, ◌+◌, ◌-◌, ◌*◌, ◌^◌, ◌==◌, ◌&&◌, nat_lt, nat_le, Bool, true, false, List, [], ◌∷◌, length, map, Option, Some, None, Result, Ok, Err, if◌then◌else◌}
use Rattle.std.specs.List.{filter_map, list_any, list_all}
use Rattle.std.specs.Option.{option_map, option_and_then}
use Rattle.std.specs.Str.{bytes_eq}
use Rattle.std.specs.Cmp.Lexicographic.{pointwise}
use Rattle.simplex_values.specs.declared.answer.Answer.{Answer}
use Rattle.simplex_values.specs.declared.plan.Channel.{Channel}
use Rattle.simplex_values.specs.Terms.{greatest_view}
use Rattle.simplex_values.specs.Proposal.{is_same_proposal}
use Rattle.simplex_wire.specs.declared.attestation.Attestation.{Attestation}
use Rattle.simplex_wire.specs.declared.certificate.Finalization.{Finalization}
use Rattle.simplex_types.specs.declared.activity.Activity.TheVariants as activities
use Rattle.model_rules.specs.Views.{current_of}
use Rattle.simplex_messages.specs.declared.call.Call.{Call}
use Rattle.simplex_messages.specs.declared.call.Call.TheVariants as calls
use Rattle.simplex_messages.specs.declared.step.Outcome.{Outcome}
use Rattle.simplex_messages.specs.declared.step.Outcome.TheVariants as outcomes
use Rattle.simplex_messages.specs.declared.step.Stop.{Stop}
use Rattle.simplex_transcript.specs.declared.event.Event.{Event}
use Rattle.simplex_transcript.specs.declared.event.Event.TheVariants as events
use Rattle.simplex_transcript.specs.declared.event.StepSource.{StepSource}
use Rattle.simplex_transcript.specs.declared.event.StepSource.TheVariants as sources
use Rattle.simplex_transcript.specs.declared.entry.Entry.{Entry}
use Rattle.simplex_transcript.specs.declared.entry.Packet.{Packet}
use Rattle.simplex_transcript.specs.declared.entry.Took.{Took}
use Rattle.simplex_transcript.specs.declared.entry.Took.TheVariants as tooks
use Rattle.simplex_transcript.specs.declared.node.Node.{Node}
use Rattle.simplex_transcript.specs.declared.node.Ref.{Ref}
use Rattle.simplex_transcript.specs.declared.setup.Setup.{Setup}
use Rattle.simplex_transcript.specs.declared.refusal.RunError.{RunError}
use Rattle.simplex_transcript.specs.declared.refusal.RunError.TheVariants as refusals
use Rattle.model_steps.specs.Voter.{Standing, answer_to, first_answered}
use Rattle.model_steps.specs.VoterLife.{place_of}
use Rattle.model_steps.specs.Engine as engine
use Rattle.model_steps.specs.Engine.{EngineMade, Did, Taken}
use Rattle.model_run.specs.Setting.{Setting}
use Rattle.model_run.specs.Kinds.{members_of, is_node, is_honest, runs_engine}
pub use Rattle.model_run.specs.Kinds.{node_of}
use Rattle.model_run.specs.Members.{kind_of, floor_of, engine_of}
use Rattle.model_run.specs.Routing.{packet_for_send}
pub use Rattle.model_run.specs.Routing.{nodes_for}
use Rattle.model_run.specs.Life.{Noted, Life, Stopped, Running, clock_of, life_in}
use Rattle.model_run.specs.Requests.{request_number, request_place, packet_for}
use Rattle.model_run.specs.Mocks.{Sent, heard_by}
use Rattle.model_run.specs.Hearing.{heard_of, heard_in}
use Rattle.model_run.specs.Forged.{unless_forged}

-- ---- packets

abbrev pub packet_of : Setup → Node → Call → Option Packet
packet_of setup from (calls.Send channel to bytes) = Some (packet_for_send setup from channel to bytes)
packet_of setup from _ = None

-- each send is one packet, in order
abbrev pub packets_of : Setup → Node → List Call → List Packet
packets_of setup from made = filter_map (packet_of setup from) made

-- ---- entries

-- an entry in which nothing happens
abbrev pub blank_entry : ℕ → Option Node → Entry
blank_entry number who =
    record {
      event = number;
      who = who;
      took = None;
      added = [];
      asked = [];
      dropped = [];
      handed = [];
      calls = [];
      packets = [];
      outcome = outcomes.Done;
    }

-- the entry of what an engine did
abbrev pub entry_with : Setup → ℕ → Node → Option Took → Did → Entry
entry_with setup number node took did =
    record {
      event = number;
      who = Some node;
      took = took;
      added = did.out.added;
      asked = did.out.asked;
      dropped = did.out.dropped;
      handed = did.out.handed;
      calls = did.out.calls;
      packets = packets_of setup node did.out.calls;
      outcome = did.outcome;
    }

abbrev pub noted_with : Setup → List Noted → Event → Node → Option Took → Did → Noted
noted_with setup before event node took did =
    record { event = event; entry = entry_with setup (length before + 1) node took did; did = Some did }

abbrev pub noted_blank : List Noted → Event → Option Node → Noted
noted_blank before event who = record { event = event; entry = blank_entry (length before + 1) who; did = None }

-- an entry in which a faulty node without an engine held nothing
abbrev pub noted_idle : List Noted → Event → Node → Noted
noted_idle before event node =
    record {
      event = event;
      entry = record (blank_entry (length before + 1) (Some node)) {
        outcome = outcomes.Idle;
      };
      did = None;
    }

-- the entry of packets that were not made by an engine
abbrev pub noted_packets : List Noted → Event → Node → Option Took → List Packet → Noted
noted_packets before event node took packets =
    record {
      event = event;
      entry = record (blank_entry (length before + 1) (Some node)) {
        took = took;
        packets = packets;
      };
      did = None;
    }

-- ---- what a step took

abbrev pub answered_at : List Noted → Node → ℕ → Answer → Option Took
answered_at before node number answer = option_map (λ at. tooks.Request at answer) (request_place before node number)

abbrev pub answer_taken : List Noted → Node → Standing → ℕ → Option Took
answer_taken before node s number = option_and_then (answered_at before node number) (answer_to s.answers number)

-- the message, the answer with the request that it is for, or the deadline
unfoldable pub taken_of : List Noted → Node → Standing → Taken → Option Took
taken_of before node s (engine.Took sources.Propose message) =
    option_and_then (λ p. answer_taken before node s p.number) s.desk.proposal
taken_of before node s (engine.Took sources.Verify message) =
    option_and_then (λ v. answer_taken before node s v.number) s.desk.verify
taken_of before node s (engine.Took sources.Certify message) =
    option_and_then (λ taken. answered_at before node taken.0.number taken.1) (first_answered s.desk.certify s.answers)
taken_of before node s (engine.Took sources.Timer message) = Some tooks.Timer
taken_of before node s (engine.Took sources.Fetch message) = Some tooks.Timer
taken_of before node s (engine.Took source message) = option_map tooks.Message message
taken_of before node s _ = None

abbrev pub took_of : List Noted → Node → EngineMade → List Did → Did → Option Took
took_of before node made past did =
    if_whole did.outcome
    (taken_of before node (place_of (engine.voter_in made past) (engine.voter_past past)).standing did.taken)
  where
    if_whole : Outcome → Option Took → Option Took
    if_whole outcomes.Idle took = None
    if_whole _ took = took

-- ---- refusals

-- whether the engine's current view is too near the greatest view
abbrev pub is_at_end : Setup → EngineMade → List Did → Bool
is_at_end setup made past =
    nat_lt (greatest_view - 2 * setup.term - setup.lookahead)
    (current_of (engine.voter_in made past).rules
    (place_of (engine.voter_in made past) (engine.voter_past past)).standing.desk.known)

abbrev pub is_same_attestation : Attestation → Attestation → Bool
is_same_attestation a b = a.signer == b.signer && bytes_eq a.signature b.signature

abbrev pub are_same_attestations : List Attestation → List Attestation → Bool
are_same_attestations = pointwise is_same_attestation

-- whether the call reports this very finalization
abbrev pub reports : Finalization → Call → Bool
reports f (calls.Report (activities.Finalization g)) =
    is_same_proposal f.proposal g.proposal && are_same_attestations f.certificate g.certificate
reports f _ = false

-- whether the entry is one of an honest member
abbrev pub is_of_honest : Setup → Option Node → Bool
is_of_honest setup None = false
is_of_honest setup (Some node) = is_honest setup node.member

-- whether an honest node reported the finalization
unfoldable pub was_reported : Setup → List Noted → Finalization → Bool
was_reported setup before f =
    list_any (λ noted. is_of_honest setup noted.entry.who && list_any (reports f) noted.entry.calls) before

abbrev pub is_own_floor : Setup → List Noted → Option Finalization → Bool
is_own_floor setup before None = true
is_own_floor setup before (Some f) = was_reported setup before f

-- ---- one event. The refusals are tested in the order in which the cases nest

abbrev pub on_start : Setting → List Noted → Node → Option Finalization → Stop → Life → Result Noted RunError
on_start setting before node floor stop (Running made past) = Err refusals.NotStopped
on_start setting before node floor stop (Stopped sections) =
    if is_own_floor setting.setup before floor
    then (let now = clock_of before in
    Ok (noted_with setting.setup before (events.Start node floor stop) node (Some tooks.Floor)
    (engine.begun (engine_of setting node.member (floor_of setting.genesis floor) sections) now stop)))
    else Err refusals.ForeignFloor

abbrev pub on_packet : Setup → List Noted → Node → Ref → Option Packet → EngineMade → List Did → Result Noted RunError
on_packet setup before node at None made past = Err refusals.NoPacket
on_packet setup before node at (Some packet) made past =
    if is_at_end setup made past then Err refusals.ViewEnd
    else Ok (noted_with setup before (events.Deliver node at) node (Some (tooks.Packet at))
    (engine.heard made past packet.from.member packet.channel packet.bytes (clock_of before)))

abbrev pub on_deliver : Setup → List Noted → Node → Ref → Life → Result Noted RunError
on_deliver setup before node at (Stopped sections) = Err refusals.NotRunning
on_deliver setup before node at (Running made past) =
    on_packet setup before node at (packet_for before node at) made past

abbrev pub on_step : Setup → List Noted → Node → StepSource → Stop → Life → Result Noted RunError
on_step setup before node source stop (Stopped sections) = Err refusals.NotRunning
on_step setup before node source stop (Running made past) =
    if is_at_end setup made past then Err refusals.ViewEnd
    else (let did = engine.stepped made past source (clock_of before) stop in
    Ok (noted_with setup before (events.Step node source stop) node (took_of before node made past did) did))

abbrev pub on_request : Setup → List Noted → Node → Ref → Answer
    → Option ℕ → EngineMade → List Did → Result Noted RunError
on_request setup before node at answer None made past = Err refusals.NotPending
on_request setup before node at answer (Some number) made past =
    if engine.takes_reply made past number answer
    then Ok (noted_with setup before (events.Answer node at answer) node None
    (engine.replied number answer (clock_of before)))
    else Err refusals.NotPending

abbrev pub on_answer : Setup → List Noted → Node → Ref → Answer → Life → Result Noted RunError
on_answer setup before node at answer (Stopped sections) = Err refusals.NotRunning
on_answer setup before node at answer (Running made past) =
    on_request setup before node at answer (request_number before node at) made past

abbrev pub on_crash : List Noted → Node → Life → Result Noted RunError
on_crash before node (Stopped sections) = Err refusals.NotRunning
on_crash before node (Running made past) = Ok (noted_blank before (events.Crash node) (Some node))

-- ---- one event of a faulty node without an engine: it always runs, and only answers what it hears

abbrev pub sent_by : Setup → Node → Sent → Packet
sent_by setup node sent = packet_for_send setup node sent.channel sent.recipients sent.bytes

abbrev pub on_hearing : Setup → List Noted → Node → Ref → Option Packet → Result Noted RunError
on_hearing setup before node at None = Err refusals.NoPacket
on_hearing setup before node at (Some packet) =
    Ok (noted_packets before (events.Deliver node at) node (Some (tooks.Packet at))
    (map (sent_by setup node)
    (heard_by setup node.member (kind_of setup node.member) (heard_in before node) (heard_of packet))))

-- ---- bytes that a faulty member sends by an event

abbrev pub on_inject : Setup → List Noted → ℕ → Channel → List Node → List ℕ → Result Noted RunError
on_inject setup before member channel to bytes =
    if is_honest setup member then Err refusals.NotFaulty
    else Ok (noted_packets before (events.Inject member channel to bytes) (node_of member) None
    (record { from = node_of member; channel = channel; to = to; bytes = bytes } ∷ []))

-- ---- one event of any node

abbrev pub if_node : Setup → Node → Result Noted RunError → Result Noted RunError
if_node setup node next = if is_node setup node then next else Err refusals.NoMember

-- what it makes of a node that runs an engine, and of one that runs none
abbrev pub by_engine : Setup → Node → (with_engine without_engine : Result Noted RunError) → Result Noted RunError
by_engine setup node with_engine without_engine =
    if_node setup node (if runs_engine setup node.member then with_engine else without_engine)

-- what an event makes of the entries before it, but for what is forged
unfoldable pub made_of : Setting → List Noted → Event → Result Noted RunError
made_of setting before (events.Start node floor stop) =
    by_engine setting.setup node (on_start setting before node floor stop (life_in setting before node))
    (Err refusals.NotStopped)
made_of setting before (events.Tick ms) =
    if nat_le (clock_of before + ms) (2 ^ 63 - 1) then Ok (noted_blank before (events.Tick ms) None)
    else Err refusals.ClockEnd
made_of setting before (events.Deliver node at) =
    by_engine setting.setup node (on_deliver setting.setup before node at (life_in setting before node))
    (on_hearing setting.setup before node at (packet_for before node at))
made_of setting before (events.Step node source stop) =
    by_engine setting.setup node (on_step setting.setup before node source stop (life_in setting before node))
    (Ok (noted_idle before (events.Step node source stop) node))
made_of setting before (events.Answer node at answer) =
    by_engine setting.setup node (on_answer setting.setup before node at answer (life_in setting before node))
    (Err refusals.NotPending)
made_of setting before (events.Crash node) =
    by_engine setting.setup node (on_crash before node (life_in setting before node))
    (Ok (noted_idle before (events.Crash node) node))
made_of setting before (events.Inject member channel to bytes) =
    if nat_lt member (members_of setting.setup) && list_all (is_node setting.setup) to
    then on_inject setting.setup before member channel to bytes
    else Err refusals.NoMember

-- what an event makes of the entries before it
unfoldable pub entry_of : Setting → List Noted → Event → Result Noted RunError
entry_of setting before event = unless_forged setting.setup before (made_of setting before event)
