-- The text of an event.
use Rattle.std.specs.Prelude.{ℕ, Bool, List, [], ◌∷◌, Option, None, Some, codes, decimal}
use Rattle.simplex_wire.specs.declared.certificate.Certificate.TheVariants as certificates
use Rattle.simplex_wire.specs.declared.certificate.Finalization.{Finalization}
use Rattle.simplex_wire.specs.Message.{certificate}
use Rattle.simplex_values.specs.declared.answer.Answer.{Answer}
use Rattle.simplex_values.specs.declared.answer.Answer.TheVariants as answers
use Rattle.simplex_values.specs.declared.answer.Handoff.TheVariants as handoffs
use Rattle.simplex_values.specs.declared.plan.Channel.{Channel}
use Rattle.simplex_messages.specs.declared.step.Stop.{Stop}
use Rattle.simplex_messages.specs.declared.step.Stop.TheVariants as stops
use Rattle.simplex_transcript.specs.declared.node.Node.{Node}
use Rattle.simplex_transcript.specs.declared.node.Ref.{Ref}
use Rattle.simplex_transcript.specs.declared.event.StepSource.{StepSource}
use Rattle.simplex_transcript.specs.declared.event.Event.{Event}
use Rattle.simplex_transcript.specs.declared.event.Event.TheVariants as events
use Rattle.simplex_names.specs.Names.{channel_word, source_word}
use Rattle.simplex_text.specs.Lines.{pieces}
use Rattle.simplex_writer.specs.Names.{flag_name}
use Rattle.simplex_writer.specs.Pieces.{hex_text, list_text}

-- [member,half]
abbrev pub node_text : Node → List ℕ
node_text node = pieces (codes "[" ∷ decimal node.member ∷ codes "," ∷ decimal node.half ∷ codes "]" ∷ [])

-- [event,place]
abbrev pub ref_text : Ref → List ℕ
ref_text at = pieces (codes "[" ∷ decimal at.event ∷ codes "," ∷ decimal at.place ∷ codes "]" ∷ [])

-- the certificate that a finalization is, in hex
abbrev pub spelled_text : Finalization → List ℕ
spelled_text floor = hex_text (certificate.spelling (certificates.Finalization floor))

-- null, for genesis, or a finalization
abbrev pub floor_text : Option Finalization → List ℕ
floor_text None = codes "null"
floor_text (Some floor) = spelled_text floor

-- null, where the step is made whole, or an order to stop
abbrev pub stop_text : Stop → List ℕ
stop_text stops.None = codes "null"
stop_text (stops.Cut call keep) = pieces (codes "{\"cut\":" ∷ decimal call ∷ codes ",\"keep\":" ∷ decimal keep ∷ codes "}" ∷ [])
stop_text (stops.Fail call keep) = pieces (codes "{\"fail\":" ∷ decimal call ∷ codes ",\"keep\":" ∷ decimal keep ∷ codes "}" ∷ [])

-- an object of one member
abbrev pub one_member : List ℕ → List ℕ → List ℕ
one_member name value = pieces (codes "{\"" ∷ name ∷ codes "\":" ∷ value ∷ codes "}" ∷ [])

abbrev pub verdict_text : Bool → List ℕ
verdict_text verdict = pieces (codes "{\"verdict\":" ∷ flag_name verdict ∷ codes "}" ∷ [])

abbrev pub answer_text : Answer → List ℕ
answer_text (answers.Payload payload) = one_member (codes "payload") (hex_text payload)
answer_text (answers.Handoff handoffs.Wait) = codes "\"wait\""
answer_text (answers.Handoff (handoffs.Stage payload)) = one_member (codes "stage") (hex_text payload)
answer_text (answers.Handoff (handoffs.Vote payload)) = one_member (codes "vote") (hex_text payload)
answer_text (answers.Verdict verdict) = verdict_text verdict
answer_text answers.Closed = codes "\"closed\""

abbrev pub start_text : Node → Option Finalization → Stop → List ℕ
start_text node floor stop =
    pieces (codes "{\"do\":\"start\",\"node\":" ∷ node_text node ∷ codes ",\"floor\":" ∷ floor_text floor ∷ codes ",\"stop\":" ∷ stop_text stop ∷ codes "}" ∷ [])

abbrev pub tick_text : ℕ → List ℕ
tick_text ms = pieces (codes "{\"do\":\"tick\",\"ms\":" ∷ decimal ms ∷ codes "}" ∷ [])

abbrev pub deliver_text : Node → Ref → List ℕ
deliver_text node packet = pieces (codes "{\"do\":\"deliver\",\"node\":" ∷ node_text node ∷ codes ",\"packet\":" ∷ ref_text packet ∷ codes "}" ∷ [])

abbrev pub step_text : Node → StepSource → Stop → List ℕ
step_text node source stop =
    pieces (codes "{\"do\":\"step\",\"node\":" ∷ node_text node ∷ codes ",\"source\":\"" ∷ source_word source ∷ codes "\",\"stop\":" ∷ stop_text stop ∷ codes "}" ∷ [])

-- an answer of these texts
abbrev pub answer_object : List ℕ → List ℕ → List ℕ → List ℕ
answer_object node request answer =
    pieces (codes "{\"do\":\"answer\",\"node\":" ∷ node ∷ codes ",\"request\":" ∷ request ∷ codes ",\"answer\":" ∷ answer ∷ codes "}" ∷ [])

abbrev pub answered_text : Node → Ref → Answer → List ℕ
answered_text node request answer = answer_object (node_text node) (ref_text request) (answer_text answer)

abbrev pub crash_text : Node → List ℕ
crash_text node = pieces (codes "{\"do\":\"crash\",\"node\":" ∷ node_text node ∷ codes "}" ∷ [])

-- bytes of a member that are sent, by these texts
abbrev pub inject_object : ℕ → List ℕ → List ℕ → List ℕ → List ℕ
inject_object member channel to bytes =
    pieces (codes "{\"do\":\"inject\",\"member\":" ∷ decimal member ∷ codes ",\"channel\":\"" ∷ channel ∷ codes "\",\"to\":" ∷ to
    ∷ codes ",\"bytes\":" ∷ bytes ∷ codes "}" ∷ [])

abbrev pub inject_text : ℕ → Channel → List Node → List ℕ → List ℕ
inject_text member channel to bytes = inject_object member (channel_word channel) (list_text node_text (codes ",") to) (hex_text bytes)

abbrev pub event_text : Event → List ℕ
event_text (events.Start node floor stop) = start_text node floor stop
event_text (events.Tick ms) = tick_text ms
event_text (events.Deliver node packet) = deliver_text node packet
event_text (events.Step node source stop) = step_text node source stop
event_text (events.Answer node request answer) = answered_text node request answer
event_text (events.Crash node) = crash_text node
event_text (events.Inject member channel to bytes) = inject_text member channel to bytes
