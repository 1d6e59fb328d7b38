-- The JSON forms of events.
use Rattle.std.specs.Prelude.{ℕ, ◌==◌, List, codes, Option, Some, None, option_map, if◌then◌else◌}
use Rattle.std.specs.List.{list_any}
use Rattle.std.specs.Char.{is_ascii_uppercase}
use Rattle.std.specs.Option.{option_or}
use Rattle.std.specs.Str.{bytes_eq}
use Rattle.hex.specs.Hex.{decode_of, decode_sized}
use Rattle.serde_json.specs.Data.{Data}
use Rattle.serde_json.specs.Find.{get, at, as_str}
use Rattle.simplex_values.specs.declared.answer.Answer.{Answer}
use Rattle.simplex_values.specs.declared.answer.Answer.TheVariants as answers
use Rattle.simplex_values.specs.declared.answer.Handoff.TheVariants as handoffs
use Rattle.simplex_wire.specs.declared.certificate.Certificate.{Certificate}
use Rattle.simplex_wire.specs.declared.certificate.Certificate.TheVariants as certificates
use Rattle.simplex_wire.specs.declared.certificate.Finalization.{Finalization}
use Rattle.simplex_wire.specs.Format.{whole}
use Rattle.simplex_wire.specs.Message.{certificate}
use Rattle.simplex_messages.specs.declared.step.Stop.{Stop}
use Rattle.simplex_messages.specs.declared.step.Stop.TheVariants as stops
use Rattle.simplex_transcript.specs.declared.node.Node.{Node}
use Rattle.simplex_transcript.specs.declared.node.Ref.{Ref}
use Rattle.simplex_transcript.specs.declared.event.Event.{Event}
use Rattle.simplex_transcript.specs.declared.event.Event.TheVariants as events
use Rattle.simplex_names.specs.Names.{channel_of, source_of}
use Rattle.simplex_form.specs.Form.{◌>>=◌, has_members, has_items, is_null, number_of, number_at, text_at, flag_at, made, list_of}

-- ---- hex

-- HEX: two hex digits a byte, none of them in upper case
abbrev pub bytes_of : List ℕ → Option (List ℕ)
bytes_of text = if list_any is_ascii_uppercase text then None else made (decode_of text)

-- HEX, as a value of its own
abbrev pub hex_of : Data → Option (List ℕ)
hex_of d = as_str d >>= bytes_of

-- HEX32: those of 32 bytes
abbrev pub digest_of : List ℕ → Option (List ℕ)
digest_of text = if list_any is_ascii_uppercase text then None else made (decode_sized text 32)

-- ---- references

-- [member, half]
abbrev pub node_of : Data → Option Node
node_of d = if has_items 2 d then (do
  member ← at 0 d >>= number_of
  half ← at 1 d >>= number_of
  Some (record { member = member; half = half })) else None

-- the member "node": NODE
abbrev pub node_at : Data → Option Node
node_at d = get (codes "node") d >>= node_of

-- [event, place]
abbrev pub ref_of : Data → Option Ref
ref_of d = if has_items 2 d then (do
  event ← at 0 d >>= number_of
  place ← at 1 d >>= number_of
  Some (record { event = event; place = place })) else None

-- ---- floors

-- the certificate, if it is a finalization
abbrev pub finalization_in : Certificate → Option Finalization
finalization_in (certificates.Notarization it) = None
finalization_in (certificates.Nullification it) = None
finalization_in (certificates.Finalization it) = Some it

-- the finalization that all of the bytes spell as a certificate
abbrev pub finalization_of : List ℕ → Option Finalization
finalization_of bytes = made (whole certificate bytes) >>= finalization_in

-- HEX of a finalization
abbrev pub spelled_floor_of : Data → Option Finalization
spelled_floor_of d = do
  text ← as_str d
  bytes ← bytes_of text
  finalization_of bytes

-- null, for genesis, or HEX of a finalization
abbrev pub floor_of : Data → Option (Option Finalization)
floor_of d = if is_null d then Some None else option_map (λ it. Some it) (spelled_floor_of d)

-- ---- stops

-- the number at a name, if it is not 0: calls are counted from 1
abbrev pub call_at : List ℕ → Data → Option ℕ
call_at name d = number_at name d >>= (λ call. if call == 0 then None else Some call)

-- {"cut": K, "keep": J}
abbrev pub cut_of : Data → Option Stop
cut_of d = do
  call ← call_at (codes "cut") d
  keep ← number_at (codes "keep") d
  Some (stops.Cut call keep)

-- {"fail": K, "keep": J}
abbrev pub fail_of : Data → Option Stop
fail_of d = do
  call ← call_at (codes "fail") d
  keep ← number_at (codes "keep") d
  Some (stops.Fail call keep)

-- an object of two members
abbrev pub order_of : Data → Option Stop
order_of d = if has_members 2 d then option_or (cut_of d) (fail_of d) else None

-- null, where the step is made whole, or an order to stop
abbrev pub stop_of : Data → Option Stop
stop_of d = if is_null d then Some stops.None else order_of d

-- the member "stop": STOP
abbrev pub stop_at : Data → Option Stop
stop_at d = get (codes "stop") d >>= stop_of

-- ---- answers

-- {"payload": HEX32}
abbrev pub payload_of : Data → Option Answer
payload_of d = option_map (λ digest. answers.Payload digest) (text_at (codes "payload") d >>= digest_of)

-- {"stage": HEX32}
abbrev pub stage_of : Data → Option Answer
stage_of d = option_map (λ digest. answers.Handoff (handoffs.Stage digest)) (text_at (codes "stage") d >>= digest_of)

-- {"vote": HEX32}
abbrev pub vote_of : Data → Option Answer
vote_of d = option_map (λ digest. answers.Handoff (handoffs.Vote digest)) (text_at (codes "vote") d >>= digest_of)

-- {"verdict": true} or {"verdict": false}
abbrev pub verdict_of : Data → Option Answer
verdict_of d = option_map (λ verdict. answers.Verdict verdict) (flag_at (codes "verdict") d)

-- an answer that is written as an object of one member
abbrev pub valued_answer_of : Data → Option Answer
valued_answer_of d =
    if has_members 1 d then option_or (payload_of d) (option_or (stage_of d) (option_or (vote_of d) (verdict_of d)))
    else None

-- "wait" or "closed"
abbrev pub named_answer_of : List ℕ → Option Answer
named_answer_of name =
    if bytes_eq name (codes "wait") then Some (answers.Handoff handoffs.Wait) else
    if bytes_eq name (codes "closed") then Some answers.Closed else
    None

-- a text, or else an object
abbrev pub answer_or : Data → Option (List ℕ) → Option Answer
answer_or d (Some name) = named_answer_of name
answer_or d None = valued_answer_of d

-- an answer of any kind
abbrev pub answer_of : Data → Option Answer
answer_of d = answer_or d (as_str d)

-- ---- events

-- {"do": "start", "node": NODE, "floor": FLOOR, "stop": STOP}
abbrev pub start_event_of : Data → Option Event
start_event_of d = if has_members 4 d then (do
  node ← node_at d
  floor ← get (codes "floor") d >>= floor_of
  stop ← stop_at d
  Some (events.Start node floor stop)) else None

-- {"do": "tick", "ms": 50}
abbrev pub tick_event_of : Data → Option Event
tick_event_of d = if has_members 2 d then option_map (λ ms. events.Tick ms) (number_at (codes "ms") d) else None

-- {"do": "deliver", "node": NODE, "packet": REF}
abbrev pub deliver_event_of : Data → Option Event
deliver_event_of d = if has_members 3 d then (do
  node ← node_at d
  packet ← get (codes "packet") d >>= ref_of
  Some (events.Deliver node packet)) else None

-- {"do": "step", "node": NODE, "source": SOURCE, "stop": STOP}
abbrev pub step_event_of : Data → Option Event
step_event_of d = if has_members 4 d then (do
  node ← node_at d
  source ← text_at (codes "source") d >>= source_of
  stop ← stop_at d
  Some (events.Step node source stop)) else None

-- {"do": "answer", "node": NODE, "request": REF, "answer": ANSWER}
abbrev pub answer_event_of : Data → Option Event
answer_event_of d = if has_members 4 d then (do
  node ← node_at d
  request ← get (codes "request") d >>= ref_of
  answer ← get (codes "answer") d >>= answer_of
  Some (events.Answer node request answer)) else None

-- {"do": "crash", "node": NODE}
abbrev pub crash_event_of : Data → Option Event
crash_event_of d = if has_members 2 d then option_map (λ node. events.Crash node) (node_at d) else None

-- {"do": "inject", "member": 3, "channel": CHANNEL, "to": [NODE, ..], "bytes": HEX}
abbrev pub inject_event_of : Data → Option Event
inject_event_of d = if has_members 5 d then (do
  member ← number_at (codes "member") d
  channel ← text_at (codes "channel") d >>= channel_of
  to ← get (codes "to") d >>= list_of node_of
  bytes ← text_at (codes "bytes") d >>= bytes_of
  Some (events.Inject member channel to bytes)) else None

-- an event of this kind
abbrev pub named_event_of : List ℕ → Data → Option Event
named_event_of kind d =
    if bytes_eq kind (codes "start") then start_event_of d else
    if bytes_eq kind (codes "tick") then tick_event_of d else
    if bytes_eq kind (codes "deliver") then deliver_event_of d else
    if bytes_eq kind (codes "step") then step_event_of d else
    if bytes_eq kind (codes "answer") then answer_event_of d else
    if bytes_eq kind (codes "crash") then crash_event_of d else
    if bytes_eq kind (codes "inject") then inject_event_of d else
    None

-- an event, whose kind stands in the member "do"
abbrev pub event_of : Data → Option Event
event_of d = text_at (codes "do") d >>= (λ kind. named_event_of kind d)
