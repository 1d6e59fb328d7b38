-- An event, in the words of an input.
use Rattle.std.specs.Prelude.{ℕ, Bool, true, false, List, [], ◌∷◌, Option, None, Some, codes, decimal, take}
use Rattle.hex.specs.Hex.{encode_lower}
use Rattle.simplex_wire.specs.declared.certificate.Finalization.{Finalization}
use Rattle.simplex_values.specs.declared.answer.Answer.{Answer}
use Rattle.simplex_values.specs.declared.answer.Answer.TheVariants as answers
use Rattle.simplex_values.specs.declared.answer.Handoff.TheVariants as handoffs
use Rattle.simplex_transcript.specs.declared.node.Node.{Node}
use Rattle.simplex_transcript.specs.declared.node.Ref.{Ref}
use Rattle.simplex_transcript.specs.declared.event.Event.{Event}
use Rattle.simplex_transcript.specs.declared.event.Event.TheVariants as events
use Rattle.simplex_names.specs.Names.{channel_word, source_word}
use Rattle.simplex_text.specs.Lines.{pieces}

-- one word behind another
abbrev pub spaced : List ℕ → List ℕ → List ℕ
spaced first second = pieces (first ∷ codes " " ∷ second ∷ [])

abbrev pub node_text : Node → List ℕ
node_text node = pieces (decimal node.member ∷ codes "." ∷ decimal node.half ∷ [])

-- the packet or the request at this place of an event
abbrev pub ref_text : Ref → List ℕ
ref_text at = pieces (decimal at.event ∷ codes "." ∷ decimal at.place ∷ [])

-- the first eight digits of a payload
abbrev pub payload_text : List ℕ → List ℕ
payload_text payload = encode_lower (take 4 payload)

abbrev pub verdict_word : Bool → List ℕ
verdict_word true = codes "true"
verdict_word false = codes "false"

abbrev pub answer_text : Answer → List ℕ
answer_text (answers.Payload payload) = spaced (codes "payload") (payload_text payload)
answer_text (answers.Handoff handoffs.Wait) = codes "wait"
answer_text (answers.Handoff (handoffs.Stage payload)) = spaced (codes "stage") (payload_text payload)
answer_text (answers.Handoff (handoffs.Vote payload)) = spaced (codes "vote") (payload_text payload)
answer_text (answers.Verdict good) = spaced (codes "verdict") (verdict_word good)
answer_text answers.Closed = codes "closed"

-- at genesis, or at a floor of this view
abbrev pub start_text : Option Finalization → List ℕ
start_text None = codes "start"
start_text (Some floor) = spaced (codes "start at view") (decimal floor.proposal.round.view)

abbrev pub deed_text : Event → List ℕ
deed_text (events.Start node floor stop) = spaced (node_text node) (start_text floor)
deed_text (events.Tick ms) = spaced (codes "tick") (decimal ms)
deed_text (events.Deliver node packet) = spaced (node_text node) (spaced (codes "deliver") (ref_text packet))
deed_text (events.Step node source stop) = spaced (node_text node) (spaced (codes "step") (source_word source))
deed_text (events.Answer node request answer) =
    spaced (node_text node) (spaced (codes "answer") (spaced (ref_text request) (answer_text answer)))
deed_text (events.Crash node) = spaced (node_text node) (codes "crash")
deed_text (events.Inject member channel to bytes) =
    spaced (decimal member) (spaced (codes "inject") (channel_word channel))
