-- The events that a command stands for.
use Rattle.std.specs.Prelude.{ℕ, ◌≡◌, ◌==◌, ◌&&◌, ◌||◌, Bool, true, false, List, [], ◌∷◌, Option, None, Some, Result, Ok, Err, Vec, if◌then◌else◌}
use Rattle.std.specs.Option.{option_map}
use Rattle.std.specs.declared.alloc.Global.{Global}
use Rattle.simplex_values.specs.declared.answer.Answer.{Answer}
use Rattle.simplex_values.specs.declared.answer.Answer.TheVariants as answers
use Rattle.simplex_values.specs.declared.answer.Handoff.TheVariants as handoffs
use Rattle.model_rules.specs.declared.request.Asked.{Asked}
use Rattle.model_rules.specs.declared.request.Asked.TheVariants as asked_
use Rattle.simplex_messages.specs.declared.step.Stop.{Stop}
use Rattle.simplex_transcript.specs.declared.event.Event.{Event}
use Rattle.simplex_transcript.specs.declared.event.Event.TheVariants as events
use Rattle.simplex_transcript.specs.declared.node.Node.{Node}
use Rattle.simplex_script.specs.declared.command.Command.{Command}
use Rattle.simplex_script.specs.declared.command.Command.TheVariants as commands
use Rattle.simplex_script.specs.declared.command.Question.{Question}
use Rattle.simplex_script.specs.declared.command.Question.TheVariants as questions
use Rattle.simplex_script.specs.declared.command.Whom.{Whom}
use Rattle.simplex_script.specs.declared.command.Whom.TheVariants as whoms
use Rattle.simplex_script.specs.declared.fault.Fault.{Fault}
use Rattle.simplex_script.specs.declared.fault.Fault.TheVariants as faults
use Rattle.simplex_script.specs.declared.planning.OpenRequest.{OpenRequest}
use Rattle.simplex_script.specs.declared.post.Parcel.{Parcel}
use Rattle.simplex_script.specs.Post.{first_on, last_on}

abbrev pub is_same_node : Node → Node → Bool
is_same_node a b = a.member == b.member && a.half == b.half

-- the nodes start, one after another
abbrev pub starts : Stop → List Node → List Event
starts stop [] = []
starts stop (node ∷ nodes) = events.Start node None stop ∷ starts stop nodes

-- the nodes crash, one after another
abbrev pub crashes : List Node → List Event
crashes [] = []
crashes (node ∷ nodes) = events.Crash node ∷ crashes nodes

-- the answer that proposes a payload, where that is asked for
abbrev pub proposal_for : List ℕ → Asked → Option Answer
proposal_for payload (asked_.Prepare context) = Some (answers.Handoff (handoffs.Stage payload))
proposal_for payload (asked_.Propose context) = Some (answers.Payload payload)
proposal_for payload (asked_.Verify context other) = None
proposal_for payload (asked_.Certify round other) = None

-- the request is answered by a payload, if it is the node's and wants one
abbrev pub proposed_to : Node → List ℕ → OpenRequest → Option Event
proposed_to node payload it =
    if is_same_node it.node node
    then option_map (λ answer. events.Answer node it.request answer) (proposal_for payload it.asked)
    else None

abbrev pub or_else : Option Event → Option Event → Option Event
or_else (Some event) other = Some event
or_else None other = other

-- the node's oldest request for a proposal is answered
abbrev pub proposed : Node → List ℕ → List OpenRequest → Option Event
proposed node payload [] = None
proposed node payload (it ∷ others) = or_else (proposed_to node payload it) (proposed node payload others)

abbrev pub asks : Question → Asked → Bool
asks questions.Verify (asked_.Verify context payload) = true
asks questions.Certify (asked_.Certify round payload) = true
asks _ _ = false

abbrev pub is_of : Whom → Node → Bool
is_of whoms.All node = true
is_of (whoms.One one) node = is_same_node node one

-- the request wants a verdict on a payload
abbrev pub wants_verdict : OpenRequest → Bool
wants_verdict it = asks questions.Verify it.asked || asks questions.Certify it.asked

-- the request is answered by a verdict
abbrev pub judged : Bool → OpenRequest → Event
judged good it = events.Answer it.node it.request (answers.Verdict good)

abbrev pub is_judged : Question → Whom → OpenRequest → Bool
is_judged question whom it = is_of whom it.node && asks question it.asked

-- the requests of a kind are answered, the oldest first
abbrev pub verdicts : Question → Whom → Bool → List OpenRequest → List Event
verdicts question whom good [] = []
verdicts question whom good (it ∷ others) =
    if is_judged question whom it then judged good it ∷ verdicts question whom good others
    else verdicts question whom good others

-- the parcel is delivered
abbrev pub delivery : Parcel → Event
delivery parcel = events.Deliver parcel.to parcel.packet

abbrev pub only_if : Fault → Option Event → Result (List Event) Fault
only_if fault (Some event) = Ok (event ∷ [])
only_if fault None = Err fault

abbrev pub delivered_if : Fault → Option Parcel → Result (List Event) Fault
delivered_if fault (Some parcel) = Ok (delivery parcel ∷ [])
delivered_if fault None = Err fault

abbrev pub some_of : Fault → List Event → Result (List Event) Fault
some_of fault [] = Err fault
some_of fault (event ∷ events_) = Ok (event ∷ events_)

-- the events that a command stands for, where these packets wait, those were delivered, and these requests are open, or what it does not find
abbrev pub planned : Command → (waiting delivered : List Parcel) → List OpenRequest → Result (List Event) Fault
planned (commands.Start nodes stop) waiting delivered open_ = Ok (starts stop nodes)
planned (commands.Propose node payload) waiting delivered open_ =
    only_if (faults.NoProposal node) (proposed node payload open_)
planned (commands.Judge question whom good) waiting delivered open_ =
    some_of (faults.NoRequest question whom) (verdicts question whom good open_)
planned (commands.Deliver from to channel) waiting delivered open_ =
    delivered_if (faults.NoPacket from to channel) (first_on from to channel waiting)
planned (commands.Resend from to channel) waiting delivered open_ =
    delivered_if (faults.NotDelivered from to channel) (last_on from to channel None delivered)
planned (commands.Step node source stop) waiting delivered open_ = Ok (events.Step node source stop ∷ [])
planned (commands.Tick ms) waiting delivered open_ = Ok (events.Tick ms ∷ [])
planned (commands.Crash nodes) waiting delivered open_ = Ok (crashes nodes)
planned (commands.Lose from to channel) waiting delivered open_ = Ok []
planned (commands.Miss nodes) waiting delivered open_ = Ok []
planned (commands.Settle nodes) waiting delivered open_ = Ok []

-- what was answered is the plan
abbrev pub IsPlan : Result (Vec Event Global) Fault → Result (List Event) Fault → Type 0
IsPlan (Ok made) plan = plan ≡ Ok made.items
IsPlan (Err fault) plan = plan ≡ Err fault
