-- An input of a node's engine, by the life of the node.
use Rattle.std.proofs.Common.{◌≡◌, ℕ, List, false, refl, sym, ap, ◌∙◌, length, ◌+◌}
use Rattle.std.specs.Prelude.{Option, Some, None, Result, Ok, Err}
use Rattle.std.specs.Option.{option_or, option_and_then}
use Rattle.simplex_values.specs.declared.answer.Answer.{Answer}
use Rattle.simplex_messages.specs.declared.step.Outcome.{Outcome}
use Rattle.simplex_messages.specs.declared.step.Stop.{Stop}
use Rattle.simplex_messages.specs.declared.step.StepOut.{StepOut}
use Rattle.simplex_transcript.specs.declared.event.Event.{Event}
use Rattle.simplex_transcript.specs.declared.event.Event.TheVariants as events
use Rattle.simplex_transcript.specs.declared.event.StepSource.{StepSource}
use Rattle.simplex_transcript.specs.declared.entry.Entry.{Entry}
use Rattle.simplex_transcript.specs.declared.entry.Took.{Took}
use Rattle.simplex_transcript.specs.declared.node.Node.{Node}
use Rattle.simplex_transcript.specs.declared.node.Ref.{Ref}
use Rattle.simplex_transcript.specs.declared.setup.Setup.{Setup}
use Rattle.model_steps.specs.Engine.{EngineMade, Did}
use Rattle.simplex_engine.specs.declared.input.Input.{Input}
use Rattle.simplex_engine.specs.declared.input.TakenInside.{TakenInside}
use Rattle.simplex_engine.specs.declared.error.PollError.{PollError}
use Rattle.simplex_engine.specs.declared.error.PollError.TheVariants as errors
use Rattle.simplex_engine.specs.Polled.{polled, refusal_of, is_memory}
use Rattle.model_run.specs.Setting.{Setting}
use Rattle.model_run.specs.Life.{Noted, Life, Stopped, Running, clock_of, after, went_on}
use Rattle.model_run.specs.Entries.{took_of, entry_with}
use Rattle.simplex_records.specs.Events.{AreFrom}
use Rattle.simplex_records.proofs.KeptPackets.{packets-from}
use Rattle.simplex_network.specs.Answer as network
use Rattle.simplex_network.specs.Parts.{refusal_in, after_poll, IsPolled}
use Rattle.simplex_network.specs.Polls.{as_run_error, noted_poll, unless, on_poll, IsInput, named}
use Rattle.simplex_network.specs.Stands.{entered}
use Rattle.simplex_network.proofs.Named.{took-named}

-- ---- an input that was taken

unless_none : (error : Option PollError) (noted : Noted) → error ≡ None → unless error noted ≡ Ok noted
unfolding unless
unless_none None noted e = refl
unless_none (Some error) noted e = absurd (cc)

pub poll-taken : (setup : Setup) (before : List Noted) (event : Event) (node : Node) (input : Input) (stop : Stop) (outside : Option Took)
    (made : EngineMade) (past : List Did) → refusal_of made past input ≡ None
    → on_poll setup before event node input stop outside (Running made past) ≡ Ok (noted_poll setup before event node input stop outside made past)
unfolding on_poll
poll-taken setup before event node input stop outside made past takes = unless_none (refusal_of made past input) _ takes

pub poll-entered : (setup : Setup) (before : List Noted) (event : Event) (node : Node) (input : Input) (stop : Stop) (outside took : Option Took) (entry : Entry)
    (now : ℕ) (outcome : Outcome) (taken : Option TakenInside) (out : StepOut) (life : Life) → now ≡ clock_of before
    → IsPolled life input now stop outcome taken out
    → took ≡ option_and_then (named before node) taken
    → ((did : Did) → did.out ≡ out → did.outcome ≡ outcome → entry ≡ entry_with setup (length before + 1) node (option_or outside took) did)
    → entered (on_poll setup before event node input stop outside life) ≡ Ok entry
unfolding IsPolled noted_poll
poll-entered setup before event node input stop outside took entry now outcome taken out (Stopped sections) clock gave names enters = absurd gave
poll-entered setup before event node input stop outside took entry now outcome taken out (Running made past) clock gave names enters =
    let did = polled made past input (clock_of before) stop in
    let given = rw clock at gave in
    let taking : took_of before node made past did ≡ took = took-named before node made past did.taken did.now did.stop did.outcome did.out
    ∙ ap (λ t. option_and_then (named before node) t) (sym given.2) ∙ sym names in
    ap (λ r. entered r) (poll-taken setup before event node input stop outside made past given.0)
    ∙ ap (λ t. Ok (entry_with setup (length before + 1) node (option_or outside t) did)) taking
    ∙ ap (λ e. Ok e) (sym (enters did (sym given.3) (sym given.1)))

pub same-ok : {A E : Type 0} (x y : A) (r : Result A E) → r ≡ Ok x → r ≡ Ok y → x ≡ y
same-ok x y r a b = cc

-- what was noted of an input that was taken
pub record IsNotedPoll (setting : Setting) (before : List Noted) (of : Event) (node : Node) (input : Input) (stop : Stop) (life : Life) (noted : Noted) : Type 0 where
  pub same : noted.event ≡ of
  pub from : AreFrom node noted.entry.packets
  pub goes : ((did : Did) → after setting of (Some did) life ≡ went_on did life) → after setting noted.event noted.did life ≡ after_poll input (clock_of before) stop life

noted_running : (setting : Setting) (before : List Noted) (event : Event) (node : Node) (input : Input) (stop : Stop) (outside : Option Took)
    (made : EngineMade) (past : List Did)
    → IsNotedPoll setting before event node input stop (Running made past) (noted_poll setting.setup before event node input stop outside made past)
unfolding noted_poll after_poll
noted_running setting before event node input stop outside made past =
    record {
      same = refl;
      from = packets-from setting.setup node (polled made past input (clock_of before) stop).out.calls;
      goes = λ goes. goes (polled made past input (clock_of before) stop);
    }

pub poll-noted : (setting : Setting) (before : List Noted) (event : Event) (node : Node) (input : Input) (stop : Stop) (outside : Option Took)
    (outcome : Outcome) (taken : Option TakenInside) (out : StepOut) (now : ℕ) (life : Life) (noted : Noted)
    → IsPolled life input now stop outcome taken out → on_poll setting.setup before event node input stop outside life ≡ Ok noted
    → IsNotedPoll setting before event node input stop life noted
unfolding IsPolled
poll-noted setting before event node input stop outside outcome taken out now (Stopped sections) noted gave is = absurd gave
poll-noted setting before event node input stop outside outcome taken out now (Running made past) noted gave is =
    rw (same-ok noted _ _ is (poll-taken setting.setup before event node input stop outside made past gave.0))
    (noted_running setting before event node input stop outside made past)

-- an input that was refused
unless_some : (error : Option PollError) (refused : PollError) (noted : Noted) → error ≡ Some refused → unless error noted ≡ Err (as_run_error refused)
unfolding unless
unless_some None refused noted e = absurd (cc)
unless_some (Some error) refused noted e = let it : error ≡ refused = cc in rw it refl

pub poll-refused : (setup : Setup) (before : List Noted) (event : Event) (node : Node) (input : Input) (stop : Stop) (outside : Option Took)
    (refused : PollError) (life : Life) → refusal_in life input ≡ Some refused
    → on_poll setup before event node input stop outside life ≡ Err (as_run_error refused)
unfolding refusal_in on_poll
poll-refused setup before event node input stop outside refused (Stopped sections) is =
    let it : refused ≡ errors.Stopped = cc in rw it refl
poll-refused setup before event node input stop outside refused (Running made past) is = unless_some (refusal_of made past input) refused _ is

-- what is no want of memory to the network is none of the engine
pub whole-error : (error : PollError) → network.is_memory (as_run_error error) ≡ false → is_memory error ≡ false
whole-error errors.Failed e = refl
whole-error errors.Stopped e = refl
whole-error errors.NotPending e = refl
whole-error errors.Memory e = absurd (cc)

-- ---- which events are inputs of their node's engine

pub step-input : (node : Node) (source : StepSource) (stop : Stop) → IsInput (events.Step node source stop) node
unfolding after clock_of
step-input node source stop =
    record { of = record { of = λ other. refl; start = refl }; goes = λ setting did life. refl; time = λ noted before is. rw is refl }

pub deliver-input : (node : Node) (at : Ref) → IsInput (events.Deliver node at) node
unfolding after clock_of
deliver-input node at =
    record { of = record { of = λ other. refl; start = refl }; goes = λ setting did life. refl; time = λ noted before is. rw is refl }

pub answer-input : (node : Node) (at : Ref) (answer : Answer) → IsInput (events.Answer node at answer) node
unfolding after clock_of
answer-input node at answer =
    record { of = record { of = λ other. refl; start = refl }; goes = λ setting did life. refl; time = λ noted before is. rw is refl }
