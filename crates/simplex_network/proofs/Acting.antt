-- Events that step a node: a delivery, a step, or an answer.
use Rattle.std.proofs.Common.{◌≡◌, List, Bool, true, false, refl, sym, ap, subst, ◌∙◌, if◌then◌else◌}
use Rattle.std.specs.Prelude.{Some, Err}
use Rattle.simplex_values.specs.declared.answer.Answer.{Answer}
use Rattle.simplex_messages.specs.declared.step.Stop.{Stop}
use Rattle.simplex_transcript.specs.declared.event.Event.{Event}
use Rattle.simplex_transcript.specs.declared.event.Event.TheVariants as events
use Rattle.simplex_transcript.specs.declared.event.StepSource.{StepSource}
use Rattle.simplex_transcript.specs.declared.node.Node.{Node}
use Rattle.simplex_transcript.specs.declared.node.Ref.{Ref}
use Rattle.simplex_transcript.specs.declared.setup.Setup.{Setup}
use Rattle.simplex_transcript.specs.declared.refusal.RunError.TheVariants as refusals
use Rattle.model_run.specs.Setting.{Setting}
use Rattle.model_run.specs.Kinds.{is_node, is_honest, runs_engine}
use Rattle.model_run.specs.Life.{Noted}
use Rattle.model_run.specs.Entries.{made_of, entry_of}
use Rattle.model_run.specs.Groups.{node_stepped}
use Rattle.model_run.proofs.Apart.{honest_made}
use Rattle.model_run.proofs.Quiet.{runs_so}
use Rattle.law_run.specs.EventForging.{may_forge}
use Rattle.simplex_network.specs.Polls.{IsInput, tested_of}
use Rattle.simplex_network.proofs.Found.{AtStopped}
use Rattle.simplex_network.proofs.Polled.{step-input, deliver-input, answer-input}
use Rattle.simplex_network.proofs.Events.{deliver-missing, step-missing, answer-missing, deliver-stopped, step-stopped, answer-stopped}

same_some : {A : Type 0} (x y : A) → Some x ≡ Some y → x ≡ y
same_some x y e = cc

-- it is one of the node that it steps
pub deliver-of : (event : Event) (n node : Node) (at : Ref) → event ≡ events.Deliver n at → node_stepped event ≡ Some node → event ≡ events.Deliver node at
deliver-of event n node at is steps = is ∙ ap (λ m. events.Deliver m at) (same_some n node (ap node_stepped (sym is) ∙ steps))

pub step-of : (event : Event) (n node : Node) (source : StepSource) (stop : Stop) → event ≡ events.Step n source stop → node_stepped event ≡ Some node → event ≡ events.Step node source stop
step-of event n node source stop is steps = is ∙ ap (λ m. events.Step m source stop) (same_some n node (ap node_stepped (sym is) ∙ steps))

pub answer-of : (event : Event) (n node : Node) (at : Ref) (answer : Answer) → event ≡ events.Answer n at answer → node_stepped event ≡ Some node → event ≡ events.Answer node at answer
answer-of event n node at answer is steps = is ∙ ap (λ m. events.Answer m at answer) (same_some n node (ap node_stepped (sym is) ∙ steps))

-- whatever holds of the three kinds holds of it
each_kind : (P : Event → Type 0) (node : Node) → ((at : Ref) → P (events.Deliver node at)) → ((source : StepSource) (stop : Stop) → P (events.Step node source stop))
    → ((at : Ref) (answer : Answer) → P (events.Answer node at answer)) → (event : Event) → node_stepped event ≡ Some node → P event
each_kind P node d s a (events.Deliver n at) steps = subst (λ m. P (events.Deliver m at)) (sym (same_some n node steps)) (d at)
each_kind P node d s a (events.Step n source stop) steps = subst (λ m. P (events.Step m source stop)) (sym (same_some n node steps)) (s source stop)
each_kind P node d s a (events.Answer n at answer) steps = subst (λ m. P (events.Answer m at answer)) (sym (same_some n node steps)) (a at answer)
each_kind P node d s a (events.Start n floor stop) steps = cc
each_kind P node d s a (events.Tick ms) steps = cc
each_kind P node d s a (events.Crash n) steps = cc
each_kind P node d s a (events.Inject member channel to bytes) steps = cc

pub act-input : (event : Event) (node : Node) → node_stepped event ≡ Some node → IsInput event node
act-input event node = each_kind (λ e. IsInput e node) node (deliver-input node) (step-input node) (answer-input node) event

pub act-missing : (setting : Setting) (before : List Noted) (node : Node) (event : Event) → node_stepped event ≡ Some node → is_node setting.setup node ≡ false
    → tested_of setting before event ≡ Err refusals.NoMember
act-missing setting before node event steps missing =
    each_kind (λ e. tested_of setting before e ≡ Err refusals.NoMember) node (λ at. deliver-missing setting before node at missing)
    (λ source stop. step-missing setting before node source stop missing) (λ at answer. answer-missing setting before node at answer missing) event steps

pub act-stopped : (setting : Setting) (before : List Noted) (node : Node) (event : Event) → node_stepped event ≡ Some node → AtStopped setting before node
    → tested_of setting before event ≡ Err refusals.NotRunning
act-stopped setting before node event steps s =
    each_kind (λ e. tested_of setting before e ≡ Err refusals.NotRunning) node (λ at. deliver-stopped setting before node at s)
    (λ source stop. step-stopped setting before node source stop s) (λ at answer. answer-stopped setting before node at answer s) event steps

-- what an honest member's node sends is not looked at for forgeries
pub tested-honest : (setting : Setting) (before : List Noted) (event : Event) (node : Node) → node_stepped event ≡ Some node → is_honest setting.setup node.member ≡ true
    → entry_of setting before event ≡ tested_of setting before event
unfolding tested_of
tested-honest setting before event node steps honest = by (may_forge setting.setup event) (honest_made setting before event node steps honest)
  where
    by : (b : Bool) → entry_of setting before event ≡ made_of setting before event
        → entry_of setting before event ≡ (if b then entry_of setting before event else made_of setting before event)
    by true is = refl
    by false is = is

-- an honest member's node has an engine
pub never-faulty : (setup : Setup) (node : Node) → is_honest setup node.member ≡ true → runs_engine setup node.member ≡ false → ⊥
never-faulty setup node honest none = let runs = runs_so setup node honest in cc
