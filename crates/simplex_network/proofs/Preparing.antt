-- What an event gives the engine of its node.
use Rattle.std.proofs.Common.{◌≡◌, ℕ, List, false, true, sym, ap, subst, ◌∙◌, ◌<◌, ◌^◌}
use Rattle.std.specs.Prelude.{IsNone, Some, None, Err}
use Rattle.simplex_values.specs.declared.answer.Answer.{Answer}
use Rattle.simplex_messages.specs.declared.step.Stop.{Stop}
use Rattle.simplex_messages.specs.declared.step.Stop.TheVariants as stops
use Rattle.simplex_transcript.specs.declared.event.Event.{Event}
use Rattle.simplex_transcript.specs.declared.event.Event.TheVariants as events
use Rattle.simplex_transcript.specs.declared.event.StepSource.{StepSource}
use Rattle.simplex_transcript.specs.declared.entry.Packet.{Packet}
use Rattle.simplex_transcript.specs.declared.entry.Took.TheVariants as tooks
use Rattle.simplex_transcript.specs.declared.node.Node.{Node}
use Rattle.simplex_transcript.specs.declared.node.Ref.{Ref}
use Rattle.simplex_transcript.specs.declared.setup.Setup.{Setup}
use Rattle.simplex_transcript.specs.declared.refusal.RunError.TheVariants as refusals
use Rattle.simplex_engine.specs.declared.input.Input.{Input}
use Rattle.simplex_engine.specs.declared.input.Input.TheVariants as inputs
use Rattle.model_run.specs.Setting.{Setting}
use Rattle.model_run.specs.Setups.{first_bad}
use Rattle.model_run.specs.Life.{Noted, Life, Running}
use Rattle.model_run.specs.Requests.{request_number, packet_for}
use Rattle.model_run.specs.Groups.{node_stepped}
use Rattle.simplex_records.specs.Stands.{RecordsStand}
use Rattle.simplex_network.specs.declared.network.Network.{Network}
use Rattle.simplex_network.specs.Polls.{tested_of, on_poll}
use Rattle.simplex_network.specs.Stands.{LivesAs}
use Rattle.simplex_network.specs.Lending.{Prepares, Bars}
use Rattle.simplex_network.proofs.Acting.{deliver-of, step-of, answer-of}
use Rattle.simplex_network.proofs.Found.{AtRunning, found-running}
use Rattle.simplex_network.proofs.Events.{is_near, deliver-lacks, deliver-near, deliver-is, step-near, step-is, answer-none, answer-is}
use Rattle.simplex_network.proofs.Senders.{sender-small}

-- the life in which the node runs
lives_run : (setting : Setting) (before : List Noted) (node : Node) (view : ℕ) (s : AtRunning setting before node view) (life : Life) → LivesAs setting before node life → Running s.made s.past ≡ life
lives_run setting before node view s life lives = sym s.life ∙ lives.1

pub prepares-deliver : (network : Network) (node n : Node) (view : ℕ) (event : Event) (at : Ref) (packet : Packet) (input : Input) → node_stepped event ≡ Some node
    → event ≡ events.Deliver n at → IsNone (first_bad network.setup)
    → ((setup : Setup) (before : List Noted) → RecordsStand network.records setup before → Some packet ≡ packet_for before node at) → is_near network.setup view ≡ false
    → (packet.from.member < 2 ^ 32 → input ≡ inputs.Deliver packet.from.member packet.channel packet.bytes)
    → Prepares network node view event (record { input = input; stop = stops.None; outside = Some (tooks.Packet at) })
prepares-deliver network node n view event at packet input steps is good some near heard = λ setting before life s found lives.
    let r = found-running setting before node view found in
    let there : packet_for before node at ≡ Some packet = sym (some setting.setup before s.records) in
    let gave = heard (sender-small setting.setup before node at packet (rw s.given at good) s.senders there) in
    subst (λ e. tested_of setting before e ≡ on_poll setting.setup before e node input stops.None (Some (tooks.Packet at)) life) (sym (deliver-of event n node at is steps))
    (deliver-is setting before node at view packet r there (rw s.given at near)
    ∙ ap (λ i. on_poll setting.setup before (events.Deliver node at) node i stops.None (Some (tooks.Packet at)) (Running r.made r.past)) (sym gave)
    ∙ ap (λ l. on_poll setting.setup before (events.Deliver node at) node input stops.None (Some (tooks.Packet at)) l) (lives_run setting before node view r life lives))

pub prepares-step : (network : Network) (node n : Node) (view : ℕ) (event : Event) (source : StepSource) (stop : Stop) → node_stepped event ≡ Some node → event ≡ events.Step n source stop
    → is_near network.setup view ≡ false → Prepares network node view event (record { input = inputs.Step source; stop = stop; outside = None })
prepares-step network node n view event source stop steps is near = λ setting before life s found lives.
    let r = found-running setting before node view found in
    subst (λ e. tested_of setting before e ≡ on_poll setting.setup before e node (inputs.Step source) stop None life) (sym (step-of event n node source stop is steps))
    (step-is setting before node source stop view r (rw s.given at near)
    ∙ ap (λ l. on_poll setting.setup before (events.Step node source stop) node (inputs.Step source) stop None l) (lives_run setting before node view r life lives))

pub prepares-answer : (network : Network) (node n : Node) (view : ℕ) (event : Event) (at : Ref) (answer : Answer) (number : ℕ) → node_stepped event ≡ Some node → event ≡ events.Answer n at answer
    → ((setup : Setup) (before : List Noted) → RecordsStand network.records setup before → Some number ≡ request_number before node at)
    → Prepares network node view event (record { input = inputs.Answer number answer; stop = stops.None; outside = None })
prepares-answer network node n view event at answer number steps is some = λ setting before life s found lives.
    let r = found-running setting before node view found in
    subst (λ e. tested_of setting before e ≡ on_poll setting.setup before e node (inputs.Answer number answer) stops.None None life) (sym (answer-of event n node at answer is steps))
    (answer-is setting before node at answer number view r (some setting.setup before s.records)
    ∙ ap (λ l. on_poll setting.setup before (events.Answer node at answer) node (inputs.Answer number answer) stops.None None l) (lives_run setting before node view r life lives))

-- ---- or why it is refused

pub bars-lacks : (network : Network) (node n : Node) (view : ℕ) (event : Event) (at : Ref) → node_stepped event ≡ Some node → event ≡ events.Deliver n at
    → ((setup : Setup) (before : List Noted) → RecordsStand network.records setup before → None ≡ packet_for before node at) → Bars network node view event refusals.NoPacket
bars-lacks network node n view event at steps is none = λ setting before s found.
    subst (λ e. tested_of setting before e ≡ Err refusals.NoPacket) (sym (deliver-of event n node at is steps))
    (deliver-lacks setting before node at view (found-running setting before node view found) (sym (none setting.setup before s.records)))

pub bars-deliver : (network : Network) (node n : Node) (view : ℕ) (event : Event) (at : Ref) (packet : Packet) → node_stepped event ≡ Some node → event ≡ events.Deliver n at
    → ((setup : Setup) (before : List Noted) → RecordsStand network.records setup before → Some packet ≡ packet_for before node at) → is_near network.setup view ≡ true
    → Bars network node view event refusals.ViewEnd
bars-deliver network node n view event at packet steps is some near = λ setting before s found.
    subst (λ e. tested_of setting before e ≡ Err refusals.ViewEnd) (sym (deliver-of event n node at is steps))
    (deliver-near setting before node at view packet (found-running setting before node view found) (sym (some setting.setup before s.records)) (rw s.given at near))

pub bars-step : (network : Network) (node n : Node) (view : ℕ) (event : Event) (source : StepSource) (stop : Stop) → node_stepped event ≡ Some node → event ≡ events.Step n source stop
    → is_near network.setup view ≡ true → Bars network node view event refusals.ViewEnd
bars-step network node n view event source stop steps is near = λ setting before s found.
    subst (λ e. tested_of setting before e ≡ Err refusals.ViewEnd) (sym (step-of event n node source stop is steps))
    (step-near setting before node source stop view (found-running setting before node view found) (rw s.given at near))

pub bars-answer : (network : Network) (node n : Node) (view : ℕ) (event : Event) (at : Ref) (answer : Answer) → node_stepped event ≡ Some node → event ≡ events.Answer n at answer
    → ((setup : Setup) (before : List Noted) → RecordsStand network.records setup before → None ≡ request_number before node at) → Bars network node view event refusals.NotPending
bars-answer network node n view event at answer steps is none = λ setting before s found.
    subst (λ e. tested_of setting before e ≡ Err refusals.NotPending) (sym (answer-of event n node at answer is steps))
    (answer-none setting before node at answer view (found-running setting before node view found) (none setting.setup before s.records))
