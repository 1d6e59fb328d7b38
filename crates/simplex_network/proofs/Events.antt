-- What each event comes to, by what was found of its node.
use Rattle.std.proofs.Common.{◌≡◌, ℕ, List, [], ◌∷◌, Bool, true, false, refl, sym, ap, ◌∙◌, ◌+◌, ◌-◌, ◌*◌, ◌≤◌, ◌<◌, ◌^◌, arith, map, if◌then◌else◌}
use Rattle.std.specs.Prelude.{◌&&◌, nat_lt, nat_le, Option, Some, None, Result, Ok, Err}
use Rattle.std.specs.List.{list_all, slice_get}
use Rattle.std.specs.Option.{option_map_or}
use Rattle.std.proofs.lemmas.Grind.{common_steps}
use Rattle.simplex_values.specs.declared.answer.Answer.{Answer}
use Rattle.simplex_values.specs.declared.plan.Channel.{Channel}
use Rattle.simplex_values.specs.Terms.{greatest_view}
use Rattle.simplex_wire.specs.declared.certificate.Finalization.{Finalization}
use Rattle.simplex_messages.specs.declared.step.Stop.{Stop}
use Rattle.simplex_messages.specs.declared.step.Stop.TheVariants as stops
use Rattle.simplex_transcript.specs.declared.event.Event.TheVariants as events
use Rattle.simplex_transcript.specs.declared.event.StepSource.{StepSource}
use Rattle.simplex_transcript.specs.declared.entry.Packet.{Packet}
use Rattle.simplex_transcript.specs.declared.entry.Took.TheVariants as tooks
use Rattle.simplex_transcript.specs.declared.node.Node.{Node}
use Rattle.simplex_transcript.specs.declared.node.Ref.{Ref}
use Rattle.simplex_transcript.specs.declared.setup.Setup.{Setup}
use Rattle.simplex_transcript.specs.declared.setup.MemberKind.{MemberKind}
use Rattle.simplex_transcript.specs.declared.setup.MemberKind.TheVariants as kinds
use Rattle.simplex_transcript.specs.declared.refusal.RunError.{RunError}
use Rattle.simplex_transcript.specs.declared.refusal.RunError.TheVariants as refusals
use Rattle.model_steps.specs.Engine.{EngineMade, Did, runs, replied, takes_reply}
use Rattle.simplex_engine.specs.declared.input.Input.TheVariants as inputs
use Rattle.simplex_engine.specs.Polled.{polled, refusal_of}
use Rattle.model_run.specs.Setting.{Setting}
use Rattle.model_run.specs.Kinds.{members_of, is_of_kind, is_node, is_honest, has_engine, runs_engine, node_of}
use Rattle.model_run.specs.Members.{kind_of}
use Rattle.model_run.specs.Life.{Noted, Running, clock_of, life_in}
use Rattle.model_run.specs.Requests.{request_number, packet_for}
use Rattle.model_run.specs.Mocks.{heard_by}
use Rattle.model_run.specs.Hearing.{heard_of, heard_in}
use Rattle.model_run.specs.Forged.{unless_forged}
use Rattle.model_run.specs.Entries.{taken_of, noted_with, noted_blank, noted_idle, noted_packets, sent_by, is_own_floor, made_of, entry_of}
use Rattle.law_run.specs.EventForging.{is_impersonator}
use Rattle.simplex_network.specs.Polls.{tested_of, noted_poll, unless, on_poll, noted_start}
use Rattle.simplex_network.specs.Stands.{heard_test}
use Rattle.simplex_network.proofs.Found.{AtStopped, AtRunning, AtFaulty}
use Rattle.simplex_network.proofs.Polled.{poll-taken}

-- ---- tests

pub if_end : {A : Type 0} (b : Bool) (x y : A) → b ≡ true → (if b then x else y) ≡ x
if_end true x y e = refl
if_end false x y e = absurd (cc)

pub if_not : {A : Type 0} (b : Bool) (x y : A) → b ≡ false → (if b then x else y) ≡ y
if_not true x y e = absurd (cc)
if_not false x y e = refl

-- the view is too near the greatest
abbrev pub is_near : Setup → ℕ → Bool
is_near setup view = nat_lt (greatest_view - 2 * setup.term - setup.lookahead) view

-- what is tested of a packet that is delivered
tested_by : (b : Bool) (x y : Result Noted RunError) → x ≡ y → (if b then x else y) ≡ y
tested_by true x y e = e
tested_by false x y e = refl

refused_whole : (setup : Setup) (before : List Noted) (r : Result Noted RunError) (error : RunError) → r ≡ Err error → unless_forged setup before r ≡ Err error
unfolding unless_forged
refused_whole setup before r error e = rw e refl

-- an event that is refused before its packets are looked at
deliver_refused : (setting : Setting) (before : List Noted) (node : Node) (at : Ref) (error : RunError) → made_of setting before (events.Deliver node at) ≡ Err error
    → tested_of setting before (events.Deliver node at) ≡ Err error
unfolding tested_of entry_of
deliver_refused setting before node at error e =
    tested_by (is_of_kind is_impersonator setting.setup node.member) _ (made_of setting before (events.Deliver node at)) (refused_whole setting.setup before _ error e ∙ sym e) ∙ e

-- ---- no such node

pub start-missing : (setting : Setting) (before : List Noted) (node : Node) (floor : Option Finalization) (stop : Stop) → is_node setting.setup node ≡ false
    → tested_of setting before (events.Start node floor stop) ≡ Err refusals.NoMember
unfolding tested_of made_of
start-missing setting before node floor stop e = rw e refl

pub deliver-missing : (setting : Setting) (before : List Noted) (node : Node) (at : Ref) → is_node setting.setup node ≡ false
    → tested_of setting before (events.Deliver node at) ≡ Err refusals.NoMember
unfolding made_of
deliver-missing setting before node at e = deliver_refused setting before node at refusals.NoMember made
  where
    made : made_of setting before (events.Deliver node at) ≡ Err refusals.NoMember
    made = rw e refl

pub step-missing : (setting : Setting) (before : List Noted) (node : Node) (source : StepSource) (stop : Stop) → is_node setting.setup node ≡ false
    → tested_of setting before (events.Step node source stop) ≡ Err refusals.NoMember
unfolding tested_of made_of
step-missing setting before node source stop e = rw e refl

pub answer-missing : (setting : Setting) (before : List Noted) (node : Node) (at : Ref) (answer : Answer) → is_node setting.setup node ≡ false
    → tested_of setting before (events.Answer node at answer) ≡ Err refusals.NoMember
unfolding tested_of made_of
answer-missing setting before node at answer e = rw e refl

pub crash-missing : (setting : Setting) (before : List Noted) (node : Node) → is_node setting.setup node ≡ false → tested_of setting before (events.Crash node) ≡ Err refusals.NoMember
unfolding tested_of made_of
crash-missing setting before node e = rw e refl

-- ---- a stopped node

pub start-stopped : (setting : Setting) (before : List Noted) (node : Node) (floor : Option Finalization) (stop : Stop) → (s : AtStopped setting before node)
    → is_own_floor setting.setup before floor ≡ true → tested_of setting before (events.Start node floor stop) ≡ Ok (noted_start setting before node floor stop (life_in setting before node))
unfolding tested_of made_of
start-stopped setting before node floor stop s own = rw (s.exists, s.engine, s.life, own) refl

pub start-foreign : (setting : Setting) (before : List Noted) (node : Node) (floor : Option Finalization) (stop : Stop) → (s : AtStopped setting before node)
    → is_own_floor setting.setup before floor ≡ false → tested_of setting before (events.Start node floor stop) ≡ Err refusals.ForeignFloor
unfolding tested_of made_of
start-foreign setting before node floor stop s own = rw (s.exists, s.engine, s.life, own) refl

pub deliver-stopped : (setting : Setting) (before : List Noted) (node : Node) (at : Ref) → AtStopped setting before node
    → tested_of setting before (events.Deliver node at) ≡ Err refusals.NotRunning
unfolding made_of
deliver-stopped setting before node at s = deliver_refused setting before node at refusals.NotRunning made
  where
    made : made_of setting before (events.Deliver node at) ≡ Err refusals.NotRunning
    made = rw (s.exists, s.engine, s.life) refl

pub step-stopped : (setting : Setting) (before : List Noted) (node : Node) (source : StepSource) (stop : Stop) → AtStopped setting before node
    → tested_of setting before (events.Step node source stop) ≡ Err refusals.NotRunning
unfolding tested_of made_of
step-stopped setting before node source stop s = rw (s.exists, s.engine, s.life) refl

pub answer-stopped : (setting : Setting) (before : List Noted) (node : Node) (at : Ref) (answer : Answer) → AtStopped setting before node
    → tested_of setting before (events.Answer node at answer) ≡ Err refusals.NotRunning
unfolding tested_of made_of
answer-stopped setting before node at answer s = rw (s.exists, s.engine, s.life) refl

pub crash-stopped : (setting : Setting) (before : List Noted) (node : Node) → AtStopped setting before node → tested_of setting before (events.Crash node) ≡ Err refusals.NotRunning
unfolding tested_of made_of
crash-stopped setting before node s = rw (s.exists, s.engine, s.life) refl

-- ---- a running node

pub start-running : (setting : Setting) (before : List Noted) (node : Node) (floor : Option Finalization) (stop : Stop) (view : ℕ) → AtRunning setting before node view
    → tested_of setting before (events.Start node floor stop) ≡ Err refusals.NotStopped
unfolding tested_of made_of
start-running setting before node floor stop view s = rw (s.exists, s.engine, s.life) refl

pub crash-running : (setting : Setting) (before : List Noted) (node : Node) (view : ℕ) → AtRunning setting before node view
    → tested_of setting before (events.Crash node) ≡ Ok (noted_blank before (events.Crash node) (Some node))
unfolding tested_of made_of
crash-running setting before node view s = rw (s.exists, s.engine, s.life) refl

pub step-near : (setting : Setting) (before : List Noted) (node : Node) (source : StepSource) (stop : Stop) (view : ℕ) → AtRunning setting before node view → is_near setting.setup view ≡ true
    → tested_of setting before (events.Step node source stop) ≡ Err refusals.ViewEnd
unfolding tested_of made_of
step-near setting before node source stop view s near = rw (s.exists, s.engine, s.life) (if_end _ _ _ (rw s.current at near))

pub step-is : (setting : Setting) (before : List Noted) (node : Node) (source : StepSource) (stop : Stop) (view : ℕ) → (s : AtRunning setting before node view) → is_near setting.setup view ≡ false
    → tested_of setting before (events.Step node source stop) ≡ on_poll setting.setup before (events.Step node source stop) node (inputs.Step source) stop None (Running s.made s.past)
unfolding tested_of made_of noted_poll polled refusal_of
step-is setting before node source stop view s near =
    rw (s.exists, s.engine, s.life) (if_not _ _ _ (rw s.current at near))
    ∙ sym (poll-taken setting.setup before (events.Step node source stop) node (inputs.Step source) stop None s.made s.past (rw s.goes refl))

-- whoever runs an engine is no impersonator
no_mock : (setup : Setup) (member : ℕ) → runs_engine setup member ≡ true → is_of_kind is_impersonator setup member ≡ false
no_mock setup member engine = by (slice_get setup.members member) engine
  where
    by : (o : Option MemberKind) → option_map_or has_engine o false ≡ true → option_map_or is_impersonator o false ≡ false
    by None e = refl
    by (Some kinds.Honest) e = refl
    by (Some kinds.Silent) e = refl
    by (Some kinds.Conflicter) e = refl
    by (Some kinds.Equivocator) e = refl
    by (Some kinds.Impersonator) e = cc
    by (Some kinds.Nuller) e = refl
    by (Some kinds.NullifyOnly) e = refl
    by (Some (kinds.Outdated views)) e = refl
    by (Some kinds.Reconfigurer) e = refl
    by (Some kinds.Corrupt) e = refl
    by (Some kinds.Unrecovering) e = refl
    by (Some kinds.Twin) e = refl

deliver_made : (setting : Setting) (before : List Noted) (node : Node) (at : Ref) (r : Result Noted RunError) → runs_engine setting.setup node.member ≡ true
    → made_of setting before (events.Deliver node at) ≡ r → tested_of setting before (events.Deliver node at) ≡ r
unfolding tested_of
deliver_made setting before node at r engine e = rw (no_mock setting.setup node.member engine) e

pub deliver-lacks : (setting : Setting) (before : List Noted) (node : Node) (at : Ref) (view : ℕ) → AtRunning setting before node view → packet_for before node at ≡ None
    → tested_of setting before (events.Deliver node at) ≡ Err refusals.NoPacket
unfolding made_of
deliver-lacks setting before node at view s none = deliver_refused setting before node at refusals.NoPacket made
  where
    made : made_of setting before (events.Deliver node at) ≡ Err refusals.NoPacket
    made = rw (s.exists, s.engine, s.life, none) refl

pub deliver-near : (setting : Setting) (before : List Noted) (node : Node) (at : Ref) (view : ℕ) (packet : Packet) → AtRunning setting before node view
    → packet_for before node at ≡ Some packet → is_near setting.setup view ≡ true → tested_of setting before (events.Deliver node at) ≡ Err refusals.ViewEnd
unfolding made_of
deliver-near setting before node at view packet s some near = deliver_refused setting before node at refusals.ViewEnd made
  where
    made : made_of setting before (events.Deliver node at) ≡ Err refusals.ViewEnd
    made = rw (s.exists, s.engine, s.life, some) (if_end _ _ _ (rw s.current at near))

pub deliver-is : (setting : Setting) (before : List Noted) (node : Node) (at : Ref) (view : ℕ) (packet : Packet) → (s : AtRunning setting before node view)
    → packet_for before node at ≡ Some packet → is_near setting.setup view ≡ false
    → tested_of setting before (events.Deliver node at)
    ≡ on_poll setting.setup before (events.Deliver node at) node (inputs.Deliver packet.from.member packet.channel packet.bytes) stops.None (Some (tooks.Packet at)) (Running s.made s.past)
unfolding made_of noted_poll polled refusal_of
deliver-is setting before node at view packet s some near = deliver_made setting before node at _ s.engine made
  where
    made : made_of setting before (events.Deliver node at)
        ≡ on_poll setting.setup before (events.Deliver node at) node (inputs.Deliver packet.from.member packet.channel packet.bytes) stops.None (Some (tooks.Packet at)) (Running s.made s.past)
    made =
        rw (s.exists, s.engine, s.life, some) (if_not _ _ _ (rw s.current at near))
        ∙ sym (poll-taken setting.setup before (events.Deliver node at) node (inputs.Deliver packet.from.member packet.channel packet.bytes) stops.None (Some (tooks.Packet at)) s.made s.past
        (rw s.goes refl))

pub answer-none : (setting : Setting) (before : List Noted) (node : Node) (at : Ref) (answer : Answer) (view : ℕ) → AtRunning setting before node view
    → None ≡ request_number before node at → tested_of setting before (events.Answer node at answer) ≡ Err refusals.NotPending
unfolding tested_of made_of
answer-none setting before node at answer view s none = rw (s.exists, s.engine, s.life, ← none) refl

answer_by : (setup : Setup) (before : List Noted) (node : Node) (at : Ref) (answer : Answer) (number : ℕ) (made : EngineMade) (past : List Did) → runs past ≡ true
    → (b : Bool) → takes_reply made past number answer ≡ b
    → (if b then Ok (noted_with setup before (events.Answer node at answer) node None (replied number answer (clock_of before))) else Err refusals.NotPending)
    ≡ on_poll setup before (events.Answer node at answer) node (inputs.Answer number answer) stops.None None (Running made past)
unfolding on_poll unless noted_poll polled refusal_of taken_of
answer_by setup before node at answer number made past goes true e = rw (goes, e) refl
answer_by setup before node at answer number made past goes false e = rw (goes, e) refl

pub answer-is : (setting : Setting) (before : List Noted) (node : Node) (at : Ref) (answer : Answer) (number view : ℕ) → (s : AtRunning setting before node view)
    → Some number ≡ request_number before node at
    → tested_of setting before (events.Answer node at answer) ≡ on_poll setting.setup before (events.Answer node at answer) node (inputs.Answer number answer) stops.None None (Running s.made s.past)
unfolding tested_of made_of
answer-is setting before node at answer number view s some =
    rw (s.exists, s.engine, s.life, ← some) (answer_by setting.setup before node at answer number s.made s.past s.goes (takes_reply s.made s.past number answer) refl)

-- ---- a node of a faulty member without an engine

pub start-faulty : (setting : Setting) (before : List Noted) (node : Node) (floor : Option Finalization) (stop : Stop) → AtFaulty setting.setup node
    → tested_of setting before (events.Start node floor stop) ≡ Err refusals.NotStopped
unfolding tested_of made_of
start-faulty setting before node floor stop s = rw (s.exists, s.engine) refl

pub answer-faulty : (setting : Setting) (before : List Noted) (node : Node) (at : Ref) (answer : Answer) → AtFaulty setting.setup node
    → tested_of setting before (events.Answer node at answer) ≡ Err refusals.NotPending
unfolding tested_of made_of
answer-faulty setting before node at answer s = rw (s.exists, s.engine) refl

pub step-faulty : (setting : Setting) (before : List Noted) (node : Node) (source : StepSource) (stop : Stop) → AtFaulty setting.setup node
    → tested_of setting before (events.Step node source stop) ≡ Ok (noted_idle before (events.Step node source stop) node)
unfolding tested_of made_of
step-faulty setting before node source stop s = rw (s.exists, s.engine) refl

pub crash-faulty : (setting : Setting) (before : List Noted) (node : Node) → AtFaulty setting.setup node
    → tested_of setting before (events.Crash node) ≡ Ok (noted_idle before (events.Crash node) node)
unfolding tested_of made_of
crash-faulty setting before node s = rw (s.exists, s.engine) refl

pub hear-lacks : (setting : Setting) (before : List Noted) (node : Node) (at : Ref) → is_node setting.setup node ≡ true → runs_engine setting.setup node.member ≡ false → packet_for before node at ≡ None
    → tested_of setting before (events.Deliver node at) ≡ Err refusals.NoPacket
unfolding made_of
hear-lacks setting before node at exists engine none = deliver_refused setting before node at refusals.NoPacket made
  where
    made : made_of setting before (events.Deliver node at) ≡ Err refusals.NoPacket
    made = rw (exists, engine, none) refl

-- what it sends when it hears the packet
abbrev pub noted_hearing : Setup → List Noted → Node → Ref → Packet → Noted
noted_hearing setup before node at packet =
    noted_packets before (events.Deliver node at) node (Some (tooks.Packet at))
    (map (sent_by setup node) (heard_by setup node.member (kind_of setup node.member) (heard_in before node) (heard_of packet)))

hear_made : (setting : Setting) (before : List Noted) (node : Node) (at : Ref) (packet : Packet) → is_node setting.setup node ≡ true → runs_engine setting.setup node.member ≡ false
    → packet_for before node at ≡ Some packet → made_of setting before (events.Deliver node at) ≡ Ok (noted_hearing setting.setup before node at packet)
unfolding made_of
hear_made setting before node at packet exists engine some = rw (exists, engine, some) refl

-- only where it may be forged it is tested
pub hear-is : (setting : Setting) (before : List Noted) (node : Node) (at : Ref) (packet : Packet) → is_node setting.setup node ≡ true → runs_engine setting.setup node.member ≡ false
    → packet_for before node at ≡ Some packet
    → tested_of setting before (events.Deliver node at) ≡ heard_test setting.setup before node (noted_hearing setting.setup before node at packet)
unfolding tested_of entry_of
hear-is setting before node at packet exists engine some = by (is_of_kind is_impersonator setting.setup node.member)
  where
    made : made_of setting before (events.Deliver node at) ≡ Ok (noted_hearing setting.setup before node at packet)
    made = hear_made setting before node at packet exists engine some

    by : (b : Bool) → (if b then unless_forged setting.setup before (made_of setting before (events.Deliver node at)) else made_of setting before (events.Deliver node at))
        ≡ (if b then unless_forged setting.setup before (Ok (noted_hearing setting.setup before node at packet)) else Ok (noted_hearing setting.setup before node at packet))
    by true = ap (λ r. unless_forged setting.setup before r) made
    by false = made

-- ---- bytes that are injected

pub inject-missing : (setting : Setting) (before : List Noted) (member : ℕ) (channel : Channel) (to : List Node) (bytes : List ℕ)
    → (nat_lt member (members_of setting.setup) && list_all (is_node setting.setup) to) ≡ false → tested_of setting before (events.Inject member channel to bytes) ≡ Err refusals.NoMember
unfolding tested_of entry_of made_of unless_forged
inject-missing setting before member channel to bytes e = rw e refl

pub inject-honest : (setting : Setting) (before : List Noted) (member : ℕ) (channel : Channel) (to : List Node) (bytes : List ℕ)
    → (nat_lt member (members_of setting.setup) && list_all (is_node setting.setup) to) ≡ true → is_honest setting.setup member ≡ true
    → tested_of setting before (events.Inject member channel to bytes) ≡ Err refusals.NotFaulty
unfolding tested_of entry_of made_of unless_forged
inject-honest setting before member channel to bytes e honest = rw (e, honest) refl

-- what the bytes make
abbrev pub noted_bytes : List Noted → ℕ → Channel → List Node → List ℕ → Noted
noted_bytes before member channel to bytes =
    noted_packets before (events.Inject member channel to bytes) (node_of member) None
    (record { from = node_of member; channel = channel; to = to; bytes = bytes } ∷ [])

pub inject-is : (setting : Setting) (before : List Noted) (member : ℕ) (channel : Channel) (to : List Node) (bytes : List ℕ)
    → (nat_lt member (members_of setting.setup) && list_all (is_node setting.setup) to) ≡ true → is_honest setting.setup member ≡ false
    → tested_of setting before (events.Inject member channel to bytes) ≡ unless_forged setting.setup before (Ok (noted_bytes before member channel to bytes))
unfolding tested_of entry_of made_of
inject-is setting before member channel to bytes e faulty = rw (e, faulty) refl

-- ---- a tick

pub tick-late : (setting : Setting) (before : List Noted) (clock ms : ℕ) → clock ≡ clock_of before → clock < 2 ^ 63 → (2 ^ 63 - 1) - clock < ms
    → tested_of setting before (events.Tick ms) ≡ Err refusals.ClockEnd
unfolding tested_of made_of
tick-late setting before clock ms is early late =
    let past : nat_le (clock_of before + ms) (2 ^ 63 - 1) ≡ false = rw (← is) (grind (arith, common_steps)) in rw past refl

pub tick-is : (setting : Setting) (before : List Noted) (clock ms : ℕ) → clock ≡ clock_of before → clock < 2 ^ 63 → ms ≤ (2 ^ 63 - 1) - clock
    → tested_of setting before (events.Tick ms) ≡ Ok (noted_blank before (events.Tick ms) None)
unfolding tested_of made_of
tick-is setting before clock ms is early within =
    let held : nat_le (clock_of before + ms) (2 ^ 63 - 1) ≡ true = rw (← is) (grind (arith, common_steps)) in rw held refl
