-- What a node of an honest member sends is not looked at for forgeries.
use Rattle.std.proofs.Common.{◌≡◌, ℕ, Bool, true, false, not, List, [], ◌∷◌, Option, Some, None, Result, Ok, Err, IfOk, refl, if◌then◌else◌}
use Rattle.std.specs.Option.{option_map_or}
use Rattle.std.specs.List.{slice_get}
use Rattle.simplex_messages.specs.declared.call.Call.{Call}
use Rattle.simplex_messages.specs.declared.call.Call.TheVariants as calls
use Rattle.simplex_values.specs.declared.answer.Answer.{Answer}
use Rattle.simplex_messages.specs.declared.step.Stop.{Stop}
use Rattle.simplex_transcript.specs.declared.event.StepSource.{StepSource}
use Rattle.simplex_transcript.specs.declared.entry.Packet.{Packet}
use Rattle.simplex_transcript.specs.declared.node.Node.{Node}
use Rattle.simplex_transcript.specs.declared.node.Ref.{Ref}
use Rattle.simplex_transcript.specs.declared.setup.Setup.{Setup}
use Rattle.simplex_transcript.specs.declared.setup.MemberKind.{MemberKind}
use Rattle.simplex_transcript.specs.declared.setup.MemberKind.TheVariants as kinds
use Rattle.simplex_transcript.specs.declared.refusal.RunError.{RunError}
use Rattle.model_steps.specs.Engine as engine
use Rattle.model_steps.specs.Engine.{EngineMade, Did}
use Rattle.model_run.specs.Kinds.{is_faulty, has_engine, is_honest, is_faulty_member, runs_engine}
use Rattle.model_run.specs.Life.{Noted, Life, Stopped, Running, clock_of}
use Rattle.model_run.specs.Requests.{request_number, packet_for}
use Rattle.model_run.specs.Forged.{signed_by_faulty, first_forged, unless_forged}
use Rattle.model_run.specs.Entries.{packets_of, if_node, by_engine, is_at_end, on_packet, on_deliver, on_step, on_request, on_answer}

-- ---- honest members

honest_kind : (kind : MemberKind) → not (is_faulty kind) ≡ true → kind ≡ kinds.Honest
honest_kind kinds.Honest e = refl
honest_kind kinds.Silent e = cc
honest_kind kinds.Conflicter e = cc
honest_kind kinds.Equivocator e = cc
honest_kind kinds.Impersonator e = cc
honest_kind kinds.Nuller e = cc
honest_kind kinds.NullifyOnly e = cc
honest_kind (kinds.Outdated delta) e = cc
honest_kind kinds.Reconfigurer e = cc
honest_kind kinds.Corrupt e = cc
honest_kind kinds.Unrecovering e = cc
honest_kind kinds.Twin e = cc

-- what holds of the kind of honest members holds of an honest member's
of_honest : (test : MemberKind → Bool) (b : Bool) (o : Option MemberKind) → test kinds.Honest ≡ b → option_map_or (λ kind. not (is_faulty kind)) o false ≡ true
    → option_map_or test o false ≡ b
of_honest test b None t h = cc
of_honest test b (Some kind) t h = rw (honest_kind kind h) t

not_faulty : (setup : Setup) (node : Node) → is_honest setup node.member ≡ true → is_faulty_member setup node.member ≡ false
not_faulty setup node h = of_honest is_faulty false (slice_get setup.members node.member) refl h

pub runs_so : (setup : Setup) (node : Node) → is_honest setup node.member ≡ true → runs_engine setup node.member ≡ true
runs_so setup node h = of_honest has_engine true (slice_get setup.members node.member) refl h

pub engine_is : (setup : Setup) (node : Node) (with_engine without_engine : Result Noted RunError) → is_honest setup node.member ≡ true
    → by_engine setup node with_engine without_engine ≡ if_node setup node with_engine
engine_is setup node with_engine without_engine h = rw (runs_so setup node h) refl

-- ---- what is not looked at

-- none of the packets is one of a faulty member
abbrev pub Quiet : Setup → Result Noted RunError → Type 0
Quiet setup r = IfOk r (λ (noted : Noted). signed_by_faulty setup noted.entry.packets ≡ [])

pub quiet_made : (setup : Setup) (before : List Noted) (r : Result Noted RunError) → Quiet setup r → unless_forged setup before r ≡ r
unfolding unless_forged first_forged
quiet_made setup before (Err error) quiet = refl
quiet_made setup before (Ok noted) quiet = rw quiet refl

sends_quiet : (setup : Setup) (node : Node) (made : List Call) → is_honest setup node.member ≡ true → signed_by_faulty setup (packets_of setup node made) ≡ []
sends_quiet setup node [] h = refl
sends_quiet setup node (calls.Send channel to bytes ∷ made) h = rw (not_faulty setup node h) (sends_quiet setup node made h)
sends_quiet setup node (calls.Append n a ∷ made) h = sends_quiet setup node made h
sends_quiet setup node (calls.Sync n ∷ made) h = sends_quiet setup node made h
sends_quiet setup node (calls.Prune n ∷ made) h = sends_quiet setup node made h
sends_quiet setup node (calls.Report activity ∷ made) h = sends_quiet setup node made h
sends_quiet setup node (calls.Relay payload plan ∷ made) h = sends_quiet setup node made h
sends_quiet setup node (calls.Block who why ∷ made) h = sends_quiet setup node made h

if_quiet : (setup : Setup) (b : Bool) (r s : Result Noted RunError) → Quiet setup r → Quiet setup s → Quiet setup (if b then r else s)
if_quiet setup true r s p q = p
if_quiet setup false r s p q = q

packet_quiet : (setup : Setup) (before : List Noted) (node : Node) (at : Ref) (o : Option Packet) (made : EngineMade) (past : List Did) → is_honest setup node.member ≡ true
    → Quiet setup (on_packet setup before node at o made past)
packet_quiet setup before node at None made past h = tt
packet_quiet setup before node at (Some packet) made past h =
    if_quiet setup (is_at_end setup made past) (Err _) (Ok _) tt
    (sends_quiet setup node (engine.heard made past packet.from.member packet.channel packet.bytes (clock_of before)).out.calls h)

pub deliver_quiet : (setup : Setup) (before : List Noted) (node : Node) (at : Ref) (life : Life) → is_honest setup node.member ≡ true
    → Quiet setup (on_deliver setup before node at life)
deliver_quiet setup before node at (Stopped sections) h = tt
deliver_quiet setup before node at (Running made past) h = packet_quiet setup before node at (packet_for before node at) made past h

pub step_quiet : (setup : Setup) (before : List Noted) (node : Node) (source : StepSource) (stop : Stop) (life : Life) → is_honest setup node.member ≡ true
    → Quiet setup (on_step setup before node source stop life)
step_quiet setup before node source stop (Stopped sections) h = tt
step_quiet setup before node source stop (Running made past) h =
    if_quiet setup (is_at_end setup made past) (Err _) (Ok _) tt (sends_quiet setup node (engine.stepped made past source (clock_of before) stop).out.calls h)

request_quiet : (setup : Setup) (before : List Noted) (node : Node) (at : Ref) (answer : Answer) (o : Option ℕ) (made : EngineMade) (past : List Did)
    → is_honest setup node.member ≡ true → Quiet setup (on_request setup before node at answer o made past)
request_quiet setup before node at answer None made past h = tt
request_quiet setup before node at answer (Some number) made past h =
    if_quiet setup (engine.takes_reply made past number answer) (Ok _) (Err _)
    (sends_quiet setup node (engine.replied number answer (clock_of before)).out.calls h) tt

pub answer_quiet : (setup : Setup) (before : List Noted) (node : Node) (at : Ref) (answer : Answer) (life : Life) → is_honest setup node.member ≡ true
    → Quiet setup (on_answer setup before node at answer life)
answer_quiet setup before node at answer (Stopped sections) h = tt
answer_quiet setup before node at answer (Running made past) h =
    request_quiet setup before node at answer (request_number before node at) made past h

pub node_quiet : (setup : Setup) (node : Node) (b : Bool) (r : Result Noted RunError) (error : RunError) → Quiet setup r → Quiet setup (if b then r else Err error)
node_quiet setup node b r error p = if_quiet setup b r (Err error) p tt
