-- An event is not refused exactly where it meets its conditions.
use Rattle.std.proofs.Common.{◌≡◌, ℕ, ◌+◌, ◌-◌, ◌^◌, ◌↔◌, nat_le, Bool, true, false, List, Option, Some, None, Result, Ok, Err, is_ok, IsOk, refl, arith, ◌&&◌, nat_lt, if◌then◌else◌}
use Rattle.std.specs.List.{list_all}
use Rattle.simplex_values.specs.declared.answer.Answer.{Answer}
use Rattle.simplex_values.specs.declared.plan.Channel.{Channel}
use Rattle.simplex_wire.specs.declared.certificate.Finalization.{Finalization}
use Rattle.simplex_messages.specs.declared.step.Stop.{Stop}
use Rattle.simplex_journal.specs.Journal.{Section}
use Rattle.simplex_transcript.specs.declared.event.Event.{Event}
use Rattle.simplex_transcript.specs.declared.event.Event.TheVariants as events
use Rattle.simplex_transcript.specs.declared.event.StepSource.{StepSource}
use Rattle.simplex_transcript.specs.declared.entry.Packet.{Packet}
use Rattle.simplex_transcript.specs.declared.node.Node.{Node}
use Rattle.simplex_transcript.specs.declared.node.Ref.{Ref}
use Rattle.simplex_transcript.specs.declared.setup.Setup.{Setup}
use Rattle.simplex_transcript.specs.declared.refusal.RunError.{RunError}
use Rattle.simplex_transcript.specs.declared.refusal.RunError.TheVariants as refusals
use Rattle.model_steps.specs.Engine.{EngineMade, Did, takes_reply}
use Rattle.model_run.specs.Setting.{Setting}
use Rattle.model_run.specs.Life.{Noted, Life, Stopped, Running, clock_of, life_in}
use Rattle.model_run.specs.Kinds.{members_of, is_node, is_honest, is_faulty_member, runs_engine}
use Rattle.model_run.specs.Requests.{request_number, packet_for}
use Rattle.model_run.specs.Entries.{noted_blank, is_at_end, is_own_floor, on_start, on_packet, on_deliver, on_step, on_request, on_answer, on_crash, on_hearing, on_inject, noted_idle, by_engine, made_of, entry_of}
use Rattle.law_run.specs.Conditions.{IsNode, HasEngine, HasRoom, MayStart, MayTick, MayDeliver, MayStep, MayAnswer, MayCrash, MayInject, May, Meets}
use Rattle.law_run.proofs.Tests.{both, and_true, ok_if, ok_unless, if_ok, unless_ok, below, is_below, within, is_within, node_is, is_there, nodes_are, are_there, not_honest, not_faultless, room_is, has_room}
use Rattle.law_run.proofs.ReportedFloors.{own_floor, floor_reported}
use Rattle.law_run.proofs.Forging.{unforged_ok, ok_unforged}
use Rattle.law_run.proofs.Places.{packet_sent, sent_packet, number_asked, asked_number}

-- ---- a node

-- a node with an engine, or with none
choose : (b : Bool) (r s : Result Noted RunError) → (b ≡ true → is_ok r ≡ true) → (b ≡ false → is_ok s ≡ true) → is_ok (if b then r else s) ≡ true
choose true r s p q = p refl
choose false r s p q = q refl

by_ok : (setup : Setup) (node : Node) (run other : Result Noted RunError) → IsNode setup node → (HasEngine setup node → is_ok run ≡ true) → is_ok other ≡ true
    → is_ok (by_engine setup node run other) ≡ true
by_ok setup node run other there p q =
    ok_if (is_node setup node) (if runs_engine setup node.member then run else other) refusals.NoMember (node_is setup node there)
    (choose (runs_engine setup node.member) run other p (λ _. q))

ok_by : (setup : Setup) (node : Node) (run other : Result Noted RunError) → is_ok (by_engine setup node run other) ≡ true
    → IsNode setup node × (HasEngine setup node → is_ok run ≡ true) × (runs_engine setup node.member ≡ false → is_ok other ≡ true)
ok_by setup node run other e =
    let outer = if_ok (is_node setup node) (if runs_engine setup node.member then run else other) refusals.NoMember e in
    let inner = chosen (runs_engine setup node.member) outer.1 in
    (is_there setup node outer.0, inner.0, inner.1)
  where
    chosen : (b : Bool) → is_ok (if b then run else other) ≡ true → (b ≡ true → is_ok run ≡ true) × (b ≡ false → is_ok other ≡ true)
    chosen true h = (λ _. h, λ e. cc)
    chosen false h = (λ e. cc, λ _. h)

-- where one with none is refused
engine_ok : (setup : Setup) (node : Node) (run : Result Noted RunError) (error : RunError) → IsNode setup node → HasEngine setup node → is_ok run ≡ true
    → is_ok (by_engine setup node run (Err error)) ≡ true
engine_ok setup node run error there engine h =
    ok_if (is_node setup node) (if runs_engine setup node.member then run else Err error) refusals.NoMember (node_is setup node there)
    (ok_if (runs_engine setup node.member) run error engine h)

ok_engine : (setup : Setup) (node : Node) (run : Result Noted RunError) (error : RunError) → is_ok (by_engine setup node run (Err error)) ≡ true
    → IsNode setup node × HasEngine setup node × (is_ok run ≡ true)
ok_engine setup node run error e =
    let outer = if_ok (is_node setup node) (if runs_engine setup node.member then run else Err error) refusals.NoMember e in
    let inner = if_ok (runs_engine setup node.member) run error outer.1 in
    (is_there setup node outer.0, inner.0, inner.1)

-- ---- a start

start_ok : (setting : Setting) (before : List Noted) (node : Node) (floor : Option Finalization) (stop : Stop) (sections : List Section) (life : Life)
    → life ≡ Stopped sections → is_own_floor setting.setup before floor ≡ true → is_ok (on_start setting before node floor stop life) ≡ true
start_ok setting before node floor stop sections (Running made past) is own = cc
start_ok setting before node floor stop sections (Stopped held) is own = ok_if (is_own_floor setting.setup before floor) (Ok _) refusals.ForeignFloor own refl

may_start : (setting : Setting) (before : List Noted) (node : Node) (floor : Option Finalization) (stop : Stop) → MayStart setting before node floor
    → is_ok (made_of setting before (events.Start node floor stop)) ≡ true
unfolding made_of
may_start setting before node floor stop m =
    engine_ok setting.setup node (on_start setting before node floor stop (life_in setting before node)) refusals.NotStopped m.there m.engine
    (start_ok setting before node floor stop m.sections (life_in setting before node) m.stopped (own_floor setting.setup before floor m.reported))

ok_start : (setting : Setting) (before : List Noted) (node : Node) (floor : Option Finalization) (stop : Stop) (life : Life)
    → is_ok (on_start setting before node floor stop life) ≡ true → ((sections : List Section) × (life ≡ Stopped sections)) × (is_own_floor setting.setup before floor ≡ true)
ok_start setting before node floor stop (Running made past) h = cc
ok_start setting before node floor stop (Stopped held) h = ((held, refl), (if_ok (is_own_floor setting.setup before floor) (Ok _) refusals.ForeignFloor h).0)

did_start : (setting : Setting) (before : List Noted) (node : Node) (floor : Option Finalization) (stop : Stop)
    → is_ok (made_of setting before (events.Start node floor stop)) ≡ true → MayStart setting before node floor
unfolding made_of
did_start setting before node floor stop e =
    let outer = ok_engine setting.setup node (on_start setting before node floor stop (life_in setting before node)) refusals.NotStopped e in
    let inner = ok_start setting before node floor stop (life_in setting before node) outer.2 in
    record {
      there = outer.0;
      engine = outer.1;
      sections = inner.0.0;
      stopped = inner.0.1;
      reported = floor_reported setting.setup before floor inner.1;
    }

-- ---- a tick

may_tick : (setting : Setting) (before : List Noted) (ms : ℕ) → MayTick before ms → is_ok (made_of setting before (events.Tick ms)) ≡ true
unfolding made_of
may_tick setting before ms m =
    ok_if (nat_le (clock_of before + ms) (2 ^ 63 - 1)) (Ok (noted_blank before (events.Tick ms) None)) refusals.ClockEnd
    (is_within (clock_of before + ms) (2 ^ 63 - 1) (omega (arith, m.early))) refl

did_tick : (setting : Setting) (before : List Noted) (ms : ℕ) → is_ok (made_of setting before (events.Tick ms)) ≡ true → MayTick before ms
unfolding made_of
did_tick setting before ms h =
    let inner = if_ok (nat_le (clock_of before + ms) (2 ^ 63 - 1)) (Ok (noted_blank before (events.Tick ms) None)) refusals.ClockEnd h in
    let le = within (clock_of before + ms) (2 ^ 63 - 1) inner.0 in
    record { early = omega (arith, le) }

-- ---- a delivery

packet_ok : (setup : Setup) (before : List Noted) (node : Node) (at : Ref) (packet : Packet) (made : EngineMade) (past : List Did) (o : Option Packet)
    → o ≡ Some packet → HasRoom setup made past → is_ok (on_packet setup before node at o made past) ≡ true
packet_ok setup before node at packet made past None is room = cc
packet_ok setup before node at packet made past (Some p) is room = ok_unless (is_at_end setup made past) (Ok _) refusals.ViewEnd (room_is setup made past room) refl

deliver_ok : (setup : Setup) (before : List Noted) (node : Node) (at : Ref) (packet : Packet) (made : EngineMade) (past : List Did) (life : Life)
    → life ≡ Running made past → packet_for before node at ≡ Some packet → HasRoom setup made past → is_ok (on_deliver setup before node at life) ≡ true
deliver_ok setup before node at packet made past (Stopped held) is found room = cc
deliver_ok setup before node at packet made past (Running m p) is found room =
    let is_made : made ≡ m = cc in
    let is_past : past ≡ p = cc in
    packet_ok setup before node at packet m p (packet_for before node at) found (rw (is_made, is_past) at room)

hearing_ok : (setup : Setup) (before : List Noted) (node : Node) (at : Ref) (packet : Packet) (o : Option Packet) → o ≡ Some packet
    → is_ok (on_hearing setup before node at o) ≡ true
hearing_ok setup before node at packet None is = cc
hearing_ok setup before node at packet (Some p) is = refl

may_deliver : (setting : Setting) (before : List Noted) (node : Node) (at : Ref) → MayDeliver setting before node at → is_ok (made_of setting before (events.Deliver node at)) ≡ true
unfolding made_of
may_deliver setting before node at m =
    by_ok setting.setup node (on_deliver setting.setup before node at (life_in setting before node)) (on_hearing setting.setup before node at (packet_for before node at)) m.there
    (λ engine.
    let ready = m.ready engine in
    deliver_ok setting.setup before node at m.packet ready.made ready.past (life_in setting before node) ready.up (packet_sent before node at m.packet m.sent) ready.room)
    (hearing_ok setting.setup before node at m.packet (packet_for before node at) (packet_sent before node at m.packet m.sent))

ok_packet : (setup : Setup) (before : List Noted) (node : Node) (at : Ref) (made : EngineMade) (past : List Did) (o : Option Packet)
    → is_ok (on_packet setup before node at o made past) ≡ true → ((packet : Packet) × (o ≡ Some packet)) × HasRoom setup made past
ok_packet setup before node at made past None h = cc
ok_packet setup before node at made past (Some packet) h =
    ((packet, refl), has_room setup made past (unless_ok (is_at_end setup made past) (Ok _) refusals.ViewEnd h).0)

-- an engine that runs, and what holds of it
abbrev Running_with : Life → (EngineMade → List Did → Type 0) → Type 0
Running_with life P = (made : EngineMade) × (past : List Did) × (life ≡ Running made past) × P made past

ok_deliver : (setup : Setup) (before : List Noted) (node : Node) (at : Ref) (life : Life) → is_ok (on_deliver setup before node at life) ≡ true
    → Running_with life (λ made past. is_ok (on_packet setup before node at (packet_for before node at) made past) ≡ true)
ok_deliver setup before node at (Stopped held) h = cc
ok_deliver setup before node at (Running made past) h = (made, past, refl, h)

ok_hearing : (setup : Setup) (before : List Noted) (node : Node) (at : Ref) (o : Option Packet) → is_ok (on_hearing setup before node at o) ≡ true
    → (packet : Packet) × (o ≡ Some packet)
ok_hearing setup before node at None h = cc
ok_hearing setup before node at (Some packet) h = (packet, refl)

did_deliver : (setting : Setting) (before : List Noted) (node : Node) (at : Ref) → is_ok (made_of setting before (events.Deliver node at)) ≡ true → MayDeliver setting before node at
unfolding made_of
did_deliver setting before node at e =
    let outer = ok_by setting.setup node (on_deliver setting.setup before node at (life_in setting before node)) (on_hearing setting.setup before node at (packet_for before node at)) e in
    by (runs_engine setting.setup node.member) refl outer.0 outer.1 outer.2
  where
    by : (b : Bool) → runs_engine setting.setup node.member ≡ b → IsNode setting.setup node → (HasEngine setting.setup node → is_ok (on_deliver setting.setup before node at (life_in setting before node)) ≡ true)
        → (runs_engine setting.setup node.member ≡ false → is_ok (on_hearing setting.setup before node at (packet_for before node at)) ≡ true) → MayDeliver setting before node at
    by true b there p q =
        let run = ok_deliver setting.setup before node at (life_in setting before node) (p b) in
        let inner = ok_packet setting.setup before node at run.0 run.1 (packet_for before node at) run.3 in
        record {
          there = there;
          packet = inner.0.0;
          sent = sent_packet before node at inner.0.0 inner.0.1;
          ready = λ _. record { made = run.0; past = run.1; up = run.2; room = inner.1 };
        }
    by false b there p q =
        let found = ok_hearing setting.setup before node at (packet_for before node at) (q b) in
        record { there = there; packet = found.0; sent = sent_packet before node at found.0 found.1; ready = λ engine. absurd (cc (b, engine)) }

-- ---- a step

step_ok : (setup : Setup) (before : List Noted) (node : Node) (source : StepSource) (stop : Stop) (made : EngineMade) (past : List Did) (life : Life)
    → life ≡ Running made past → HasRoom setup made past → is_ok (on_step setup before node source stop life) ≡ true
step_ok setup before node source stop made past (Stopped held) is room = cc
step_ok setup before node source stop made past (Running m p) is room =
    let is_made : made ≡ m = cc in
    let is_past : past ≡ p = cc in
    ok_unless (is_at_end setup m p) (Ok _) refusals.ViewEnd (room_is setup m p (rw (is_made, is_past) at room)) refl

may_step : (setting : Setting) (before : List Noted) (node : Node) (source : StepSource) (stop : Stop) → MayStep setting before node
    → is_ok (made_of setting before (events.Step node source stop)) ≡ true
unfolding made_of
may_step setting before node source stop m =
    by_ok setting.setup node (on_step setting.setup before node source stop (life_in setting before node)) (Ok (noted_idle before (events.Step node source stop) node)) m.there
    (λ engine.
    let ready = m.ready engine in
    step_ok setting.setup before node source stop ready.made ready.past (life_in setting before node) ready.up ready.room) refl

ok_step : (setup : Setup) (before : List Noted) (node : Node) (source : StepSource) (stop : Stop) (life : Life) → is_ok (on_step setup before node source stop life) ≡ true
    → Running_with life (HasRoom setup)
ok_step setup before node source stop (Stopped held) h = cc
ok_step setup before node source stop (Running made past) h =
    (made, past, refl, has_room setup made past (unless_ok (is_at_end setup made past) (Ok _) refusals.ViewEnd h).0)

did_step : (setting : Setting) (before : List Noted) (node : Node) (source : StepSource) (stop : Stop) → is_ok (made_of setting before (events.Step node source stop)) ≡ true
    → MayStep setting before node
unfolding made_of
did_step setting before node source stop e =
    let outer = ok_by setting.setup node (on_step setting.setup before node source stop (life_in setting before node)) (Ok (noted_idle before (events.Step node source stop) node)) e in
    record {
      there = outer.0;
      ready = λ engine.
          let run = ok_step setting.setup before node source stop (life_in setting before node) (outer.1 engine) in
          record { made = run.0; past = run.1; up = run.2; room = run.3 };
    }

-- ---- an answer

request_ok : (setup : Setup) (before : List Noted) (node : Node) (at : Ref) (answer : Answer) (number : ℕ) (made : EngineMade) (past : List Did) (o : Option ℕ)
    → o ≡ Some number → takes_reply made past number answer ≡ true → is_ok (on_request setup before node at answer o made past) ≡ true
request_ok setup before node at answer number made past None is takes = cc
request_ok setup before node at answer number made past (Some n) is takes =
    let same : number ≡ n = cc in ok_if (takes_reply made past n answer) (Ok _) refusals.NotPending (rw same at takes) refl

answer_ok : (setup : Setup) (before : List Noted) (node : Node) (at : Ref) (answer : Answer) (number : ℕ) (made : EngineMade) (past : List Did) (life : Life)
    → life ≡ Running made past → request_number before node at ≡ Some number → takes_reply made past number answer ≡ true
    → is_ok (on_answer setup before node at answer life) ≡ true
answer_ok setup before node at answer number made past (Stopped held) is found takes = cc
answer_ok setup before node at answer number made past (Running m p) is found takes =
    let is_made : made ≡ m = cc in
    let is_past : past ≡ p = cc in
    request_ok setup before node at answer number m p (request_number before node at) found (rw (is_made, is_past) at takes)

may_answer : (setting : Setting) (before : List Noted) (node : Node) (at : Ref) (answer : Answer) → MayAnswer setting before node at answer
    → is_ok (made_of setting before (events.Answer node at answer)) ≡ true
unfolding made_of
may_answer setting before node at answer m =
    engine_ok setting.setup node (on_answer setting.setup before node at answer (life_in setting before node)) refusals.NotPending m.there m.engine
    (answer_ok setting.setup before node at answer m.number m.made m.past (life_in setting before node) m.up (number_asked before node at m.number m.asked) m.pending)

ok_request : (setup : Setup) (before : List Noted) (node : Node) (at : Ref) (answer : Answer) (made : EngineMade) (past : List Did) (o : Option ℕ)
    → is_ok (on_request setup before node at answer o made past) ≡ true → (number : ℕ) × (o ≡ Some number) × (takes_reply made past number answer ≡ true)
ok_request setup before node at answer made past None h = cc
ok_request setup before node at answer made past (Some number) h =
    (number, refl, (if_ok (takes_reply made past number answer) (Ok _) refusals.NotPending h).0)

ok_answer : (setup : Setup) (before : List Noted) (node : Node) (at : Ref) (answer : Answer) (life : Life) → is_ok (on_answer setup before node at answer life) ≡ true
    → Running_with life (λ made past. is_ok (on_request setup before node at answer (request_number before node at) made past) ≡ true)
ok_answer setup before node at answer (Stopped held) h = cc
ok_answer setup before node at answer (Running made past) h = (made, past, refl, h)

did_answer : (setting : Setting) (before : List Noted) (node : Node) (at : Ref) (answer : Answer) → is_ok (made_of setting before (events.Answer node at answer)) ≡ true
    → MayAnswer setting before node at answer
unfolding made_of
did_answer setting before node at answer e =
    let outer = ok_engine setting.setup node (on_answer setting.setup before node at answer (life_in setting before node)) refusals.NotPending e in
    let run = ok_answer setting.setup before node at answer (life_in setting before node) outer.2 in
    let inner = ok_request setting.setup before node at answer run.0 run.1 (request_number before node at) run.3 in
    record {
      there = outer.0;
      engine = outer.1;
      made = run.0;
      past = run.1;
      up = run.2;
      number = inner.0;
      asked = asked_number before node at inner.0 inner.1;
      pending = inner.2;
    }

-- ---- a crash

crash_ok : (before : List Noted) (node : Node) (made : EngineMade) (past : List Did) (life : Life) → life ≡ Running made past → is_ok (on_crash before node life) ≡ true
crash_ok before node made past (Stopped held) is = cc
crash_ok before node made past (Running m p) is = refl

may_crash : (setting : Setting) (before : List Noted) (node : Node) → MayCrash setting before node → is_ok (made_of setting before (events.Crash node)) ≡ true
unfolding made_of
may_crash setting before node m =
    by_ok setting.setup node (on_crash before node (life_in setting before node)) (Ok (noted_idle before (events.Crash node) node)) m.there
    (λ engine. let run = m.running engine in crash_ok before node run.made run.past (life_in setting before node) run.up) refl

ok_crash : (before : List Noted) (node : Node) (life : Life) → is_ok (on_crash before node life) ≡ true → Running_with life (λ made past. Unit {0})
ok_crash before node (Stopped held) h = cc
ok_crash before node (Running made past) h = (made, past, refl, tt)

did_crash : (setting : Setting) (before : List Noted) (node : Node) → is_ok (made_of setting before (events.Crash node)) ≡ true → MayCrash setting before node
unfolding made_of
did_crash setting before node e =
    let outer = ok_by setting.setup node (on_crash before node (life_in setting before node)) (Ok (noted_idle before (events.Crash node) node)) e in
    record {
      there = outer.0;
      running = λ engine.
          let run = ok_crash before node (life_in setting before node) (outer.1 engine) in
          record { made = run.0; past = run.1; up = run.2 };
    }

-- ---- bytes that a faulty member sends

inject_ok : (setup : Setup) (member : ℕ) (noted : Noted) → is_faulty_member setup member ≡ true → is_ok {T = Noted} (if is_honest setup member then Err refusals.NotFaulty else Ok noted) ≡ true
inject_ok setup member noted faulty = ok_unless (is_honest setup member) (Ok noted) refusals.NotFaulty (not_honest setup member faulty) refl

may_inject : (setting : Setting) (before : List Noted) (member : ℕ) (channel : Channel) (to : List Node) (bytes : List ℕ) → MayInject setting.setup member to
    → is_ok (made_of setting before (events.Inject member channel to bytes)) ≡ true
unfolding made_of
may_inject setting before member channel to bytes m =
    ok_if (nat_lt member (members_of setting.setup) && list_all (is_node setting.setup) to) (on_inject setting.setup before member channel to bytes) refusals.NoMember
    (and_true (nat_lt member (members_of setting.setup)) (list_all (is_node setting.setup) to) (is_below member (members_of setting.setup) m.there) (nodes_are setting.setup to m.nodes))
    (inject_ok setting.setup member _ m.faulty)

did_inject : (setting : Setting) (before : List Noted) (member : ℕ) (channel : Channel) (to : List Node) (bytes : List ℕ)
    → is_ok (made_of setting before (events.Inject member channel to bytes)) ≡ true → MayInject setting.setup member to
unfolding made_of
did_inject setting before member channel to bytes e =
    let outer = if_ok (nat_lt member (members_of setting.setup) && list_all (is_node setting.setup) to) (on_inject setting.setup before member channel to bytes) refusals.NoMember e in
    let parts = both (nat_lt member (members_of setting.setup)) (list_all (is_node setting.setup) to) outer.0 in
    record {
      there = below member (members_of setting.setup) parts.0;
      faulty = not_faultless setting.setup member parts.0 (unless_ok (is_honest setting.setup member) (Ok _) refusals.NotFaulty outer.1).0;
      nodes = are_there setting.setup to parts.1;
    }

-- ---- any event

may_made : (setting : Setting) (before : List Noted) (event : Event) → May setting before event → is_ok (made_of setting before event) ≡ true
unfolding May
may_made setting before (events.Start node floor stop) m = may_start setting before node floor stop m
may_made setting before (events.Tick ms) m = may_tick setting before ms m
may_made setting before (events.Deliver node at) m = may_deliver setting before node at m
may_made setting before (events.Step node source stop) m = may_step setting before node source stop m
may_made setting before (events.Answer node at answer) m = may_answer setting before node at answer m
may_made setting before (events.Crash node) m = may_crash setting before node m
may_made setting before (events.Inject member channel to bytes) m = may_inject setting before member channel to bytes m

made_may : (setting : Setting) (before : List Noted) (event : Event) → is_ok (made_of setting before event) ≡ true → May setting before event
unfolding May made_of
made_may setting before (events.Start node floor stop) e = did_start setting before node floor stop e
made_may setting before (events.Tick ms) e = did_tick setting before ms e
made_may setting before (events.Deliver node at) e = did_deliver setting before node at e
made_may setting before (events.Step node source stop) e = did_step setting before node source stop e
made_may setting before (events.Answer node at answer) e = did_answer setting before node at answer e
made_may setting before (events.Crash node) e = did_crash setting before node e
made_may setting before (events.Inject member channel to bytes) e = did_inject setting before member channel to bytes e

pub meets_ok : (setting : Setting) (before : List Noted) (event : Event) → Meets setting before event → IsOk (entry_of setting before event)
unfolding entry_of
meets_ok setting before event m = unforged_ok setting.setup before (made_of setting before event) (may_made setting before event m.may) m.genuine

pub ok_meets : (setting : Setting) (before : List Noted) (event : Event) → IsOk (entry_of setting before event) → Meets setting before event
unfolding entry_of
ok_meets setting before event e =
    let parts = ok_unforged setting.setup before (made_of setting before event) e in record { may = made_may setting before event parts.0; genuine = parts.1 }

pub exact : (setting : Setting) (before : List Noted) (event : Event) → IsOk (entry_of setting before event) ↔ Meets setting before event
exact setting before event = (ok_meets setting before event, meets_ok setting before event)
