-- An event that steps a node, behind entries of steps of other nodes.
use Rattle.std.proofs.Common.{◌≡◌, ℕ, ◌+◌, Bool, true, false, List, ◌++◌, length, All, Option, Some, None, Result, Ok, Err, IfOk, refl, sym, ap, ◌∙◌, subst, if◌then◌else◌}
use Rattle.std.specs.Option.{option_map, option_and_then}
use Rattle.simplex_values.specs.declared.answer.Answer.{Answer}
use Rattle.simplex_wire.specs.declared.certificate.Finalization.{Finalization}
use Rattle.simplex_messages.specs.declared.step.Stop.{Stop}
use Rattle.simplex_transcript.specs.declared.event.Event.{Event}
use Rattle.simplex_transcript.specs.declared.event.Event.TheVariants as events
use Rattle.simplex_transcript.specs.declared.event.StepSource.{StepSource}
use Rattle.simplex_transcript.specs.declared.event.StepSource.TheVariants as sources
use Rattle.simplex_transcript.specs.declared.entry.Packet.{Packet}
use Rattle.simplex_transcript.specs.declared.entry.Took.{Took}
use Rattle.simplex_transcript.specs.declared.entry.Took.TheVariants as tooks
use Rattle.simplex_transcript.specs.declared.node.Node.{Node}
use Rattle.simplex_transcript.specs.declared.node.Ref.{Ref}
use Rattle.simplex_transcript.specs.declared.setup.Setup.{Setup}
use Rattle.simplex_transcript.specs.declared.refusal.RunError.{RunError}
use Rattle.simplex_transcript.specs.declared.refusal.RunError.TheVariants as refusals
use Rattle.model_rules.specs.Pending.{Pending, Opened}
use Rattle.model_steps.specs.Voter.{Standing, answer_to, first_answered}
use Rattle.model_steps.specs.Engine as engine
use Rattle.model_steps.specs.Engine.{EngineMade, Did, Taken}
use Rattle.model_run.specs.Setting.{Setting}
use Rattle.model_run.specs.Kinds.{is_honest, is_node, runs_engine}
use Rattle.model_run.specs.Life.{Noted, Life, Stopped, Running, clock_of, life_in}
use Rattle.model_run.specs.Requests.{request_number, request_place, if_for, packet_for}
use Rattle.model_run.specs.Entries.{noted_with, answered_at, answer_taken, taken_of, took_of, is_at_end, is_own_floor, by_engine, on_start, on_packet, on_deliver, on_hearing, on_step, on_request, on_answer, on_crash, on_inject, made_of, entry_of}
use Rattle.model_run.proofs.Honest.{was_made}
use Rattle.model_run.specs.Groups.{node_stepped, numbered, put_at, IsBeside, AreApart, StandsBefore}
use Rattle.model_run.proofs.Beside.{clock_beside, life_beside, packet_low, packet_beside, number_beside, place_beside}
use Rattle.model_run.proofs.Quiet.{Quiet, quiet_made, engine_is, deliver_quiet, step_quiet, answer_quiet, node_quiet}

-- two lists of entries in which the node reads the same
pub record ReadSame (setting : Setting) (node : Node) (here before : List Noted) : Type 0 where
  pub clock : clock_of here ≡ clock_of before
  pub life : life_in setting here node ≡ life_in setting before node
  pub number : (at : Ref) → request_number here node at ≡ request_number before node at
  pub place : (number : ℕ) → request_place here node number ≡ request_place before node number

pub reads : (setting : Setting) (node : Node) (made before : List Noted) → All (IsBeside node) made → ReadSame setting node (made ++ before) before
reads setting node made before all =
    record {
      clock = clock_beside node made before all;
      life = life_beside setting node made before all;
      number = λ at. number_beside node made before at all;
      place = λ number. place_beside node made before number all;
    }

-- the same entry but for the number, or the same refusal
abbrev Same : List Noted → Result Noted RunError → Result Noted RunError → Type 0
Same here r s = r ≡ put_at (length here + 1) s

same_if : (here : List Noted) (b : Bool) (r s : Result Noted RunError) (e : RunError) → Same here r s → Same here (if b then r else Err e) (if b then s else Err e)
same_if here true r s e h = h
same_if here false r s e h = refl

same_unless : (here : List Noted) (b : Bool) (r s : Result Noted RunError) (e : RunError) → Same here r s → Same here (if b then Err e else r) (if b then Err e else s)
same_unless here true r s e h = refl
same_unless here false r s e h = h

abbrev entered : Setup → List Noted → Event → Node → Option Took → Did → Result Noted RunError
entered setup here event node took did = Ok (noted_with setup here event node took did)

-- ---- a delivery

on_packet_same : (setup : Setup) (node : Node) (here before : List Noted) (at : Ref) → clock_of here ≡ clock_of before → (o : Option Packet) (made : EngineMade) (past : List Did)
    → Same here (on_packet setup here node at o made past) (on_packet setup before node at o made past)
on_packet_same setup node here before at clock None made past = refl
on_packet_same setup node here before at clock (Some packet) made past =
    same_unless here (is_at_end setup made past) _ (entered setup before (events.Deliver node at) node (Some (tooks.Packet at)) (engine.heard made past packet.from.member packet.channel packet.bytes (clock_of before))) refusals.ViewEnd
    (ap (λ (now : ℕ). entered setup here (events.Deliver node at) node (Some (tooks.Packet at)) (engine.heard made past packet.from.member packet.channel packet.bytes now)) clock)

on_deliver_same : (setup : Setup) (node : Node) (here before : List Noted) (at : Ref) → clock_of here ≡ clock_of before → packet_for here node at ≡ packet_for before node at
    → (life : Life) → Same here (on_deliver setup here node at life) (on_deliver setup before node at life)
on_deliver_same setup node here before at clock packet (Stopped sections) = refl
on_deliver_same setup node here before at clock packet (Running made past) =
    ap (λ o. on_packet setup here node at o made past) packet ∙ on_packet_same setup node here before at clock (packet_for before node at) made past

-- ---- a step

answered_same : (node : Node) (here before : List Noted) → ((number : ℕ) → request_place here node number ≡ request_place before node number)
    → (number : ℕ) (answer : Answer) → answered_at here node number answer ≡ answered_at before node number answer
answered_same node here before place number answer = ap (λ o. option_map (λ at. tooks.Request at answer) o) (place number)

answer_same : (node : Node) (here before : List Noted) → ((number : ℕ) → request_place here node number ≡ request_place before node number)
    → (s : Standing) (number : ℕ) → answer_taken here node s number ≡ answer_taken before node s number
answer_same node here before place s number = by (answer_to s.answers number)
  where
    by : (o : Option Answer) → option_and_then (answered_at here node number) o ≡ option_and_then (answered_at before node number) o
    by None = refl
    by (Some answer) = answered_same node here before place number answer

taken_same : (node : Node) (here before : List Noted) → ((number : ℕ) → request_place here node number ≡ request_place before node number)
    → (s : Standing) (taken : Taken) → taken_of here node s taken ≡ taken_of before node s taken
unfolding taken_of
taken_same node here before place s (engine.Took sources.Propose message) = by s.desk.proposal
  where
    by : (o : Option Pending) → option_and_then (λ (p : Pending). answer_taken here node s p.number) o ≡ option_and_then (λ (p : Pending). answer_taken before node s p.number) o
    by None = refl
    by (Some p) = answer_same node here before place s p.number
taken_same node here before place s (engine.Took sources.Verify message) = by s.desk.verify
  where
    by : (o : Option Opened) → option_and_then (λ (v : Opened). answer_taken here node s v.number) o ≡ option_and_then (λ (v : Opened). answer_taken before node s v.number) o
    by None = refl
    by (Some v) = answer_same node here before place s v.number
taken_same node here before place s (engine.Took sources.Certify message) = by (first_answered s.desk.certify s.answers)
  where
    by : (o : Option (Opened × Answer)) → option_and_then (λ (t : Opened × Answer). answered_at here node t.0.number t.1) o ≡ option_and_then (λ (t : Opened × Answer). answered_at before node t.0.number t.1) o
    by None = refl
    by (Some t) = answered_same node here before place t.0.number t.1
taken_same node here before place s (engine.Took sources.Batcher message) = refl
taken_same node here before place s (engine.Took sources.Voter message) = refl
taken_same node here before place s (engine.Took sources.Timer message) = refl
taken_same node here before place s (engine.Took sources.Resolver message) = refl
taken_same node here before place s (engine.Took sources.Handler message) = refl
taken_same node here before place s (engine.Took sources.Fetch message) = refl
taken_same node here before place s engine.Began = refl
taken_same node here before place s (engine.Heard sender channel bytes) = refl
taken_same node here before place s (engine.Replied number answer) = refl

pub took_same : (node : Node) (here before : List Noted) → ((number : ℕ) → request_place here node number ≡ request_place before node number)
    → (made : EngineMade) (past : List Did) (did : Did) → took_of here node made past did ≡ took_of before node made past did
took_same node here before place made past did = rw (taken_same node here before place _ did.taken) refl

on_step_same : (setting : Setting) (node : Node) (here before : List Noted) → ReadSame setting node here before → (source : StepSource) (stop : Stop) (life : Life)
    → Same here (on_step setting.setup here node source stop life) (on_step setting.setup before node source stop life)
on_step_same setting node here before same source stop (Stopped sections) = refl
on_step_same setting node here before same source stop (Running made past) =
    let event = events.Step node source stop in
    let did = engine.stepped made past source (clock_of before) stop in
    same_unless here (is_at_end setting.setup made past) _ (entered setting.setup before event node (took_of before node made past did) did) refusals.ViewEnd
    (ap (λ (now : ℕ). entered setting.setup here event node (took_of here node made past (engine.stepped made past source now stop)) (engine.stepped made past source now stop)) same.clock
    ∙ ap (λ (took : Option Took). entered setting.setup here event node took did) (took_same node here before same.place made past did))

-- ---- an answer

on_request_same : (setup : Setup) (node : Node) (here before : List Noted) (at : Ref) (answer : Answer) → clock_of here ≡ clock_of before → (o : Option ℕ) (made : EngineMade) (past : List Did)
    → Same here (on_request setup here node at answer o made past) (on_request setup before node at answer o made past)
on_request_same setup node here before at answer clock None made past = refl
on_request_same setup node here before at answer clock (Some number) made past =
    same_if here (engine.takes_reply made past number answer) _ (entered setup before (events.Answer node at answer) node None (engine.replied number answer (clock_of before))) refusals.NotPending
    (ap (λ (now : ℕ). entered setup here (events.Answer node at answer) node None (engine.replied number answer now)) clock)

on_answer_same : (setting : Setting) (node : Node) (here before : List Noted) (at : Ref) (answer : Answer) → ReadSame setting node here before → (life : Life)
    → Same here (on_answer setting.setup here node at answer life) (on_answer setting.setup before node at answer life)
on_answer_same setting node here before at answer same (Stopped sections) = refl
on_answer_same setting node here before at answer same (Running made past) =
    ap (λ o. on_request setting.setup here node at answer o made past) (same.number at)
    ∙ on_request_same setting.setup node here before at answer same.clock (request_number before node at) made past

-- ---- each of them

packet_same : (node : Node) (made before : List Noted) (at : Ref) → StandsBefore before (events.Deliver node at) → packet_for (made ++ before) node at ≡ packet_for before node at
unfolding packet_for
packet_same node made before at stands = ap (λ o. option_and_then (if_for node) o) (packet_beside made before at (packet_low before at stands))

-- nothing is looked at for forgeries in what a node of an honest member sends
pub honest_made : (setting : Setting) (before : List Noted) (event : Event) (node : Node) → node_stepped event ≡ Some node → is_honest setting.setup node.member ≡ true
    → entry_of setting before event ≡ made_of setting before event
unfolding entry_of made_of
honest_made setting before (events.Deliver node at) n is honest =
    let h : is_honest setting.setup node.member ≡ true = (let same : node ≡ n = cc in rw same honest) in
    quiet_made setting.setup before (made_of setting before (events.Deliver node at))
    (subst (Quiet setting.setup) (sym (engine_is setting.setup node (on_deliver setting.setup before node at (life_in setting before node)) (on_hearing setting.setup before node at (packet_for before node at)) h))
    (node_quiet setting.setup node (is_node setting.setup node) (on_deliver setting.setup before node at (life_in setting before node)) refusals.NoMember
    (deliver_quiet setting.setup before node at (life_in setting before node) h)))
honest_made setting before (events.Step node source stop) n is honest =
    let h : is_honest setting.setup node.member ≡ true = (let same : node ≡ n = cc in rw same honest) in
    quiet_made setting.setup before (made_of setting before (events.Step node source stop))
    (subst (Quiet setting.setup) (sym (engine_is setting.setup node (on_step setting.setup before node source stop (life_in setting before node)) _ h))
    (node_quiet setting.setup node (is_node setting.setup node) (on_step setting.setup before node source stop (life_in setting before node)) refusals.NoMember
    (step_quiet setting.setup before node source stop (life_in setting before node) h)))
honest_made setting before (events.Answer node at answer) n is honest =
    let h : is_honest setting.setup node.member ≡ true = (let same : node ≡ n = cc in rw same honest) in
    quiet_made setting.setup before (made_of setting before (events.Answer node at answer))
    (subst (Quiet setting.setup) (sym (engine_is setting.setup node (on_answer setting.setup before node at answer (life_in setting before node)) _ h))
    (node_quiet setting.setup node (is_node setting.setup node) (on_answer setting.setup before node at answer (life_in setting before node)) refusals.NoMember
    (answer_quiet setting.setup before node at answer (life_in setting before node) h)))
honest_made setting before event n is honest = cc

-- where two answers are the same, so are those that a node of an honest member gives
node_same : (setup : Setup) (here : List Noted) (node : Node) (r s other less : Result Noted RunError) → is_honest setup node.member ≡ true → Same here r s
    → Same here (by_engine setup node r other) (by_engine setup node s less)
node_same setup here node r s other less h same =
    engine_is setup node r other h ∙ same_if here (is_node setup node) r s refusals.NoMember same
    ∙ ap (put_at (length here + 1)) (sym (engine_is setup node s less h))

made_apart : (setting : Setting) (before made : List Noted) (event : Event) (node : Node) → node_stepped event ≡ Some node → is_honest setting.setup node.member ≡ true
    → All (IsBeside node) made → StandsBefore before event → Same (made ++ before) (made_of setting (made ++ before) event) (made_of setting before event)
unfolding made_of
made_apart setting before made (events.Deliver node at) n is honest beside stands =
    let here = made ++ before in
    let e : n ≡ node = cc in
    let h : is_honest setting.setup node.member ≡ true = rw e at honest in
    let same = reads setting node made before (rw e at beside) in
    node_same setting.setup here node (on_deliver setting.setup here node at (life_in setting here node)) (on_deliver setting.setup before node at (life_in setting before node)) _ _ h
    (ap (λ life. on_deliver setting.setup here node at life) same.life
    ∙ on_deliver_same setting.setup node here before at same.clock (packet_same node made before at stands) (life_in setting before node))
made_apart setting before made (events.Step node source stop) n is honest beside stands =
    let here = made ++ before in
    let e : n ≡ node = cc in
    let h : is_honest setting.setup node.member ≡ true = rw e at honest in
    let same = reads setting node made before (rw e at beside) in
    node_same setting.setup here node (on_step setting.setup here node source stop (life_in setting here node)) (on_step setting.setup before node source stop (life_in setting before node)) _ _ h
    (ap (λ life. on_step setting.setup here node source stop life) same.life ∙ on_step_same setting node here before same source stop (life_in setting before node))
made_apart setting before made (events.Answer node at answer) n is honest beside stands =
    let here = made ++ before in
    let e : n ≡ node = cc in
    let h : is_honest setting.setup node.member ≡ true = rw e at honest in
    let same = reads setting node made before (rw e at beside) in
    node_same setting.setup here node (on_answer setting.setup here node at answer (life_in setting here node)) (on_answer setting.setup before node at answer (life_in setting before node)) _ _ h
    (ap (λ life. on_answer setting.setup here node at answer life) same.life ∙ on_answer_same setting node here before at answer same (life_in setting before node))
made_apart setting before made event n is honest beside stands = cc

pub stands_apart : (setting : Setting) (before made : List Noted) (event : Event) → AreApart setting.setup event made → StandsBefore before event
    → entry_of setting (made ++ before) event ≡ put_at (length (made ++ before) + 1) (entry_of setting before event)
stands_apart setting before made event apart stands =
    honest_made setting (made ++ before) event apart.node apart.steps apart.honest
    ∙ made_apart setting before made event apart.node apart.steps apart.honest apart.beside stands
    ∙ ap (put_at (length (made ++ before) + 1)) (sym (honest_made setting before event apart.node apart.steps apart.honest))

-- ---- what an event makes is its own, and has the next number

pub record IsMade (number : ℕ) (event : Event) (noted : Noted) : Type 0 where
  pub event_is : noted.event ≡ event
  pub number_is : noted.entry.event ≡ number

abbrev Makes : List Noted → Event → Result Noted RunError → Type 0
Makes before event r = IfOk r (IsMade (length before + 1) event)

either : (before : List Noted) (event : Event) (b : Bool) (r s : Result Noted RunError) → Makes before event r → Makes before event s → Makes before event (if b then r else s)
either before event true r s p q = p
either before event false r s p q = q

start_makes : (setting : Setting) (before : List Noted) (node : Node) (floor : Option Finalization) (stop : Stop) (life : Life)
    → Makes before (events.Start node floor stop) (on_start setting before node floor stop life)
start_makes setting before node floor stop (Running made past) = tt
start_makes setting before node floor stop (Stopped sections) =
    either before (events.Start node floor stop) (is_own_floor setting.setup before floor) (Ok _) (Err _) (record { event_is = refl; number_is = refl }) tt

packet_makes : (setup : Setup) (before : List Noted) (node : Node) (at : Ref) (o : Option Packet) (made : EngineMade) (past : List Did)
    → Makes before (events.Deliver node at) (on_packet setup before node at o made past)
packet_makes setup before node at None made past = tt
packet_makes setup before node at (Some packet) made past =
    either before (events.Deliver node at) (is_at_end setup made past) (Err _) (Ok _) tt (record { event_is = refl; number_is = refl })

deliver_makes : (setup : Setup) (before : List Noted) (node : Node) (at : Ref) (life : Life) → Makes before (events.Deliver node at) (on_deliver setup before node at life)
deliver_makes setup before node at (Stopped sections) = tt
deliver_makes setup before node at (Running made past) = packet_makes setup before node at (packet_for before node at) made past

hearing_makes : (setup : Setup) (before : List Noted) (node : Node) (at : Ref) (o : Option Packet) → Makes before (events.Deliver node at) (on_hearing setup before node at o)
hearing_makes setup before node at None = tt
hearing_makes setup before node at (Some packet) = record { event_is = refl; number_is = refl }

step_makes : (setup : Setup) (before : List Noted) (node : Node) (source : StepSource) (stop : Stop) (life : Life)
    → Makes before (events.Step node source stop) (on_step setup before node source stop life)
step_makes setup before node source stop (Stopped sections) = tt
step_makes setup before node source stop (Running made past) =
    either before (events.Step node source stop) (is_at_end setup made past) (Err _) (Ok _) tt (record { event_is = refl; number_is = refl })

request_makes : (setup : Setup) (before : List Noted) (node : Node) (at : Ref) (answer : Answer) (o : Option ℕ) (made : EngineMade) (past : List Did)
    → Makes before (events.Answer node at answer) (on_request setup before node at answer o made past)
request_makes setup before node at answer None made past = tt
request_makes setup before node at answer (Some number) made past =
    either before (events.Answer node at answer) (engine.takes_reply made past number answer) (Ok _) (Err _) (record { event_is = refl; number_is = refl }) tt

answer_makes : (setup : Setup) (before : List Noted) (node : Node) (at : Ref) (answer : Answer) (life : Life)
    → Makes before (events.Answer node at answer) (on_answer setup before node at answer life)
answer_makes setup before node at answer (Stopped sections) = tt
answer_makes setup before node at answer (Running made past) = request_makes setup before node at answer (request_number before node at) made past

crash_makes : (before : List Noted) (node : Node) (life : Life) → Makes before (events.Crash node) (on_crash before node life)
crash_makes before node (Stopped sections) = tt
crash_makes before node (Running made past) = record { event_is = refl; number_is = refl }

-- of a node with an engine, or with none
node_makes : (setup : Setup) (before : List Noted) (node : Node) (event : Event) (run other : Result Noted RunError) → Makes before event run → Makes before event other
    → Makes before event (by_engine setup node run other)
node_makes setup before node event run other p q =
    either before event (is_node setup node) (if runs_engine setup node.member then run else other) (Err _)
    (either before event (runs_engine setup node.member) run other p q) tt

made_makes : (setting : Setting) (before : List Noted) (event : Event) → Makes before event (made_of setting before event)
unfolding made_of
made_makes setting before (events.Start node floor stop) =
    node_makes setting.setup before node (events.Start node floor stop) (on_start setting before node floor stop (life_in setting before node)) (Err _)
    (start_makes setting before node floor stop (life_in setting before node)) tt
made_makes setting before (events.Tick ms) = either before (events.Tick ms) _ (Ok _) (Err _) (record { event_is = refl; number_is = refl }) tt
made_makes setting before (events.Deliver node at) =
    node_makes setting.setup before node (events.Deliver node at) (on_deliver setting.setup before node at (life_in setting before node)) (on_hearing setting.setup before node at (packet_for before node at))
    (deliver_makes setting.setup before node at (life_in setting before node)) (hearing_makes setting.setup before node at (packet_for before node at))
made_makes setting before (events.Step node source stop) =
    node_makes setting.setup before node (events.Step node source stop) (on_step setting.setup before node source stop (life_in setting before node)) (Ok _)
    (step_makes setting.setup before node source stop (life_in setting before node)) (record { event_is = refl; number_is = refl })
made_makes setting before (events.Answer node at answer) =
    node_makes setting.setup before node (events.Answer node at answer) (on_answer setting.setup before node at answer (life_in setting before node)) (Err _)
    (answer_makes setting.setup before node at answer (life_in setting before node)) tt
made_makes setting before (events.Crash node) =
    node_makes setting.setup before node (events.Crash node) (on_crash before node (life_in setting before node)) (Ok _)
    (crash_makes before node (life_in setting before node)) (record { event_is = refl; number_is = refl })
made_makes setting before (events.Inject member channel to bytes) =
    either before (events.Inject member channel to bytes) _ (on_inject setting.setup before member channel to bytes) (Err _)
    (either before (events.Inject member channel to bytes) (is_honest setting.setup member) (Err _) (Ok _) tt (record { event_is = refl; number_is = refl })) tt

if_made : (number : ℕ) (event : Event) (made r : Result Noted RunError) → ((noted : Noted) → r ≡ Ok noted → made ≡ Ok noted) → IfOk made (IsMade number event)
    → IfOk r (IsMade number event)
if_made number event made (Err error) f is = tt
if_made number event made (Ok noted) f is = rw (f noted refl) at is

pub makes : (setting : Setting) (before : List Noted) (event : Event) → IfOk (entry_of setting before event) (IsMade (length before + 1) event)
makes setting before event =
    if_made (length before + 1) event (made_of setting before event) (entry_of setting before event) (was_made setting before event) (made_makes setting before event)

kept : (number : ℕ) (noted : Noted) → noted.entry.event ≡ number → noted ≡ numbered number noted
kept number noted e = subst (λ (n : ℕ). noted ≡ numbered n noted) e refl

-- so it keeps its number
pub keeps_number : (number : ℕ) (event : Event) (r : Result Noted RunError) → IfOk r (IsMade number event) → r ≡ put_at number r
keeps_number number event (Ok noted) is = ap (λ n. Ok n) (kept number noted is.number_is)
keeps_number number event (Err error) is = refl
