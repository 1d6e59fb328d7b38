-- What an entry is: a start, one more turn of an engine that runs, a crash, or a tick.
use Rattle.std.proofs.Common.{◌≡◌, ℕ, ◌+◌, ◌-◌, ◌^◌, ◌&&◌, ◌⊎◌, nat_lt, nat_le, Bool, true, false, List, ◌∷◌, Option, Some, None, Result, Ok, Err, refl, inl, inr, if◌then◌else◌, [], map, Contains, sym, ◌∙◌, subst, ◌<◌, arith}
use Rattle.std.specs.List.{list_all}
use Rattle.simplex_values.specs.declared.answer.Answer.{Answer}
use Rattle.simplex_wire.specs.declared.certificate.Finalization.{Finalization}
use Rattle.simplex_journal.specs.Journal.{Section}
use Rattle.simplex_messages.specs.declared.step.Stop.{Stop}
use Rattle.simplex_transcript.specs.declared.entry.Packet.{Packet}
use Rattle.simplex_transcript.specs.declared.entry.Took.{Took}
use Rattle.simplex_transcript.specs.declared.entry.Took.TheVariants as tooks
use Rattle.simplex_transcript.specs.declared.event.Event.{Event}
use Rattle.simplex_transcript.specs.declared.event.Event.TheVariants as events
use Rattle.simplex_transcript.specs.declared.event.StepSource.{StepSource}
use Rattle.simplex_transcript.specs.declared.node.Node.{Node}
use Rattle.simplex_transcript.specs.declared.node.Ref.{Ref}
use Rattle.simplex_transcript.specs.declared.setup.Setup.{Setup}
use Rattle.model_steps.specs.Engine as engine
use Rattle.model_steps.specs.Engine.{EngineMade, Did}
use Rattle.model_run.specs.Setting.{Setting}
use Rattle.model_run.specs.Life.{Noted, Life, Stopped, Running, clock_of, is_of, going_on, after, life_in}
use Rattle.model_run.specs.Members.{is_node, members_of, is_same_node, floor_of, engine_of}
use Rattle.model_run.specs.Requests.{is_start, request_number, packet_for}
use Rattle.model_run.specs.Entries.{noted_with, noted_blank, took_of, is_at_end, is_own_floor, on_start, on_packet, on_deliver, on_step, on_request, on_answer, on_crash, entry_of, noted_idle, sent_by, on_hearing, on_inject, by_engine, made_of}
use Rattle.law_run.specs.Saying.{InStart}
use Rattle.std.proofs.lemmas.Bool.Decides.{nat_tests}
use Rattle.std.proofs.lemmas.Grind.{common_steps}
use Rattle.simplex_values.specs.declared.plan.Channel.{Channel}
use Rattle.simplex_transcript.specs.declared.refusal.RunError.{RunError}
use Rattle.model_run.specs.Kinds.{is_honest, is_faulty_member, runs_engine}
use Rattle.model_run.specs.Mocks.{Sent}
use Rattle.model_run.proofs.Honest.{was_made}
use Rattle.law_run.specs.Faulty.{faulty_of}
use Rattle.law_run.specs.Sayings.{Each}
use Rattle.law_run.proofs.Members.{engineless_faulty, unhonest_faulty, faulty_listed, is_there, other_node}

pub ok_is : {E A : Type 0} (a b : A) → ◌≡◌ {A = Result A E} (Ok a) (Ok b) → a ≡ b
ok_is a b e = cc

pub if_ok : {E A : Type 0} (b : Bool) (x : Result A E) (error : E) (a : A) → (if b then x else Err error) ≡ Ok a → (b ≡ true) × (x ≡ Ok a)
if_ok true x error a e = (refl, e)
if_ok false x error a e = cc

pub if_err : {E A : Type 0} (b : Bool) (x : Result A E) (error : E) (a : A) → (if b then Err error else x) ≡ Ok a → (b ≡ false) × (x ≡ Ok a)
if_err true x error a e = cc
if_err false x error a e = (refl, e)

both_err : {E A : Type 0} (b : Bool) (x y : E) (a : A) → ◌≡◌ {A = Result A E} (if b then Err x else Err y) (Ok a) → ⊥
both_err true x y a e = cc
both_err false x y a e = cc

-- a stopped node starts
pub record IsBeginning (setting : Setting) (before : List Noted) (event : Event) (noted : Noted) : Type 0 where
  pub at : Node
  pub floor : Option Finalization
  pub stop : Stop
  pub sections : List Section
  pub same : event ≡ events.Start at floor stop
  pub node : is_node setting.setup at ≡ true
  pub runs : runs_engine setting.setup at.member ≡ true
  pub stopped : life_in setting before at ≡ Stopped sections
  pub own : is_own_floor setting.setup before floor ≡ true
  pub is : noted_with setting.setup before (events.Start at floor stop) at (Some tooks.Floor) (engine.begun (engine_of setting at.member (floor_of setting.genesis floor) sections) (clock_of before) stop) ≡ noted

-- what an engine that runs takes: a packet, what a source holds, or an answer
pub record IsHeard (before : List Noted) (at : Node) (made : EngineMade) (past : List Did) (did : Did) : Type 0 where
  pub ref : Ref
  pub packet : Packet
  pub found : packet_for before at ref ≡ Some packet
  pub is : did ≡ engine.heard made past packet.from.member packet.channel packet.bytes (clock_of before)

pub record IsStepped (setup : Setup) (before : List Noted) (made : EngineMade) (past : List Did) (did : Did) : Type 0 where
  pub source : StepSource
  pub stop : Stop
  pub low : is_at_end setup made past ≡ false
  pub is : did ≡ engine.stepped made past source (clock_of before) stop

pub record IsReplied (before : List Noted) (did : Did) : Type 0 where
  pub number : ℕ
  pub answer : Answer
  pub is : did ≡ engine.replied number answer (clock_of before)

abbrev pub IsTaken : Setup → List Noted → Node → EngineMade → List Did → Did → Type 0
IsTaken setup before at made past did = IsHeard before at made past did ⊎ (IsStepped setup before made past did ⊎ IsReplied before did)

-- the engine of a node goes on
pub record IsGoing (setting : Setting) (before : List Noted) (event : Event) (noted : Noted) : Type 0 where
  pub at : Node
  pub took : Option Took
  pub did : Did
  pub made : EngineMade
  pub past : List Did
  pub node : is_node setting.setup at ≡ true
  pub runs : runs_engine setting.setup at.member ≡ true
  pub running : life_in setting before at ≡ Running made past
  pub of : (other : Node) → is_of other event ≡ is_same_node at other
  pub start : InStart (λ c. ⊥) event
  pub later : is_start event ≡ false
  pub goes : after setting event (Some did) (Running made past) ≡ going_on made (did ∷ past)
  pub taken : IsTaken setting.setup before at made past did
  pub is : noted_with setting.setup before event at took did ≡ noted

-- a node stops
pub record IsCrash (setting : Setting) (before : List Noted) (event : Event) (noted : Noted) : Type 0 where
  pub at : Node
  pub made : EngineMade
  pub past : List Did
  pub same : event ≡ events.Crash at
  pub node : is_node setting.setup at ≡ true
  pub runs : runs_engine setting.setup at.member ≡ true
  pub running : life_in setting before at ≡ Running made past
  pub is : noted_blank before (events.Crash at) (Some at) ≡ noted

-- the clock goes on
pub record IsTick (before : List Noted) (noted : Noted) : Type 0 where
  pub ms : ℕ
  pub is : noted_blank before (events.Tick ms) None ≡ noted

-- Faulty members act without an engine: a node that has none does nothing, or answers what it hears, or bytes are injected
pub record IsEngineless (setup : Setup) (noted : Noted) : Type 0 where
  pub engines : (node : Node) → runs_engine setup node.member ≡ true → is_of node noted.event ≡ false
  pub honest : (node : Node) → ¬ (Contains (faulty_of setup) node.member) → is_of node noted.event ≡ false
  pub start : InStart (λ c. ⊥) noted.event
  pub did : noted.did ≡ None
  pub added : noted.entry.added ≡ []
  pub handed : noted.entry.handed ≡ []
  pub calls : noted.entry.calls ≡ []
  pub packets : Each (λ (p : Packet). is_faulty_member setup p.from.member ≡ true) noted.entry.packets

abbrev pub IsTurn : Setting → List Noted → Event → Noted → Type 0
IsTurn setting before event noted =
    IsBeginning setting before event noted ⊎ (IsGoing setting before event noted ⊎ (IsCrash setting before event noted ⊎ (IsTick before noted ⊎ IsEngineless setting.setup noted)))

start_turn : (setting : Setting) (before : List Noted) (at : Node) (floor : Option Finalization) (stop : Stop) (noted : Noted) → is_node setting.setup at ≡ true → runs_engine setting.setup at.member ≡ true
    → (l : Life) → life_in setting before at ≡ l → on_start setting before at floor stop l ≡ Ok noted → IsTurn setting before (events.Start at floor stop) noted
start_turn setting before at floor stop noted is runs (Running made past) f e = cc
start_turn setting before at floor stop noted is runs (Stopped js) f e =
    let parts = if_ok (is_own_floor setting.setup before floor) _ _ noted e in
    inl (record { at = at; floor = floor; stop = stop; sections = js; same = refl; node = is; runs = runs; stopped = f; own = parts.0; is = ok_is _ noted parts.1 })

packet_turn : (setting : Setting) (before : List Noted) (at : Node) (ref : Ref) (noted : Noted) (made : EngineMade) (past : List Did) → is_node setting.setup at ≡ true → runs_engine setting.setup at.member ≡ true → life_in setting before at ≡ Running made past
    → (o : Option Packet) → packet_for before at ref ≡ o → on_packet setting.setup before at ref o made past ≡ Ok noted → IsTurn setting before (events.Deliver at ref) noted
unfolding after
packet_turn setting before at ref noted made past is runs f None p e = cc
packet_turn setting before at ref noted made past is runs f (Some packet) p e =
    let did = engine.heard made past packet.from.member packet.channel packet.bytes (clock_of before) in
    let taken : IsTaken setting.setup before at made past did = inl (record { ref = ref; packet = packet; found = p; is = refl }) in
    inr (inl (record {
      at = at;
      took = Some (tooks.Packet ref);
      did = did;
      made = made;
      past = past;
      node = is;
      runs = runs;
      running = f;
      of = λ other. refl;
      start = tt;
      later = refl;
      goes = refl;
      taken = taken;
      is = ok_is _ noted (if_err (is_at_end setting.setup made past) _ _ noted e).1;
    }))

deliver_turn : (setting : Setting) (before : List Noted) (at : Node) (ref : Ref) (noted : Noted) → is_node setting.setup at ≡ true → runs_engine setting.setup at.member ≡ true
    → (l : Life) → life_in setting before at ≡ l → on_deliver setting.setup before at ref l ≡ Ok noted → IsTurn setting before (events.Deliver at ref) noted
deliver_turn setting before at ref noted is runs (Stopped js) f e = cc
deliver_turn setting before at ref noted is runs (Running made past) f e = packet_turn setting before at ref noted made past is runs f (packet_for before at ref) refl e

step_turn : (setting : Setting) (before : List Noted) (at : Node) (source : StepSource) (stop : Stop) (noted : Noted) → is_node setting.setup at ≡ true → runs_engine setting.setup at.member ≡ true
    → (l : Life) → life_in setting before at ≡ l → on_step setting.setup before at source stop l ≡ Ok noted → IsTurn setting before (events.Step at source stop) noted
unfolding after
step_turn setting before at source stop noted is runs (Stopped js) f e = cc
step_turn setting before at source stop noted is runs (Running made past) f e =
    let did = engine.stepped made past source (clock_of before) stop in
    let parts = if_err (is_at_end setting.setup made past) _ _ noted e in
    let taken : IsTaken setting.setup before at made past did = inr (inl (record { source = source; stop = stop; low = parts.0; is = refl })) in
    inr (inl (record {
      at = at;
      took = took_of before at made past did;
      did = did;
      made = made;
      past = past;
      node = is;
      runs = runs;
      running = f;
      of = λ other. refl;
      start = tt;
      later = refl;
      goes = refl;
      taken = taken;
      is = ok_is _ noted parts.1;
    }))

request_turn : (setting : Setting) (before : List Noted) (at : Node) (ref : Ref) (answer : Answer) (noted : Noted) (made : EngineMade) (past : List Did) → is_node setting.setup at ≡ true → runs_engine setting.setup at.member ≡ true → life_in setting before at ≡ Running made past
    → (o : Option ℕ) → on_request setting.setup before at ref answer o made past ≡ Ok noted → IsTurn setting before (events.Answer at ref answer) noted
unfolding after
request_turn setting before at ref answer noted made past is runs f None e = cc
request_turn setting before at ref answer noted made past is runs f (Some number) e =
    let did = engine.replied number answer (clock_of before) in
    let taken : IsTaken setting.setup before at made past did = inr (inr (record { number = number; answer = answer; is = refl })) in
    inr (inl (record {
      at = at;
      took = None;
      did = did;
      made = made;
      past = past;
      node = is;
      runs = runs;
      running = f;
      of = λ other. refl;
      start = tt;
      later = refl;
      goes = refl;
      taken = taken;
      is = ok_is _ noted (if_ok (engine.takes_reply made past number answer) _ _ noted e).1;
    }))

answer_turn : (setting : Setting) (before : List Noted) (at : Node) (ref : Ref) (answer : Answer) (noted : Noted) → is_node setting.setup at ≡ true → runs_engine setting.setup at.member ≡ true
    → (l : Life) → life_in setting before at ≡ l → on_answer setting.setup before at ref answer l ≡ Ok noted → IsTurn setting before (events.Answer at ref answer) noted
answer_turn setting before at ref answer noted is runs (Stopped js) f e = cc
answer_turn setting before at ref answer noted is runs (Running made past) f e = request_turn setting before at ref answer noted made past is runs f (request_number before at ref) e

crash_turn : (setting : Setting) (before : List Noted) (at : Node) (noted : Noted) → is_node setting.setup at ≡ true → runs_engine setting.setup at.member ≡ true
    → (l : Life) → life_in setting before at ≡ l → on_crash before at l ≡ Ok noted → IsTurn setting before (events.Crash at) noted
crash_turn setting before at noted is runs (Stopped js) f e = cc
crash_turn setting before at noted is runs (Running made past) f e =
    inr (inr (inl (record { at = at; made = made; past = past; same = refl; node = is; runs = runs; running = f; is = ok_is _ noted e })))

-- ---- faulty members without an engine

other_engine : (setup : Setup) (at node : Node) → runs_engine setup at.member ≡ false → runs_engine setup node.member ≡ true → is_same_node at node ≡ false
other_engine setup at node none runs_one = other_node setup (λ m. runs_engine setup m ≡ false) at node none (λ e. never (sym runs_one ∙ e))
  where
    never : true ≡ false → ⊥
    never e = cc

unfaulty : (setup : Setup) (at node : Node) → is_node setup at ≡ true → runs_engine setup at.member ≡ false → ¬ (Contains (faulty_of setup) node.member) → is_same_node at node ≡ false
unfaulty setup at node is none honest =
    other_node setup (λ m. Contains (faulty_of setup) m) at node (faulty_listed setup at.member (engineless_faulty setup at.member (is_there setup at is) none)) honest

sent_by_faulty : (setup : Setup) (at : Node) (list : List Sent) → is_faulty_member setup at.member ≡ true → Each (λ (p : Packet). is_faulty_member setup p.from.member ≡ true) (map (sent_by setup at) list)
sent_by_faulty setup at [] f = tt
sent_by_faulty setup at (s ∷ list) f = (f, sent_by_faulty setup at list f)

idle_turn : (setting : Setting) (before : List Noted) (event : Event) (at : Node) (noted : Noted) → is_node setting.setup at ≡ true → runs_engine setting.setup at.member ≡ false
    → ((node : Node) → is_of node event ≡ is_same_node at node) → InStart (λ c. ⊥) event → ◌≡◌ {A = Result Noted RunError} (Ok (noted_idle before event at)) (Ok noted) → IsTurn setting before event noted
idle_turn setting before event at noted is none of start e =
    inr (inr (inr (inr (subst (IsEngineless setting.setup) (ok_is (noted_idle before event at) noted e) (record {
      engines = λ node runs_one. of node ∙ other_engine setting.setup at node none runs_one;
      honest = λ node good. of node ∙ unfaulty setting.setup at node is none good;
      start = start;
      did = refl;
      added = refl;
      handed = refl;
      calls = refl;
      packets = tt;
    })))))

hearing_turn : (setting : Setting) (before : List Noted) (at : Node) (ref : Ref) (noted : Noted) → is_node setting.setup at ≡ true → runs_engine setting.setup at.member ≡ false
    → (o : Option Packet) → on_hearing setting.setup before at ref o ≡ Ok noted → IsTurn setting before (events.Deliver at ref) noted
hearing_turn setting before at ref noted is none None e = cc
hearing_turn setting before at ref noted is none (Some packet) e =
    inr (inr (inr (inr (subst (IsEngineless setting.setup) (ok_is _ noted e) (record {
      engines = λ node runs_one. other_engine setting.setup at node none runs_one;
      honest = λ node good. unfaulty setting.setup at node is none good;
      start = tt;
      did = refl;
      added = refl;
      handed = refl;
      calls = refl;
      packets = sent_by_faulty setting.setup at _ (engineless_faulty setting.setup at.member (is_there setting.setup at is) none);
    })))))

inject_turn : (setting : Setting) (before : List Noted) (member : ℕ) (channel : Channel) (to : List Node) (bytes : List ℕ) (noted : Noted) → member < members_of setting.setup
    → on_inject setting.setup before member channel to bytes ≡ Ok noted → IsTurn setting before (events.Inject member channel to bytes) noted
inject_turn setting before member channel to bytes noted there e =
    let parts = if_err (is_honest setting.setup member) _ _ noted e in
    inr (inr (inr (inr (subst (IsEngineless setting.setup) (ok_is _ noted parts.1) (record {
      engines = λ node runs_one. refl;
      honest = λ node good. refl;
      start = tt;
      did = refl;
      added = refl;
      handed = refl;
      calls = refl;
      packets = (unhonest_faulty setting.setup member there parts.0, tt);
    })))))

-- ---- any event

-- a node with an engine, or one without
parted : (setting : Setting) (at : Node) (event : Event) (before : List Noted) (noted : Noted) (x y : Result Noted RunError) → by_engine setting.setup at x y ≡ Ok noted
    → (is_node setting.setup at ≡ true → runs_engine setting.setup at.member ≡ true → x ≡ Ok noted → IsTurn setting before event noted)
    → (is_node setting.setup at ≡ true → runs_engine setting.setup at.member ≡ false → y ≡ Ok noted → IsTurn setting before event noted) → IsTurn setting before event noted
parted setting at event before noted x y e f g = (let p = if_ok (is_node setting.setup at) _ _ noted e in by (runs_engine setting.setup at.member) refl p.0 p.1)
  where
    by : (b : Bool) → runs_engine setting.setup at.member ≡ b → is_node setting.setup at ≡ true → (if b then x else y) ≡ Ok noted → IsTurn setting before event noted
    by true r is h = f is r h
    by false r is h = g is r h

none_made : {A : Type 0} (setup : Setup) (error : RunError) (noted : Noted) → ◌≡◌ {A = Result Noted RunError} (Err error) (Ok noted) → A
none_made setup error noted e = cc

pub made_turn : (setting : Setting) (before : List Noted) (event : Event) (noted : Noted) → made_of setting before event ≡ Ok noted → IsTurn setting before event noted
unfolding made_of
made_turn setting before (events.Start at floor stop) noted e =
    parted setting at (events.Start at floor stop) before noted _ _ e (λ is runs h. start_turn setting before at floor stop noted is runs (life_in setting before at) refl h) (λ is none h. none_made setting.setup _ noted h)
made_turn setting before (events.Deliver at ref) noted e =
    parted setting at (events.Deliver at ref) before noted _ _ e (λ is runs h. deliver_turn setting before at ref noted is runs (life_in setting before at) refl h)
    (λ is none h. hearing_turn setting before at ref noted is none (packet_for before at ref) h)
made_turn setting before (events.Step at source stop) noted e =
    parted setting at (events.Step at source stop) before noted _ _ e (λ is runs h. step_turn setting before at source stop noted is runs (life_in setting before at) refl h)
    (λ is none h. idle_turn setting before (events.Step at source stop) at noted is none (λ node. refl) tt h)
made_turn setting before (events.Answer at ref answer) noted e =
    parted setting at (events.Answer at ref answer) before noted _ _ e (λ is runs h. answer_turn setting before at ref answer noted is runs (life_in setting before at) refl h) (λ is none h. none_made setting.setup _ noted h)
made_turn setting before (events.Crash at) noted e =
    parted setting at (events.Crash at) before noted _ _ e (λ is runs h. crash_turn setting before at noted is runs (life_in setting before at) refl h)
    (λ is none h. idle_turn setting before (events.Crash at) at noted is none (λ node. refl) tt h)
made_turn setting before (events.Tick ms) noted e = inr (inr (inr (inl (record { ms = ms; is = ok_is _ noted (if_ok (nat_le (clock_of before + ms) (2 ^ 63 - 1)) _ _ noted e).1 }))))
made_turn setting before (events.Inject who channel to bytes) noted e =
    let p = if_ok (nat_lt who (members_of setting.setup) && list_all (is_node setting.setup) to) _ _ noted e in
    inject_turn setting before who channel to bytes noted (below who (members_of setting.setup) (list_all (is_node setting.setup) to) p.0) p.1
  where
    below : (a b : ℕ) (t : Bool) → (nat_lt a b && t) ≡ true → a < b
    below a b t h = grind (arith, nat_tests, common_steps, h)

pub entry_turn : (setting : Setting) (before : List Noted) (event : Event) (noted : Noted) → entry_of setting before event ≡ Ok noted → IsTurn setting before event noted
entry_turn setting before event noted e = made_turn setting before event noted (was_made setting before event noted e)
