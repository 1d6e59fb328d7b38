-- No event makes a forgery, but for injected bytes and what an impersonator hears.
use Rattle.std.proofs.Common.{◌≡◌, ℕ, ◌+◌, ◌^◌, ◌&&◌, ◌-◌, nat_lt, nat_le, Bool, true, false, List, [], ◌∷◌, map, slice_get, Option, Some, None, Result, Ok, Err, refl, sym, ap, ◌∙◌, subst, inl, inr, if◌then◌else◌}
use Rattle.std.specs.List.{list_all, cons_option}
use Rattle.std.specs.Option.{option_map, option_map_or, unwrap_or}
use Rattle.simplex_wire.specs.declared.certificate.Finalization.{Finalization}
use Rattle.simplex_messages.specs.declared.step.Stop.{Stop}
use Rattle.simplex_transcript.specs.declared.entry.Packet.{Packet}
use Rattle.simplex_transcript.specs.declared.event.Event.{Event}
use Rattle.simplex_transcript.specs.declared.event.Event.TheVariants as events
use Rattle.simplex_transcript.specs.declared.event.StepSource.{StepSource}
use Rattle.simplex_transcript.specs.declared.node.Node.{Node}
use Rattle.simplex_transcript.specs.declared.node.Ref.{Ref}
use Rattle.simplex_transcript.specs.declared.refusal.RunError.{RunError}
use Rattle.simplex_transcript.specs.declared.setup.Setup.{Setup}
use Rattle.simplex_transcript.specs.declared.setup.MemberKind.{MemberKind}
use Rattle.simplex_transcript.specs.declared.setup.MemberKind.TheVariants as kinds
use Rattle.simplex_values.specs.declared.answer.Answer.{Answer}
use Rattle.model_steps.specs.Engine as engine
use Rattle.model_steps.specs.Engine.{EngineMade, Did}
use Rattle.model_run.specs.Setting.{Setting}
use Rattle.model_run.specs.Forged.{first_forged, unless, unless_forged}
use Rattle.model_run.specs.Hearing.{heard_of, heard_at, heard_in}
use Rattle.model_run.specs.Kinds.{is_of_kind, is_honest, is_node, is_same_node, runs_engine}
use Rattle.model_run.specs.Life.{Noted, Life, Stopped, Running, clock_of, is_of, life_in}
use Rattle.model_run.specs.Members.{members_of, kind_of}
use Rattle.model_run.specs.Mocks.{Sent}
use Rattle.model_run.specs.Requests.{packet_at, packet_for, request_number}
use Rattle.model_run.specs.Entries.{is_at_end, is_own_floor, on_start, on_packet, on_deliver, on_step, on_request, on_answer, on_crash, noted_idle, sent_by, on_hearing, by_engine, made_of, entry_of}
use Rattle.model_faults.specs.Heard.{Heard}
use Rattle.law_run.specs.Sayings.{Each}
use Rattle.law_run.proofs.Further.{same_self}
use Rattle.law_run.proofs.Members.{faulty_listed, is_there}
use Rattle.law_run.proofs.Turns.{IsEngineless, made_turn, ok_is, if_ok}
use Rattle.law_run.specs.Fitting.{IsOfBytes, AreTyped}
use Rattle.law_run.specs.MostlyHonest.{IsMostlyHonest}
use Rattle.law_run.proofs.Delivered.{InPackets, packet_there, packet_delivered}
use Rattle.law_run.proofs.Ran.{limited, mostly_honest}
use Rattle.law_run.proofs.Testing.{PassesOn}
use Rattle.law_run.proofs.Worlds.{sized_of}
use Rattle.law_run.specs.EventForging.{is_impersonator, may_forge, IsNext}
use Rattle.law_run.proofs.ForgingEngines.{going_passes, beginning_passes}
use Rattle.law_run.proofs.Mocking.{IsOwnSend, mock_own}
use Rattle.law_run.proofs.Owned.{own_passes}
use Rattle.law_run.specs.Passing.{PassesFrom}
use Rattle.law_run.proofs.ForgingPassing.{passing_entry}
use Rattle.law_run.proofs.Subjects.{IsHeardBytes}

-- ---- an entry is its event's

abbrev KeepsEvent : Event → Result Noted RunError → Type 0
KeepsEvent event (Ok noted) = noted.event ≡ event
KeepsEvent event (Err error) = Unit {0}

if_keeps : (event : Event) (b : Bool) (x y : Result Noted RunError) → KeepsEvent event x → KeepsEvent event y → KeepsEvent event (if b then x else y)
if_keeps event true x y p q = p
if_keeps event false x y p q = q

module _ (setting : Setting) (before : List Noted) (at : Node) where
  start_keeps : (floor : Option Finalization) (stop : Stop) (l : Life) → KeepsEvent (events.Start at floor stop) (on_start setting before at floor stop l)
  start_keeps floor stop (Running made past) = tt
  start_keeps floor stop (Stopped js) = if_keeps (events.Start at floor stop) (is_own_floor setting.setup before floor) _ _ refl tt

  packet_keeps : (ref : Ref) (o : Option Packet) (made : EngineMade) (past : List Did) → KeepsEvent (events.Deliver at ref) (on_packet setting.setup before at ref o made past)
  packet_keeps ref None made past = tt
  packet_keeps ref (Some packet) made past = if_keeps (events.Deliver at ref) (is_at_end setting.setup made past) _ _ tt refl

  deliver_keeps : (ref : Ref) (l : Life) → KeepsEvent (events.Deliver at ref) (on_deliver setting.setup before at ref l)
  deliver_keeps ref (Stopped js) = tt
  deliver_keeps ref (Running made past) = packet_keeps ref (packet_for before at ref) made past

  hearing_keeps : (ref : Ref) (o : Option Packet) → KeepsEvent (events.Deliver at ref) (on_hearing setting.setup before at ref o)
  hearing_keeps ref None = tt
  hearing_keeps ref (Some packet) = refl

  step_keeps : (source : StepSource) (stop : Stop) (l : Life) → KeepsEvent (events.Step at source stop) (on_step setting.setup before at source stop l)
  step_keeps source stop (Stopped js) = tt
  step_keeps source stop (Running made past) = if_keeps (events.Step at source stop) (is_at_end setting.setup made past) _ _ tt refl

  request_keeps : (ref : Ref) (answer : Answer) (o : Option ℕ) (made : EngineMade) (past : List Did) → KeepsEvent (events.Answer at ref answer) (on_request setting.setup before at ref answer o made past)
  request_keeps ref answer None made past = tt
  request_keeps ref answer (Some number) made past = if_keeps (events.Answer at ref answer) (engine.takes_reply made past number answer) _ _ refl tt

  answer_keeps : (ref : Ref) (answer : Answer) (l : Life) → KeepsEvent (events.Answer at ref answer) (on_answer setting.setup before at ref answer l)
  answer_keeps ref answer (Stopped js) = tt
  answer_keeps ref answer (Running made past) = request_keeps ref answer (request_number before at ref) made past

  crash_keeps : (l : Life) → KeepsEvent (events.Crash at) (on_crash before at l)
  crash_keeps (Stopped js) = tt
  crash_keeps (Running made past) = refl

  engine_keeps : (event : Event) (x y : Result Noted RunError) → KeepsEvent event x → KeepsEvent event y → KeepsEvent event (by_engine setting.setup at x y)
  engine_keeps event x y p q = if_keeps event (is_node setting.setup at) _ _ (if_keeps event (runs_engine setting.setup at.member) x y p q) tt

made_keeps : (setting : Setting) (before : List Noted) (event : Event) → KeepsEvent event (made_of setting before event)
unfolding made_of
made_keeps setting before (events.Start at floor stop) = engine_keeps setting before at (events.Start at floor stop) _ _ (start_keeps setting before at floor stop (life_in setting before at)) tt
made_keeps setting before (events.Tick ms) = if_keeps (events.Tick ms) (nat_le (clock_of before + ms) (2 ^ 63 - 1)) _ _ refl tt
made_keeps setting before (events.Deliver at ref) =
    engine_keeps setting before at (events.Deliver at ref) _ _ (deliver_keeps setting before at ref (life_in setting before at)) (hearing_keeps setting before at ref (packet_for before at ref))
made_keeps setting before (events.Step at source stop) = engine_keeps setting before at (events.Step at source stop) _ _ (step_keeps setting before at source stop (life_in setting before at)) refl
made_keeps setting before (events.Answer at ref answer) = engine_keeps setting before at (events.Answer at ref answer) _ _ (answer_keeps setting before at ref answer (life_in setting before at)) tt
made_keeps setting before (events.Crash at) = engine_keeps setting before at (events.Crash at) _ _ (crash_keeps setting before at (life_in setting before at)) refl
made_keeps setting before (events.Inject who channel to bytes) =
    if_keeps (events.Inject who channel to bytes) (nat_lt who (members_of setting.setup) && list_all (is_node setting.setup) to) _ _ (if_keeps (events.Inject who channel to bytes) (is_honest setting.setup who) _ _ tt refl) tt

pub made_event : (setting : Setting) (before : List Noted) (event : Event) (noted : Noted) → made_of setting before event ≡ Ok noted → noted.event ≡ event
made_event setting before event noted e = subst (KeepsEvent event) e (made_keeps setting before event)

-- ---- what a node without an engine heard

heard_bytes : (before : List Noted) (node : Node) → InPackets IsOfBytes before → Each IsHeardBytes (heard_in before node)
unfolding heard_in
heard_bytes [] node b = tt
heard_bytes (noted ∷ before) node b = behind (heard_at before node noted.event) (now noted.event) (heard_bytes before node b.1)
  where
    OfBytes : Option Heard → Type 0
    OfBytes o = (heard : Heard) → o ≡ Some heard → IsHeardBytes heard

    found : (o p : Option Packet) → ((packet : Packet) → o ≡ Some packet → IsOfBytes packet) → (heard : Heard) → option_map heard_of o ≡ Some heard → IsHeardBytes heard
    found (Some packet) p h heard e = (let same : heard_of packet ≡ heard = cc in subst IsHeardBytes same (h packet refl))
    found None p h heard e = cc

    if_same : (c : Bool) (ref : Ref) (heard : Heard) → (if c then option_map heard_of (packet_at before ref) else None) ≡ Some heard → IsHeardBytes heard
    if_same true ref heard e = found (packet_at before ref) None (λ packet k. packet_there IsOfBytes before ref packet b.1 k) heard e
    if_same false ref heard e = cc

    now : (event : Event) (heard : Heard) → heard_at before node event ≡ Some heard → IsHeardBytes heard
    now (events.Deliver at ref) heard e = if_same (is_same_node at node) ref heard e
    now (events.Start at floor stop) heard e = cc
    now (events.Tick ms) heard e = cc
    now (events.Step at source stop) heard e = cc
    now (events.Answer at ref answer) heard e = cc
    now (events.Crash at) heard e = cc
    now (events.Inject who channel to bytes) heard e = cc

    behind : (o : Option Heard) → ((heard : Heard) → o ≡ Some heard → IsHeardBytes heard) → Each IsHeardBytes (heard_in before node) → Each IsHeardBytes (cons_option o (heard_in before node))
    behind (Some heard) h rest = (h heard refl, rest)
    behind None h rest = rest

pub packets_typed : (noted : List Noted) → AreTyped noted → InPackets IsOfBytes noted
packets_typed [] t = tt
packets_typed (n ∷ noted) t = (let first = t.0 in (first.bytes, packets_typed noted t.1))

-- ---- what it answers

no_impersonator : (setup : Setup) (member : ℕ) → is_of_kind is_impersonator setup member ≡ false → is_impersonator (kind_of setup member) ≡ false
no_impersonator setup member e = at (slice_get setup.members member) e
  where
    at : (o : Option MemberKind) → option_map_or is_impersonator o false ≡ false → is_impersonator (unwrap_or o kinds.Honest) ≡ false
    at None h = refl
    at (Some kind) h = h

sends_pass : (setup : Setup) (before : List Noted) (at : Node) (list : List Sent) → Each (IsOwnSend at.member) list → Each (PassesFrom setup before) (map (sent_by setup at) list)
sends_pass setup before at [] own = tt
sends_pass setup before at (s ∷ list) own = (
  (λ f. subst (λ c. PassesOn setup before c s.bytes) (sym own.0.0) (own_passes setup before at.member s.bytes (faulty_listed setup at.member f) own.0.1)),
  sends_pass setup before at list own.1,
)

module _ (setting : Setting) (before : List Noted) (o : IsMostlyHonest setting before) where
  hearing_passes : (at : Node) (ref : Ref) (noted : Noted) → is_node setting.setup at ≡ true → is_of_kind is_impersonator setting.setup at.member ≡ false
      → (p : Option Packet) → packet_for before at ref ≡ p → on_hearing setting.setup before at ref p ≡ Ok noted → Each (PassesFrom setting.setup before) noted.entry.packets
  hearing_passes at ref noted node none None f e = cc
  hearing_passes at ref noted node none (Some packet) f e =
      let bytes = packets_typed before o.typed in
      let own = mock_own setting.setup at.member (is_there setting.setup at node) (sized_of setting before o) (kind_of setting.setup at.member) (heard_in before at) (heard_of packet) o.epoch (no_impersonator setting.setup at.member none)
      (heard_bytes before at bytes) (packet_delivered IsOfBytes before at ref packet bytes f) in
      subst (λ (n : Noted). Each (PassesFrom setting.setup before) n.entry.packets) (ok_is _ noted e) (sends_pass setting.setup before at _ own)

  -- a node without an engine is there, and answers
  pub without : (at : Node) (x y : Result Noted RunError) (noted : Noted) → runs_engine setting.setup at.member ≡ false → by_engine setting.setup at x y ≡ Ok noted → (is_node setting.setup at ≡ true) × (y ≡ Ok noted)
  without at x y noted none e =
      let p = if_ok (is_node setting.setup at) _ _ noted e in
      (p.0, subst (λ (b : Bool). (if b then x else y) ≡ Ok noted) none p.1)

  -- no node of the event runs an engine
  abbrev OfNoEngine : Event → Type 0
  OfNoEngine event = (at : Node) → is_of at event ≡ true → runs_engine setting.setup at.member ≡ false

  idle_passes : (event : Event) (at : Node) (noted : Noted) → ◌≡◌ {A = Result Noted RunError} (Ok (noted_idle before event at)) (Ok noted) → Each (PassesFrom setting.setup before) noted.entry.packets
  idle_passes event at noted e = subst (λ (n : Noted). Each (PassesFrom setting.setup before) n.entry.packets) (ok_is (noted_idle before event at) noted e) tt

  engineless_passes : (event : Event) (noted : Noted) → OfNoEngine event → may_forge setting.setup event ≡ false → made_of setting before event ≡ Ok noted → Each (PassesFrom setting.setup before) noted.entry.packets
  unfolding made_of
  engineless_passes (events.Start at floor stop) noted none may e = (let y = (without at _ _ noted (none at (same_self at)) e).1 in cc)
  engineless_passes (events.Deliver at ref) noted none may e =
      (let w = without at _ _ noted (none at (same_self at)) e in hearing_passes at ref noted w.0 may (packet_for before at ref) refl w.1)
  engineless_passes (events.Step at source stop) noted none may e = idle_passes (events.Step at source stop) at noted (without at _ _ noted (none at (same_self at)) e).1
  engineless_passes (events.Answer at ref answer) noted none may e = (let y = (without at _ _ noted (none at (same_self at)) e).1 in cc)
  engineless_passes (events.Crash at) noted none may e = idle_passes (events.Crash at) at noted (without at _ _ noted (none at (same_self at)) e).1
  engineless_passes (events.Tick ms) noted none may e =
      subst (λ (n : Noted). Each (PassesFrom setting.setup before) n.entry.packets) (ok_is _ noted (if_ok (nat_le (clock_of before + ms) (2 ^ 63 - 1)) _ _ noted e).1) tt
  engineless_passes (events.Inject who channel to bytes) noted none may e = cc

  -- ---- every event

  not_engine : (event : Event) (noted : Noted) → noted.event ≡ event → IsEngineless setting.setup noted → OfNoEngine event
  not_engine event noted same a at of = by (runs_engine setting.setup at.member) refl
    where
      never : is_of at noted.event ≡ false → ⊥
      never k = cc (k, same, of)

      by : (b : Bool) → runs_engine setting.setup at.member ≡ b → runs_engine setting.setup at.member ≡ false
      by true h = absurd (never (a.engines at h))
      by false h = h

  event_passes : (event : Event) (noted : Noted) → AreTyped (noted ∷ before) → may_forge setting.setup event ≡ false → made_of setting before event ≡ Ok noted → Each (PassesFrom setting.setup before) noted.entry.packets
  event_passes event noted typed may e = elim (made_turn setting before event noted e) [
    | inl b ↦ beginning_passes setting before event noted o typed b
    | inr other ↦ elim other [
      | inl g ↦ going_passes setting before event noted o typed g
      | inr rest ↦ elim rest [
        | inl c ↦ subst (λ (n : Noted). Each (PassesFrom setting.setup before) n.entry.packets) c.is tt
        | inr last ↦ elim last [
          | inl t ↦ subst (λ (n : Noted). Each (PassesFrom setting.setup before) n.entry.packets) t.is tt
          | inr a ↦ engineless_passes event noted (not_engine event noted (made_event setting before event noted e) a) may e
        ]
      ]
    ]
  ]

-- ---- the laws

pub passed_on : (setting : Setting) (before : List Noted) (event : Event) (noted : Noted) → IsNext setting before event noted → may_forge setting.setup event ≡ false
    → Each (PassesFrom setting.setup before) noted.entry.packets
passed_on setting before event noted next may =
    let typed = next.typed in
    let o = mostly_honest setting before (limited setting.setup next.limits) next.ran typed.1 in
    event_passes setting before o event noted typed may next.made

pub none_forged : (setting : Setting) (before : List Noted) (event : Event) (noted : Noted) → IsNext setting before event noted → may_forge setting.setup event ≡ false → first_forged setting.setup before noted.entry ≡ None
none_forged setting before event noted next may = passing_entry setting.setup before noted.entry (passed_on setting before event noted next may)

pub none_refused : (setting : Setting) (before : List Noted) (event : Event) (noted : Noted) → IsNext setting before event noted → may_forge setting.setup event ≡ false → entry_of setting before event ≡ Ok noted
unfolding entry_of unless_forged
none_refused setting before event noted next may =
    ap (unless_forged setting.setup before) next.made ∙ ap (λ o. unless o noted) (none_forged setting before event noted next may)
