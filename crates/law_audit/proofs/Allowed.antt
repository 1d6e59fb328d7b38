-- An event that a run takes is allowed by the record of what was before it.
use Rattle.std.proofs.Common.{◌≡◌, ℕ, ◌+◌, ◌-◌, ◌^◌, ◌<◌, ◌&&◌, nat_lt, nat_le, Bool, true, false, List, map, Option, Some, None, Result, Ok, Err, refl, ap, subst, ◌∙◌, arith, if◌then◌else◌}
use Rattle.std.specs.List.{list_all}
use Rattle.std.proofs.lemmas.Grind.{common_steps}
use Rattle.std.proofs.lemmas.Bool.Decides.{nat_tests}
use Rattle.simplex_values.specs.declared.answer.Answer.{Answer}
use Rattle.simplex_wire.specs.declared.certificate.Finalization.{Finalization}
use Rattle.simplex_messages.specs.declared.step.Stop.{Stop}
use Rattle.simplex_transcript.specs.declared.entry.Packet.{Packet}
use Rattle.simplex_transcript.specs.declared.event.Event.{Event}
use Rattle.simplex_transcript.specs.declared.event.Event.TheVariants as events
use Rattle.simplex_transcript.specs.declared.event.StepSource.{StepSource}
use Rattle.simplex_transcript.specs.declared.node.Node.{Node}
use Rattle.simplex_transcript.specs.declared.node.Ref.{Ref}
use Rattle.simplex_transcript.specs.declared.refusal.RunError.{RunError}
use Rattle.model_steps.specs.Engine as engine
use Rattle.model_steps.specs.Engine.{EngineMade, Did}
use Rattle.model_run.specs.Setting.{Setting}
use Rattle.model_run.specs.Kinds.{is_honest, is_faulty_member, runs_engine, members_of, is_node}
use Rattle.model_run.specs.Life.{Noted, Life, Stopped, Running, clock_of, life_in}
use Rattle.model_run.specs.Requests.{request_number, packet_for}
use Rattle.model_run.specs.Entries as entries
use Rattle.model_run.specs.Entries.{noted_idle, is_own_floor, on_start, on_packet, on_deliver, on_step, on_request, on_answer, on_crash, on_hearing, by_engine, made_of, entry_of}
use Rattle.model_run.proofs.Honest.{was_made}
use Rattle.law_run.specs.Histories.{IsRun}
use Rattle.law_run.proofs.Members.{unhonest_faulty}
use Rattle.law_run.proofs.AskedEvents.{entry_event}
use Rattle.law_requests.specs.Turns.{WasAnswered}
use Rattle.model_audit.specs.Rebuilt.{recorded}
use Rattle.model_audit.specs.Running.{runs_at}
use Rattle.model_audit.specs.Conditions.{is_allowed}
use Rattle.law_audit.specs.Recording.{runs_in, AreEndsRead}
use Rattle.law_audit.proofs.Telling.{same_clock, same_packet, same_floor}
use Rattle.law_audit.proofs.Lives.{runs_read}
use Rattle.law_audit.proofs.Pending.{pending_read}

module _ (setting : Setting) (before : List Noted) (ran : IsRun setting before) (ends : AreEndsRead setting before) where
  abbrev Allowed : Result Noted RunError → Type 0
  Allowed (Ok noted) = is_allowed setting (map recorded before) noted.event ≡ true
  Allowed (Err error) = Unit {0}

  if_allowed : (b : Bool) (x y : Result Noted RunError) → (b ≡ true → Allowed x) → (b ≡ false → Allowed y) → Allowed (if b then x else y)
  if_allowed b x y p q = at b p q
    where
      at : (c : Bool) → (c ≡ true → Allowed x) → (c ≡ false → Allowed y) → Allowed (if c then x else y)
      at true p q = p refl
      at false p q = q refl

  by_allowed : (at : Node) (x y : Result Noted RunError) → (is_node setting.setup at ≡ true → runs_engine setting.setup at.member ≡ true → Allowed x)
      → (is_node setting.setup at ≡ true → runs_engine setting.setup at.member ≡ false → Allowed y) → Allowed (by_engine setting.setup at x y)
  by_allowed at x y p q = if_allowed (is_node setting.setup at) _ _ (λ t. if_allowed (runs_engine setting.setup at.member) x y (p t) (q t)) (λ f. tt)

  module _ (at : Node) (there : is_node setting.setup at ≡ true) (good : runs_engine setting.setup at.member ≡ true) where
    runs : (l : Life) → life_in setting before at ≡ l → runs_at (map recorded before) at ≡ runs_in l
    runs l e = runs_read setting before at ran good ∙ ap runs_in e

    start_allowed : (floor : Option Finalization) (stop : Stop) (l : Life) → life_in setting before at ≡ l → Allowed (on_start setting before at floor stop l)
    unfolding is_allowed
    start_allowed floor stop (Running made past) e = tt
    start_allowed floor stop (Stopped js) e =
        if_allowed (is_own_floor setting.setup before floor) _ _ (λ own. (let stopped = runs (Stopped js) e in let same = same_floor setting.setup before floor ∙ own in rw (there, good, stopped, same) refl)) (λ f. tt)

    packet_allowed : (ref : Ref) (o : Option Packet) (made : EngineMade) (past : List Did) → packet_for before at ref ≡ o → life_in setting before at ≡ Running made past → Allowed (on_packet setting.setup before at ref o made past)
    unfolding is_allowed
    packet_allowed ref None made past f e = tt
    packet_allowed ref (Some packet) made past f e =
        if_allowed (entries.is_at_end setting.setup made past) _ _ (λ t. tt) (λ low.
        (let running = runs (Running made past) e in let found = same_packet before at ref ∙ f in let end = ends at made past good e ∙ low in rw (there, good, running, found, end) refl))

    deliver_allowed : (ref : Ref) (l : Life) → life_in setting before at ≡ l → Allowed (on_deliver setting.setup before at ref l)
    deliver_allowed ref (Stopped js) e = tt
    deliver_allowed ref (Running made past) e = packet_allowed ref (packet_for before at ref) made past refl e

    step_allowed : (source : StepSource) (stop : Stop) (l : Life) → life_in setting before at ≡ l → Allowed (on_step setting.setup before at source stop l)
    unfolding is_allowed
    step_allowed source stop (Stopped js) e = tt
    step_allowed source stop (Running made past) e =
        if_allowed (entries.is_at_end setting.setup made past) _ _ (λ t. tt) (λ low.
        (let running = runs (Running made past) e in let end = ends at made past good e ∙ low in rw (there, good, running, end) refl))

    request_allowed : (ref : Ref) (answer : Answer) (o : Option ℕ) (made : EngineMade) (past : List Did) → request_number before at ref ≡ o → life_in setting before at ≡ Running made past
        → Allowed (on_request setting.setup before at ref answer o made past)
    unfolding is_allowed
    request_allowed ref answer None made past f e = tt
    request_allowed ref answer (Some number) made past f e =
        if_allowed (engine.takes_reply made past number answer) _ _
        (λ t.
        let running = runs (Running made past) e in
        let noted = entries.noted_with setting.setup before (events.Answer at ref answer) at None (engine.replied number answer (clock_of before)) in
        let w : WasAnswered setting before at noted = record { ref = ref; answer = answer; number = number; made = made; past = past; running = e; named = f; taken = t; is = refl } in
        let pending = pending_read setting at good before noted w ran in
        rw (there, good, running, pending) refl) (λ f. tt)

    answer_allowed : (ref : Ref) (answer : Answer) (l : Life) → life_in setting before at ≡ l → Allowed (on_answer setting.setup before at ref answer l)
    answer_allowed ref answer (Stopped js) e = tt
    answer_allowed ref answer (Running made past) e = request_allowed ref answer (request_number before at ref) made past refl e

    crash_allowed : (l : Life) → life_in setting before at ≡ l → Allowed (on_crash before at l)
    unfolding is_allowed
    crash_allowed (Stopped js) e = tt
    crash_allowed (Running made past) e = (let running = runs (Running made past) e in rw (there, good, running) refl)

  -- ---- nodes without an engine

  module _ (at : Node) (there : is_node setting.setup at ≡ true) (none : runs_engine setting.setup at.member ≡ false) where
    hearing_allowed : (ref : Ref) (o : Option Packet) → packet_for before at ref ≡ o → Allowed (on_hearing setting.setup before at ref o)
    unfolding is_allowed
    hearing_allowed ref None f = tt
    hearing_allowed ref (Some packet) f = (let found = same_packet before at ref ∙ f in rw (there, none, found) refl)

    idle_step : (source : StepSource) (stop : Stop) → Allowed (Ok (noted_idle before (events.Step at source stop) at))
    unfolding is_allowed
    idle_step source stop = rw (there, none) refl

    idle_crash : Allowed (Ok (noted_idle before (events.Crash at) at))
    unfolding is_allowed
    idle_crash = rw (there, none) refl

  -- ---- any event

  tick_allowed : (ms : ℕ) → nat_le (clock_of before + ms) (2 ^ 63 - 1) ≡ true → is_allowed setting (map recorded before) (events.Tick ms) ≡ true
  unfolding is_allowed
  tick_allowed ms t = ap (λ n. nat_le (n + ms) (2 ^ 63 - 1)) (same_clock before) ∙ t

  inject_allowed : (who : ℕ) (channel : _) (to : List Node) (bytes : List ℕ) → (nat_lt who (members_of setting.setup) && list_all (is_node setting.setup) to) ≡ true → is_honest setting.setup who ≡ false
      → is_allowed setting (map recorded before) (events.Inject who channel to bytes) ≡ true
  unfolding is_allowed
  inject_allowed who channel to bytes t f = ap (λ b. b && is_faulty_member setting.setup who) t ∙ unhonest_faulty setting.setup who (below who (members_of setting.setup) (list_all (is_node setting.setup) to) t) f
    where
      below : (a b : ℕ) (t : Bool) → (nat_lt a b && t) ≡ true → a < b
      below a b t h = grind (arith, nat_tests, common_steps, h)

  made_allowed : (event : Event) → Allowed (made_of setting before event)
  unfolding made_of
  made_allowed (events.Start at floor stop) = by_allowed at _ _ (λ there good. start_allowed at there good floor stop (life_in setting before at) refl) (λ there none. tt)
  made_allowed (events.Tick ms) = if_allowed (nat_le (clock_of before + ms) (2 ^ 63 - 1)) _ _ (λ t. tick_allowed ms t) (λ f. tt)
  made_allowed (events.Deliver at ref) =
      by_allowed at _ _ (λ there good. deliver_allowed at there good ref (life_in setting before at) refl) (λ there none. hearing_allowed at there none ref (packet_for before at ref) refl)
  made_allowed (events.Step at source stop) = by_allowed at _ _ (λ there good. step_allowed at there good source stop (life_in setting before at) refl) (λ there none. idle_step at there none source stop)
  made_allowed (events.Answer at ref answer) = by_allowed at _ _ (λ there good. answer_allowed at there good ref answer (life_in setting before at) refl) (λ there none. tt)
  made_allowed (events.Crash at) = by_allowed at _ _ (λ there good. crash_allowed at there good (life_in setting before at) refl) (λ there none. idle_crash at there none)
  made_allowed (events.Inject who channel to bytes) =
      if_allowed (nat_lt who (members_of setting.setup) && list_all (is_node setting.setup) to) _ _ (λ t. if_allowed (is_honest setting.setup who) _ _ (λ h. tt) (λ f. inject_allowed who channel to bytes t f)) (λ f. tt)

  entry_allowed : (event : Event) (noted : Noted) → entry_of setting before event ≡ Ok noted → is_allowed setting (map recorded before) event ≡ true
  entry_allowed event noted e =
      subst (λ (x : Event). is_allowed setting (map recorded before) x ≡ true) (entry_event setting before event noted e) (subst Allowed (was_made setting before event noted e) (made_allowed event))

pub allowed_read : (setting : Setting) (before : List Noted) (event : Event) (noted : Noted) → IsRun setting before → AreEndsRead setting before → entry_of setting before event ≡ Ok noted → is_allowed setting (map recorded before) event ≡ true
allowed_read setting before event noted ran ends e = entry_allowed setting before ran ends event noted e
