-- Each event is such to a node that runs an engine.
use Rattle.std.proofs.Common.{◌≡◌, ℕ, ◌+◌, ◌-◌, ◌^◌, ◌&&◌, nat_lt, nat_le, Bool, true, false, List, Option, Some, None, Result, Ok, Err, refl, sym, ap, subst, ◌∙◌, inl, inr, if◌then◌else◌}
use Rattle.std.specs.List.{list_all}
use Rattle.simplex_values.specs.declared.answer.Answer.{Answer}
use Rattle.simplex_wire.specs.declared.certificate.Finalization.{Finalization}
use Rattle.simplex_messages.specs.declared.step.Stop.{Stop}
use Rattle.simplex_transcript.specs.declared.entry.Packet.{Packet}
use Rattle.simplex_transcript.specs.declared.event.Event.{Event}
use Rattle.simplex_transcript.specs.declared.event.Event.TheVariants as events
use Rattle.simplex_transcript.specs.declared.event.StepSource.{StepSource}
use Rattle.simplex_transcript.specs.declared.node.Node.{Node}
use Rattle.simplex_transcript.specs.declared.node.Ref.{Ref}
use Rattle.simplex_transcript.specs.declared.refusal.RunError.{RunError}
use Rattle.model_steps.specs.Engine as engine
use Rattle.model_steps.specs.Engine.{EngineMade, Did}
use Rattle.model_run.specs.Setting.{Setting}
use Rattle.model_run.specs.Kinds.{is_honest, runs_engine, members_of, is_node}
use Rattle.model_run.specs.Life.{Noted, Life, Stopped, Running, clock_of, is_of, life_in}
use Rattle.model_run.specs.Members.{is_same_node}
use Rattle.model_run.specs.Requests.{request_number, packet_for}
use Rattle.model_run.specs.Entries.{noted_idle, is_own_floor, is_at_end, on_start, on_packet, on_deliver, on_step, on_request, on_answer, on_crash, on_hearing, by_engine, made_of, entry_of}
use Rattle.model_run.proofs.Honest.{was_made}
use Rattle.law_run.proofs.Further.{same_node}
use Rattle.law_requests.specs.Turns.{IsTurnOf}

module _ (setting : Setting) (before : List Noted) (node : Node) (good : runs_engine setting.setup node.member ≡ true) where
  abbrev Turns : Result Noted RunError → Type 0
  Turns (Ok noted) = IsTurnOf setting before node noted
  Turns (Err error) = Unit {0}

  if_turns : (b : Bool) (x y : Result Noted RunError) → (b ≡ true → Turns x) → (b ≡ false → Turns y) → Turns (if b then x else y)
  if_turns b x y p q = at b p q
    where
      at : (c : Bool) → (c ≡ true → Turns x) → (c ≡ false → Turns y) → Turns (if c then x else y)
      at true p q = p refl
      at false p q = q refl

  apart : (noted : Noted) → is_of node noted.event ≡ false → IsTurnOf setting before node noted
  apart noted e = inl e

  engine_turns : (at : Node) (x y : Result Noted RunError) → Turns x → (runs_engine setting.setup at.member ≡ false → Turns y) → Turns (by_engine setting.setup at x y)
  engine_turns at x y p q = if_turns (is_node setting.setup at) _ _ (λ t. if_turns (runs_engine setting.setup at.member) x y (λ e. p) q) (λ f. tt)

  -- of the node itself, or of another
  either_node : (at : Node) (Q : Node → Type 0) → Q node → (is_same_node at node ≡ false → Q at) → Q at
  either_node at Q p q = by (is_same_node at node) refl
    where
      by : (b : Bool) → is_same_node at node ≡ b → Q at
      by true e = subst Q (sym (same_node at node e)) p
      by false e = q e

  never_without : (at : Node) (y : Result Noted RunError) → (is_same_node at node ≡ false → Turns y) → runs_engine setting.setup at.member ≡ false → Turns y
  never_without at y q none = by (is_same_node at node) refl
    where
      by : (b : Bool) → is_same_node at node ≡ b → Turns y
      by true e = absurd (never (sym good ∙ sym (ap (λ (n : Node). runs_engine setting.setup n.member) (same_node at node e)) ∙ none))
        where
          never : true ≡ false → ⊥
          never e = cc
      by false e = q e

  start_turns : (floor : Option Finalization) (stop : Stop) (l : Life) → life_in setting before node ≡ l → Turns (on_start setting before node floor stop l)
  start_turns floor stop (Running made past) e = tt
  start_turns floor stop (Stopped js) e =
      if_turns (is_own_floor setting.setup before floor) _ _ (λ own. inr (inl (record { floor = floor; stop = stop; sections = js; stopped = e; own = own; is = refl }))) (λ f. tt)

  start_apart : (at : Node) (floor : Option Finalization) (stop : Stop) (l : Life) → is_same_node at node ≡ false → Turns (on_start setting before at floor stop l)
  start_apart at floor stop (Running made past) e = tt
  start_apart at floor stop (Stopped js) e = if_turns (is_own_floor setting.setup before floor) _ _ (λ t. apart _ e) (λ f. tt)

  packet_turns : (ref : Ref) (o : Option Packet) (made : EngineMade) (past : List Did) → packet_for before node ref ≡ o → life_in setting before node ≡ Running made past → Turns (on_packet setting.setup before node ref o made past)
  packet_turns ref None made past f e = tt
  packet_turns ref (Some packet) made past f e =
      if_turns (is_at_end setting.setup made past) _ _ (λ t. tt) (λ low. inr (inr (inl (record { ref = ref; packet = packet; made = made; past = past; running = e; found = f; low = low; is = refl }))))

  deliver_turns : (ref : Ref) (l : Life) → life_in setting before node ≡ l → Turns (on_deliver setting.setup before node ref l)
  deliver_turns ref (Stopped js) e = tt
  deliver_turns ref (Running made past) e = packet_turns ref (packet_for before node ref) made past refl e

  packet_apart : (at : Node) (ref : Ref) (o : Option Packet) (made : EngineMade) (past : List Did) → is_same_node at node ≡ false → Turns (on_packet setting.setup before at ref o made past)
  packet_apart at ref None made past e = tt
  packet_apart at ref (Some packet) made past e = if_turns (is_at_end setting.setup made past) _ _ (λ t. tt) (λ f. apart _ e)

  deliver_apart : (at : Node) (ref : Ref) (l : Life) → is_same_node at node ≡ false → Turns (on_deliver setting.setup before at ref l)
  deliver_apart at ref (Stopped js) e = tt
  deliver_apart at ref (Running made past) e = packet_apart at ref (packet_for before at ref) made past e

  hearing_apart : (at : Node) (ref : Ref) (o : Option Packet) → is_same_node at node ≡ false → Turns (on_hearing setting.setup before at ref o)
  hearing_apart at ref None e = tt
  hearing_apart at ref (Some packet) e = apart _ e

  step_turns : (source : StepSource) (stop : Stop) (l : Life) → life_in setting before node ≡ l → Turns (on_step setting.setup before node source stop l)
  step_turns source stop (Stopped js) e = tt
  step_turns source stop (Running made past) e =
      if_turns (is_at_end setting.setup made past) _ _ (λ t. tt) (λ low. inr (inr (inr (inl (record { source = source; stop = stop; made = made; past = past; running = e; low = low; is = refl })))))

  step_apart : (at : Node) (source : StepSource) (stop : Stop) (l : Life) → is_same_node at node ≡ false → Turns (on_step setting.setup before at source stop l)
  step_apart at source stop (Stopped js) e = tt
  step_apart at source stop (Running made past) e = if_turns (is_at_end setting.setup made past) _ _ (λ t. tt) (λ f. apart _ e)

  request_turns : (ref : Ref) (answer : Answer) (o : Option ℕ) (made : EngineMade) (past : List Did) → request_number before node ref ≡ o → life_in setting before node ≡ Running made past
      → Turns (on_request setting.setup before node ref answer o made past)
  request_turns ref answer None made past f e = tt
  request_turns ref answer (Some number) made past f e =
      if_turns (engine.takes_reply made past number answer) _ _
      (λ t. inr (inr (inr (inr (inl (record { ref = ref; answer = answer; number = number; made = made; past = past; running = e; named = f; taken = t; is = refl })))))) (λ f. tt)

  answer_turns : (ref : Ref) (answer : Answer) (l : Life) → life_in setting before node ≡ l → Turns (on_answer setting.setup before node ref answer l)
  answer_turns ref answer (Stopped js) e = tt
  answer_turns ref answer (Running made past) e = request_turns ref answer (request_number before node ref) made past refl e

  request_apart : (at : Node) (ref : Ref) (answer : Answer) (o : Option ℕ) (made : EngineMade) (past : List Did) → is_same_node at node ≡ false → Turns (on_request setting.setup before at ref answer o made past)
  request_apart at ref answer None made past e = tt
  request_apart at ref answer (Some number) made past e = if_turns (engine.takes_reply made past number answer) _ _ (λ t. apart _ e) (λ f. tt)

  answer_apart : (at : Node) (ref : Ref) (answer : Answer) (l : Life) → is_same_node at node ≡ false → Turns (on_answer setting.setup before at ref answer l)
  answer_apart at ref answer (Stopped js) e = tt
  answer_apart at ref answer (Running made past) e = request_apart at ref answer (request_number before at ref) made past e

  crash_turns : (l : Life) → life_in setting before node ≡ l → Turns (on_crash before node l)
  crash_turns (Stopped js) e = tt
  crash_turns (Running made past) e = inr (inr (inr (inr (inr (record { made = made; past = past; running = e; is = refl })))))

  crash_apart : (at : Node) (l : Life) → is_same_node at node ≡ false → Turns (on_crash before at l)
  crash_apart at (Stopped js) e = tt
  crash_apart at (Running made past) e = apart _ e

  idle_apart : (at : Node) (event : Event) → is_of node event ≡ false → Turns (Ok (noted_idle before event at))
  idle_apart at event e = apart (noted_idle before event at) e

  made_turns : (event : Event) → Turns (made_of setting before event)
  unfolding made_of
  made_turns (events.Start at floor stop) =
      engine_turns at _ _ (either_node at (λ n. Turns (on_start setting before n floor stop (life_in setting before n))) (start_turns floor stop (life_in setting before node) refl)
      (λ e. start_apart at floor stop (life_in setting before at) e)) (λ none. tt)
  made_turns (events.Tick ms) = if_turns (nat_le (clock_of before + ms) (2 ^ 63 - 1)) _ _ (λ t. apart _ refl) (λ f. tt)
  made_turns (events.Deliver at ref) =
      engine_turns at _ _ (either_node at (λ n. Turns (on_deliver setting.setup before n ref (life_in setting before n))) (deliver_turns ref (life_in setting before node) refl)
      (λ e. deliver_apart at ref (life_in setting before at) e)) (never_without at (on_hearing setting.setup before at ref (packet_for before at ref)) (λ e. hearing_apart at ref (packet_for before at ref) e))
  made_turns (events.Step at source stop) =
      engine_turns at _ _ (either_node at (λ n. Turns (on_step setting.setup before n source stop (life_in setting before n))) (step_turns source stop (life_in setting before node) refl)
      (λ e. step_apart at source stop (life_in setting before at) e)) (never_without at (Ok (noted_idle before (events.Step at source stop) at)) (λ e. idle_apart at (events.Step at source stop) e))
  made_turns (events.Answer at ref answer) =
      engine_turns at _ _ (either_node at (λ n. Turns (on_answer setting.setup before n ref answer (life_in setting before n))) (answer_turns ref answer (life_in setting before node) refl)
      (λ e. answer_apart at ref answer (life_in setting before at) e)) (λ none. tt)
  made_turns (events.Crash at) =
      engine_turns at _ _ (either_node at (λ n. Turns (on_crash before n (life_in setting before n))) (crash_turns (life_in setting before node) refl)
      (λ e. crash_apart at (life_in setting before at) e)) (never_without at (Ok (noted_idle before (events.Crash at) at)) (λ e. idle_apart at (events.Crash at) e))
  made_turns (events.Inject who channel to bytes) =
      if_turns (nat_lt who (members_of setting.setup) && list_all (is_node setting.setup) to) _ _ (λ t. if_turns (is_honest setting.setup who) _ _ (λ h. tt) (λ f. apart _ refl)) (λ f. tt)

  pub entry_turns : (event : Event) (noted : Noted) → entry_of setting before event ≡ Ok noted → IsTurnOf setting before node noted
  entry_turns event noted e = subst Turns (was_made setting before event noted e) (made_turns event)
