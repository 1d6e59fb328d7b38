-- An entry is its event's.
use Rattle.std.proofs.Common.{◌≡◌, ℕ, ◌+◌, ◌-◌, ◌^◌, ◌&&◌, nat_lt, nat_le, Bool, true, false, List, [], ◌∷◌, map, length, Contains, Option, Some, None, Result, Ok, Err, ◌⊎◌, refl, sym, ◌∙◌, subst, inl, inr, if◌then◌else◌}
use Rattle.std.specs.List.{list_all}
use Rattle.simplex_values.specs.declared.answer.Answer.{Answer}
use Rattle.simplex_wire.specs.declared.certificate.Finalization.{Finalization}
use Rattle.simplex_messages.specs.declared.step.Stop.{Stop}
use Rattle.simplex_transcript.specs.declared.entry.Packet.{Packet}
use Rattle.simplex_transcript.specs.declared.event.Event.{Event}
use Rattle.simplex_transcript.specs.declared.event.Event.TheVariants as events
use Rattle.simplex_transcript.specs.declared.event.StepSource.{StepSource}
use Rattle.simplex_transcript.specs.declared.node.Node.{Node}
use Rattle.simplex_transcript.specs.declared.node.Ref.{Ref}
use Rattle.simplex_transcript.specs.declared.refusal.RunError.{RunError}
use Rattle.model_steps.specs.Engine as engine
use Rattle.model_steps.specs.Engine.{EngineMade, Did}
use Rattle.model_run.specs.Setting.{Setting}
use Rattle.model_run.specs.Kinds.{is_honest, runs_engine, members_of, is_node}
use Rattle.model_run.specs.Life.{Noted, Life, Stopped, Running, clock_of, life_in}
use Rattle.model_run.specs.Requests.{request_number, packet_for}
use Rattle.model_run.specs.Entries.{is_own_floor, is_at_end, on_start, on_packet, on_deliver, on_step, on_request, on_answer, on_crash, on_hearing, by_engine, made_of, entry_of}
use Rattle.model_run.specs.Run.{run, unless_refused}
use Rattle.model_run.proofs.Honest.{was_made}
use Rattle.law_agreement.proofs.ListFacts.{Contains-here, Contains-there, Contains-cons_cases}

abbrev KeepsEvent : Event → Result Noted RunError → Type 0
KeepsEvent event (Ok noted) = noted.event ≡ event
KeepsEvent event (Err error) = Unit {0}

if_keeps : (event : Event) (b : Bool) (x y : Result Noted RunError) → KeepsEvent event x → KeepsEvent event y → KeepsEvent event (if b then x else y)
if_keeps event true x y p q = p
if_keeps event false x y p q = q

module _ (setting : Setting) (before : List Noted) (at : Node) where
  start_keeps : (floor : Option Finalization) (stop : Stop) (l : Life) → KeepsEvent (events.Start at floor stop) (on_start setting before at floor stop l)
  start_keeps floor stop (Running made past) = tt
  start_keeps floor stop (Stopped js) = if_keeps (events.Start at floor stop) (is_own_floor setting.setup before floor) _ _ refl tt

  packet_keeps : (ref : Ref) (o : Option Packet) (made : EngineMade) (past : List Did) → KeepsEvent (events.Deliver at ref) (on_packet setting.setup before at ref o made past)
  packet_keeps ref None made past = tt
  packet_keeps ref (Some packet) made past = if_keeps (events.Deliver at ref) (is_at_end setting.setup made past) _ _ tt refl

  deliver_keeps : (ref : Ref) (l : Life) → KeepsEvent (events.Deliver at ref) (on_deliver setting.setup before at ref l)
  deliver_keeps ref (Stopped js) = tt
  deliver_keeps ref (Running made past) = packet_keeps ref (packet_for before at ref) made past

  hearing_keeps : (ref : Ref) (o : Option Packet) → KeepsEvent (events.Deliver at ref) (on_hearing setting.setup before at ref o)
  hearing_keeps ref None = tt
  hearing_keeps ref (Some packet) = refl

  step_keeps : (source : StepSource) (stop : Stop) (l : Life) → KeepsEvent (events.Step at source stop) (on_step setting.setup before at source stop l)
  step_keeps source stop (Stopped js) = tt
  step_keeps source stop (Running made past) = if_keeps (events.Step at source stop) (is_at_end setting.setup made past) _ _ tt refl

  request_keeps : (ref : Ref) (answer : Answer) (o : Option ℕ) (made : EngineMade) (past : List Did) → KeepsEvent (events.Answer at ref answer) (on_request setting.setup before at ref answer o made past)
  request_keeps ref answer None made past = tt
  request_keeps ref answer (Some number) made past = if_keeps (events.Answer at ref answer) (engine.takes_reply made past number answer) _ _ refl tt

  answer_keeps : (ref : Ref) (answer : Answer) (l : Life) → KeepsEvent (events.Answer at ref answer) (on_answer setting.setup before at ref answer l)
  answer_keeps ref answer (Stopped js) = tt
  answer_keeps ref answer (Running made past) = request_keeps ref answer (request_number before at ref) made past

  crash_keeps : (l : Life) → KeepsEvent (events.Crash at) (on_crash before at l)
  crash_keeps (Stopped js) = tt
  crash_keeps (Running made past) = refl

  engine_keeps : (event : Event) (x y : Result Noted RunError) → KeepsEvent event x → KeepsEvent event y → KeepsEvent event (by_engine setting.setup at x y)
  engine_keeps event x y p q = if_keeps event (is_node setting.setup at) _ _ (if_keeps event (runs_engine setting.setup at.member) x y p q) tt

made_keeps : (setting : Setting) (before : List Noted) (event : Event) → KeepsEvent event (made_of setting before event)
unfolding made_of
made_keeps setting before (events.Start at floor stop) = engine_keeps setting before at (events.Start at floor stop) _ _ (start_keeps setting before at floor stop (life_in setting before at)) tt
made_keeps setting before (events.Tick ms) = if_keeps (events.Tick ms) (nat_le (clock_of before + ms) (2 ^ 63 - 1)) _ _ refl tt
made_keeps setting before (events.Deliver at ref) =
    engine_keeps setting before at (events.Deliver at ref) _ _ (deliver_keeps setting before at ref (life_in setting before at)) (hearing_keeps setting before at ref (packet_for before at ref))
made_keeps setting before (events.Step at source stop) = engine_keeps setting before at (events.Step at source stop) _ _ (step_keeps setting before at source stop (life_in setting before at)) refl
made_keeps setting before (events.Answer at ref answer) = engine_keeps setting before at (events.Answer at ref answer) _ _ (answer_keeps setting before at ref answer (life_in setting before at)) tt
made_keeps setting before (events.Crash at) = engine_keeps setting before at (events.Crash at) _ _ (crash_keeps setting before at (life_in setting before at)) refl
made_keeps setting before (events.Inject who channel to bytes) =
    if_keeps (events.Inject who channel to bytes) (nat_lt who (members_of setting.setup) && list_all (is_node setting.setup) to) _ _ (if_keeps (events.Inject who channel to bytes) (is_honest setting.setup who) _ _ tt refl) tt

pub made_event : (setting : Setting) (before : List Noted) (event : Event) (noted : Noted) → made_of setting before event ≡ Ok noted → noted.event ≡ event
made_event setting before event noted e = subst (KeepsEvent event) e (made_keeps setting before event)

pub entry_event : (setting : Setting) (before : List Noted) (event : Event) (noted : Noted) → entry_of setting before event ≡ Ok noted → noted.event ≡ event
entry_event setting before event noted e = made_event setting before event noted (was_made setting before event noted e)

abbrev pub events_in : List Noted → List Event
events_in noted = map (λ (n : Noted). n.event) noted

-- each entry of a run is of one of its events
pub run_events : (setting : Setting) (before : List Noted) (list : List Event) (noted : List Noted) (event : Event) → run setting before list ≡ Ok noted
    → Contains (events_in noted) event → Contains list event ⊎ Contains (events_in before) event
unfolding run unless_refused
run_events setting before [] noted event e k = (let same : before ≡ noted = cc in inr (subst (λ (ns : List Noted). Contains (events_in ns) event) (sym same) k))
run_events setting before (first ∷ rest) noted event e k =
    at (entry_of setting before first) refl e (λ n h. run_events setting (n ∷ before) rest noted event h k)
  where
    new : (n : Noted) → entry_of setting before first ≡ Ok n → Contains rest event ⊎ Contains (events_in (n ∷ before)) event → Contains (first ∷ rest) event ⊎ Contains (events_in before) event
    new n f (inl later) = inl (Contains-there first rest event later)
    new n f (inr old) = elim (Contains-cons_cases n.event (events_in before) event old) [
      | inl same ↦ inl (subst (Contains (first ∷ rest)) (sym (entry_event setting before first n f) ∙ same) (Contains-here first rest))
      | inr earlier ↦ inr earlier
    ]

    at : (r : Result Noted RunError) → entry_of setting before first ≡ r → unless_refused (length before + 1) r (λ n. run setting (n ∷ before) rest) ≡ Ok noted
        → ((n : Noted) → run setting (n ∷ before) rest ≡ Ok noted → Contains rest event ⊎ Contains (events_in (n ∷ before)) event) → Contains (first ∷ rest) event ⊎ Contains (events_in before) event
    at (Err error) f h go = cc
    at (Ok n) f h go = new n f (go n h)
