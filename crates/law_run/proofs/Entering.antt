-- One entry for each event.
use Rattle.std.proofs.Common.{◌≡◌, ℕ, ◌+◌, Bool, true, false, List, [], ◌∷◌, ◌++◌, length, map, reverse, Option, Some, None, Result, Ok, Err, IfOk, refl, sym, ap, ◌∙◌, subst, append_assoc, append-nil, add-one, if◌then◌else◌}
use Rattle.std.proofs.lemmas.List.{reverse-append}
use Rattle.simplex_values.specs.declared.answer.Answer.{Answer}
use Rattle.simplex_wire.specs.declared.certificate.Finalization.{Finalization}
use Rattle.simplex_messages.specs.declared.step.Stop.{Stop}
use Rattle.simplex_transcript.specs.declared.event.Event.{Event}
use Rattle.simplex_transcript.specs.declared.event.Event.TheVariants as events
use Rattle.simplex_transcript.specs.declared.event.StepSource.{StepSource}
use Rattle.simplex_transcript.specs.declared.entry.Entry.{Entry}
use Rattle.simplex_transcript.specs.declared.entry.Packet.{Packet}
use Rattle.simplex_transcript.specs.declared.node.Node.{Node}
use Rattle.simplex_transcript.specs.declared.node.Ref.{Ref}
use Rattle.simplex_transcript.specs.declared.setup.Setup.{Setup}
use Rattle.simplex_transcript.specs.declared.refusal.RunError.{RunError}
use Rattle.model_steps.specs.Engine.{EngineMade, Did}
use Rattle.model_run.specs.Setting.{Setting}
use Rattle.model_run.specs.Life.{Noted, Life, Stopped, Running, life_in}
use Rattle.model_run.specs.Requests.{request_number, packet_for}
use Rattle.model_run.specs.Entries.{on_start, on_packet, on_deliver, on_step, on_request, on_answer, on_crash, on_hearing, on_inject, by_engine, made_of, entry_of}
use Rattle.model_run.specs.Forged.{Signed, first_forged, unless, unless_forged}
use Rattle.model_run.specs.Kinds.{is_node, is_honest, runs_engine}
use Rattle.model_run.specs.Run.{unless_refused, run, RunFrom}
use Rattle.law_run.specs.Complete.{IsEntryOf, AreEach, IsOneEach}
use Rattle.law_run.proofs.Whole.{noted_in, parts, as_long}

-- ---- one entry

-- what is not refused is an entry of this event
abbrev Enters : List Noted → Event → Result Noted RunError → Type 0
Enters before event r = IfOk r (λ noted. IsEntryOf (length before + 1) event noted.entry)

either : (before : List Noted) (event : Event) (b : Bool) (r s : Result Noted RunError) → Enters before event r → Enters before event s
    → Enters before event (if b then r else s)
either before event true r s p q = p
either before event false r s p q = q

start_enters : (setting : Setting) (before : List Noted) (node : Node) (floor : Option Finalization) (stop : Stop) (life : Life)
    → Enters before (events.Start node floor stop) (on_start setting before node floor stop life)
start_enters setting before node floor stop (Running made past) = tt
start_enters setting before node floor stop (Stopped sections) =
    either before (events.Start node floor stop) _ (Ok _) (Err _) (record { counted = refl; who = refl }) tt

packet_enters : (setup : Setup) (before : List Noted) (node : Node) (at : Ref) (o : Option Packet) (made : EngineMade) (past : List Did)
    → Enters before (events.Deliver node at) (on_packet setup before node at o made past)
packet_enters setup before node at None made past = tt
packet_enters setup before node at (Some packet) made past =
    either before (events.Deliver node at) _ (Err _) (Ok _) tt (record { counted = refl; who = refl })

deliver_enters : (setup : Setup) (before : List Noted) (node : Node) (at : Ref) (life : Life)
    → Enters before (events.Deliver node at) (on_deliver setup before node at life)
deliver_enters setup before node at (Stopped sections) = tt
deliver_enters setup before node at (Running made past) = packet_enters setup before node at (packet_for before node at) made past

step_enters : (setup : Setup) (before : List Noted) (node : Node) (source : StepSource) (stop : Stop) (life : Life)
    → Enters before (events.Step node source stop) (on_step setup before node source stop life)
step_enters setup before node source stop (Stopped sections) = tt
step_enters setup before node source stop (Running made past) =
    either before (events.Step node source stop) _ (Err _) (Ok _) tt (record { counted = refl; who = refl })

request_enters : (setup : Setup) (before : List Noted) (node : Node) (at : Ref) (answer : Answer) (o : Option ℕ) (made : EngineMade) (past : List Did)
    → Enters before (events.Answer node at answer) (on_request setup before node at answer o made past)
request_enters setup before node at answer None made past = tt
request_enters setup before node at answer (Some number) made past =
    either before (events.Answer node at answer) _ (Ok _) (Err _) (record { counted = refl; who = refl }) tt

answer_enters : (setup : Setup) (before : List Noted) (node : Node) (at : Ref) (answer : Answer) (life : Life)
    → Enters before (events.Answer node at answer) (on_answer setup before node at answer life)
answer_enters setup before node at answer (Stopped sections) = tt
answer_enters setup before node at answer (Running made past) = request_enters setup before node at answer (request_number before node at) made past

crash_enters : (before : List Noted) (node : Node) (life : Life) → Enters before (events.Crash node) (on_crash before node life)
crash_enters before node (Stopped sections) = tt
crash_enters before node (Running made past) = record { counted = refl; who = refl }

-- a node with an engine, or with none
of_node : (setup : Setup) (before : List Noted) (node : Node) (event : Event) (run other : Result Noted RunError) → Enters before event run → Enters before event other
    → Enters before event (by_engine setup node run other)
of_node setup before node event run other p q =
    either before event (is_node setup node) (if runs_engine setup node.member then run else other) (Err _)
    (either before event (runs_engine setup node.member) run other p q) tt

hearing_enters : (setup : Setup) (before : List Noted) (node : Node) (at : Ref) (o : Option Packet) → Enters before (events.Deliver node at) (on_hearing setup before node at o)
hearing_enters setup before node at None = tt
hearing_enters setup before node at (Some packet) = record { counted = refl; who = refl }

made_enters : (setting : Setting) (before : List Noted) (event : Event) → Enters before event (made_of setting before event)
unfolding made_of
made_enters setting before (events.Start node floor stop) =
    of_node setting.setup before node (events.Start node floor stop) (on_start setting before node floor stop (life_in setting before node)) (Err _)
    (start_enters setting before node floor stop (life_in setting before node)) tt
made_enters setting before (events.Tick ms) = either before (events.Tick ms) _ (Ok _) (Err _) (record { counted = refl; who = refl }) tt
made_enters setting before (events.Deliver node at) =
    of_node setting.setup before node (events.Deliver node at) (on_deliver setting.setup before node at (life_in setting before node)) (on_hearing setting.setup before node at (packet_for before node at))
    (deliver_enters setting.setup before node at (life_in setting before node)) (hearing_enters setting.setup before node at (packet_for before node at))
made_enters setting before (events.Step node source stop) =
    of_node setting.setup before node (events.Step node source stop) (on_step setting.setup before node source stop (life_in setting before node)) (Ok _)
    (step_enters setting.setup before node source stop (life_in setting before node)) (record { counted = refl; who = refl })
made_enters setting before (events.Answer node at answer) =
    of_node setting.setup before node (events.Answer node at answer) (on_answer setting.setup before node at answer (life_in setting before node)) (Err _)
    (answer_enters setting.setup before node at answer (life_in setting before node)) tt
made_enters setting before (events.Crash node) =
    of_node setting.setup before node (events.Crash node) (on_crash before node (life_in setting before node)) (Ok _)
    (crash_enters before node (life_in setting before node)) (record { counted = refl; who = refl })
made_enters setting before (events.Inject member channel to bytes) =
    either before (events.Inject member channel to bytes) _ (on_inject setting.setup before member channel to bytes) (Err _)
    (either before (events.Inject member channel to bytes) (is_honest setting.setup member) (Err _) (Ok _) tt (record { counted = refl; who = refl })) tt

-- where what is forged is refused
unless_enters : (before : List Noted) (event : Event) (o : Option Signed) (noted : Noted) → IsEntryOf (length before + 1) event noted.entry → Enters before event (unless o noted)
unless_enters before event None noted p = p
unless_enters before event (Some s) noted p = tt

unforged_enters : (setup : Setup) (before : List Noted) (event : Event) (r : Result Noted RunError) → Enters before event r → Enters before event (unless_forged setup before r)
unfolding unless_forged
unforged_enters setup before event (Err error) p = tt
unforged_enters setup before event (Ok noted) p = unless_enters before event (first_forged setup before noted.entry) noted p

enters : (setting : Setting) (before : List Noted) (event : Event) → Enters before event (entry_of setting before event)
unfolding entry_of
enters setting before event = unforged_enters setting.setup before event (made_of setting before event) (made_enters setting before event)

-- ---- all of them

-- in order of events
abbrev in_order : List Noted → List Entry
in_order noted = reverse (map (λ (n : Noted). n.entry) noted)

in_order-push : (noted : Noted) (before : List Noted) → in_order (noted ∷ before) ≡ in_order before ++ noted.entry ∷ []
in_order-push noted before = rw (reverse-append (noted.entry ∷ []) (map (λ (n : Noted). n.entry) before)) refl

-- behind the entries so far stand those of the events
record Goes (before noted : List Noted) (events : List Event) : Type 0 where
  news : List Entry
  behind : in_order noted ≡ in_order before ++ news
  each : AreEach (length before + 1) events news

run_goes : (setting : Setting) (before : List Noted) (events : List Event) (noted : List Noted) → run setting before events ≡ Ok noted → Goes before noted events
unfolding run unless_refused AreEach
run_goes setting before [] noted e =
    let same : before ≡ noted = cc in
    record { news = []; behind = ap in_order (sym same) ∙ sym (append-nil (in_order before)); each = tt }
run_goes setting before (event ∷ events) noted e =
    by (entry_of setting before event) (enters setting before event) e (λ n. run_goes setting (n ∷ before) events noted)
  where
    by : (r : Result Noted RunError) → Enters before event r → unless_refused (length before + 1) r (λ n. run setting (n ∷ before) events) ≡ Ok noted
        → ((n : Noted) → run setting (n ∷ before) events ≡ Ok noted → Goes (n ∷ before) noted events) → Goes before noted (event ∷ events)
    by (Err error) enter h old = cc
    by (Ok n) enter h old =
        let goes = old n h in
        record {
          news = n.entry ∷ goes.news;
          behind = goes.behind ∙ ap (λ list. list ++ goes.news) (in_order-push n before) ∙ append_assoc (in_order before) (n.entry ∷ []) goes.news;
          each = (enter, subst (λ number. AreEach (number + 1) events goes.news) (sym (add-one (length before))) goes.each);
        }

pub one_each : (setting : Setting) (events : List Event) (entries : List Entry) → RunFrom setting events ≡ Ok entries → IsOneEach entries events
one_each setting events entries e =
    let noted = noted_in (run setting [] events) entries (parts setting events entries e).ran in
    let goes = run_goes setting [] events noted.0 noted.1 in
    record { count = as_long setting events entries e; each = subst (AreEach 1 events) (sym (noted.2 ∙ goes.behind)) goes.each }
