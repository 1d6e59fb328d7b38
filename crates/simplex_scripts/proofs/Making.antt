-- An event more.
use Rattle.std.proofs.Common.{◌≡◌, ◌++◌, ◌∷◌, [], ℕ, List, refl, sym, ap, subst, ◌∙◌}
use Rattle.std.proofs.lemmas.List.{reverse-append}
use Rattle.std.specs.Prelude.{Option, Result, Ok, Err, map, reverse}
use Rattle.simplex_transcript.specs.declared.entry.Entry.{Entry}
use Rattle.simplex_transcript.specs.declared.event.Event.{Event}
use Rattle.simplex_transcript.specs.declared.event.Event.TheVariants as events
use Rattle.simplex_transcript.specs.declared.refusal.RunError.{RunError}
use Rattle.model_steps.specs.Engine.{Did}
use Rattle.model_run.specs.Entries.{entry_of}
use Rattle.model_run.specs.Life.{Noted, clock_of}
use Rattle.model_run.specs.Setting.{Setting}
use Rattle.model_run.proofs.Honest.{was_made}
use Rattle.law_run.proofs.Unforged.{made_event}
use Rattle.simplex_network.specs.declared.network.Network.{Network}
use Rattle.simplex_network.specs.Stands.{Enters, Grows, Refuses, StandsFor, Stays, entered}
use Rattle.simplex_generator.specs.Drawing.{clock_behind}
use Rattle.simplex_script.specs.Post.{delivered_behind, waiting_behind}
use Rattle.simplex_scripts.specs.declared.came.Came.TheVariants as cames
use Rattle.simplex_scripts.specs.declared.play.Play.{Play}
use Rattle.simplex_scripts.specs.Playing.{On, Scene, Stopped, behind, made, noted_in}
use Rattle.simplex_scripts.specs.Stands.{Comes, Leads, Plays, TakesIn}
use Rattle.simplex_scripts.proofs.Asking.{asks_more}

-- the last item of a list is the first of its reverse
reversed : {A : Type 0} (item : A) (items : List A) → reverse items ++ item ∷ [] ≡ reverse (item ∷ items)
reversed item items = sym (reverse-append (item ∷ []) items)

-- the clock behind an entry
ticked : (event : Event) (entry : Entry) (did : Option Did) (before : List Noted)
    → clock_behind event (clock_of before) ≡ clock_of (record { event = event; entry = entry; did = did } ∷ before)
unfolding clock_of
ticked (events.Tick ms) entry did before = refl
ticked (events.Start node floor stop) entry did before = refl
ticked (events.Deliver node packet) entry did before = refl
ticked (events.Step node source stop) entry did before = refl
ticked (events.Answer node request answer) entry did before = refl
ticked (events.Crash node) entry did before = refl
ticked (events.Inject member channel to bytes) entry did before = refl

-- ---- the entry of an event

abbrev entry_in : Entry → Result Entry RunError → Entry
entry_in entry (Ok other) = other
entry_in entry (Err error) = entry

made_ok : (setting : Setting) (line : ℕ) (event : Event) (scene : Scene) (noted : Noted) → entry_of setting scene.before event ≡ Ok noted
    → made setting line event scene ≡ On (behind line noted scene)
unfolding made
made_ok setting line event scene noted is = ap (noted_in line event scene) is

made_err : (setting : Setting) (line : ℕ) (event : Event) (scene : Scene) (error : RunError) → entry_of setting scene.before event ≡ Err error
    → made setting line event scene ≡ Stopped scene line event
unfolding made
made_err setting line event scene error is = ap (noted_in line event scene) is

-- ---- the scene behind it

plays_more : (old new : Play) (network : Network) (setting : Setting) (scene : Scene) (line : ℕ) (noted : Noted) → Plays old setting scene
    → StandsFor network setting (noted ∷ scene.before) → TakesIn (record old { network = network }) new line noted.event noted.entry
    → Plays new setting (behind line noted scene)
plays_more old new network setting scene line noted plays stands takes = record {
  setup = takes.setup ∙ plays.setup;
  network = subst (λ (at : Network). StandsFor at setting (noted ∷ scene.before)) (sym takes.network) stands;
  nodes = ap (λ v. v.items) takes.nodes ∙ plays.nodes;
  waiting = takes.waiting ∙ ap (waiting_behind noted.event noted.entry) plays.waiting;
  delivered = takes.delivered ∙ ap (λ all. delivered_behind noted.event all old.post.delivered.items) plays.waiting
      ∙ ap (delivered_behind noted.event scene.waiting) plays.delivered;
  requests = asks_more old.requests new.requests scene.before noted takes.requests takes.counts plays.requests;
  clock = takes.clock ∙ ap (clock_behind noted.event) plays.clock ∙ ticked noted.event noted.entry noted.did scene.before;
  events = takes.events ∙ ap (λ (all : List Event). all ++ noted.event ∷ []) plays.events
      ∙ reversed noted.event (map (λ (it : Noted). it.event) scene.before);
  lines = takes.lines ∙ ap (λ (all : List ℕ). all ++ line ∷ []) plays.lines ∙ reversed line scene.lines;
}

plays_at : (old : Play) (network : Network) (setting : Setting) (scene : Scene) → Plays old setting scene → StandsFor network setting scene.before
    → Plays (record old { network = network }) setting scene
plays_at old network setting scene plays stands = record {
  setup = plays.setup;
  network = stands;
  nodes = plays.nodes;
  waiting = plays.waiting;
  delivered = plays.delivered;
  requests = plays.requests;
  clock = plays.clock;
  events = plays.events;
  lines = plays.lines;
}

-- ---- an event is made, or refused

pub makes : (old new : Play) (network : Network) (line : ℕ) (event : Event) (entry : Entry) → Grows old.network network event entry
    → Enters old.network event entry → TakesIn (record old { network = network }) new line event entry
    → Leads old new (λ setting. made setting line event) cames.On
makes old new network line event entry grows enters takes setting scene plays =
    by (entry_of setting scene.before event) refl (enters setting scene.before plays.network)
  where
    by : (result : Result Noted RunError) → entry_of setting scene.before event ≡ result → entered result ≡ Ok entry
        → Comes new setting cames.On (made setting line event scene)
    by (Err error) is enters = absurd (cc)
    by (Ok noted) is enters =
        let same_event : event ≡ noted.event = sym (made_event setting scene.before event noted (was_made setting scene.before event noted is)) in
        let same_entry : entry ≡ noted.entry = sym (ap (entry_in entry) enters) in
        let mid : Play = record old { network = network } in
        let taken : TakesIn mid new line noted.event entry = subst (λ (it : Event). TakesIn mid new line it entry) same_event takes in
        let takes_in : TakesIn mid new line noted.event noted.entry = subst (λ (it : Entry). TakesIn mid new line noted.event it) same_entry taken in
        record {
          scene = behind line noted scene;
          plays = plays_more old new network setting scene line noted plays (grows setting scene.before noted plays.network is) takes_in;
          is = made_ok setting line event scene noted is;
        }

pub refuses : (old : Play) (network : Network) (line : ℕ) (event : Event) (error : RunError) → Refuses old.network event error
    → Stays old.network network → Leads old (record old { network = network }) (λ setting. made setting line event) (cames.Refused line event)
refuses old network line event error refused stays setting scene plays = record {
  scene = scene;
  plays = plays_at old network setting scene plays (stays setting scene.before plays.network);
  is = made_err setting line event scene error (refused setting scene.before plays.network);
}
