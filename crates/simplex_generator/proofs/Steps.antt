-- A generator draws an event, and makes it.
use Rattle.std.proofs.Common.{◌≡◌, ◌+◌, ◌∷◌, ℕ, List, [], refl, sym, ap, subst, ◌∙◌}
use Rattle.std.specs.Prelude.{Result, Ok, Err}
use Rattle.simplex_transcript.specs.declared.entry.Entry.{Entry}
use Rattle.simplex_transcript.specs.declared.event.Event.{Event}
use Rattle.simplex_transcript.specs.declared.node.Node.{Node}
use Rattle.simplex_transcript.specs.declared.refusal.RunError.{RunError}
use Rattle.simplex_transcript.specs.declared.setup.Setup.{Setup}
use Rattle.model_run.specs.Setting.{at_epoch_genesis}
use Rattle.model_run.specs.Life.{Noted, clock_of}
use Rattle.model_run.specs.Entries.{entry_of}
use Rattle.simplex_network.specs.Stands.{StandsFor, Grows, Enters, entered}
use Rattle.simplex_network.specs.Stands as networks
use Rattle.model_run.proofs.Honest.{was_made}
use Rattle.law_run.proofs.Unforged.{made_event}
use Rattle.simplex_generator.specs.Setup.{setup_of}
use Rattle.simplex_generator.specs.Drawing as drawing
use Rattle.simplex_generator.specs.Draws.{DrawsBehind, Chooses, Chose, TookIn}
use Rattle.simplex_generator.specs.declared.choice.Choice.TheVariants as choices
use Rattle.simplex_generator.specs.declared.source.Held.{Held}
use Rattle.simplex_generator.specs.declared.generator.Generator.{Generator}
use Rattle.simplex_generator.specs.Generated.{setting_for, event_behind, running_nodes, held}
use Rattle.simplex_generator.specs.Stands.{Generates, Draw, Drew, Makes, Refuses}

pub begins : (generator : Generator) (number : ℕ) (setup : Setup) → StandsFor generator.network (at_epoch_genesis setup) [] → DrawsBehind generator.drawing number [] 0
    → setup ≡ setup_of number → Generates generator number [] 0
begins generator number setup stands draws is = record { network = subst (λ s. StandsFor generator.network (at_epoch_genesis s) []) is stands; drawing = draws }

-- an event that is chosen by itself
pub draws_event : (old : Generator) (event : Event) → Chooses old.drawing (choices.Event event) → Draw old event
unfolding event_behind
draws_event old event chooses number before at stands =
    chooses (running_nodes (setting_for number) before) (held (setting_for number) before) number before at stands.drawing

-- a delivery to nodes that run
pub draws_delivery : (old new : Generator) (running : List Node) (place : ℕ) (event : Event) → Chooses old.drawing (choices.Delivery place)
    → Chose old.drawing new.drawing
    → ((number : ℕ) (before : List Noted) → StandsFor old.network (setting_for number) before → running ≡ running_nodes (setting_for number) before)
    → ((number : ℕ) (before : List Noted) (at : ℕ) → DrawsBehind new.drawing number before at → event ≡ drawing.delivery_at running before place)
    → Draw old event
unfolding event_behind
draws_delivery old new running place event chooses chose runs delivers number before at stands =
    let nodes = running_nodes (setting_for number) before in
    let all = held (setting_for number) before in
    delivers number before (at + (drawing.next_event nodes all number before at).words) (chose nodes all number before at stands.drawing)
    ∙ ap (λ r. drawing.delivery_at r before place) (runs number before stands.network)
    ∙ chooses nodes all number before at stands.drawing

-- a step of what holds something
pub draws_step : (old new : Generator) (items : List Held) (place : ℕ) (event : Event) → Chooses old.drawing (choices.Step place)
    → Chose old.drawing new.drawing
    → ((number : ℕ) (before : List Noted) → StandsFor old.network (setting_for number) before → clock_of before ≡ new.drawing.clock → items ≡ held (setting_for number) before)
    → event ≡ drawing.step_at items place → Draw old event
unfolding event_behind
draws_step old new items place event chooses chose holds is number before at stands =
    let nodes = running_nodes (setting_for number) before in
    let all = held (setting_for number) before in
    let later = chose nodes all number before at stands.drawing in
    is ∙ ap (λ h. drawing.step_at h place) (holds number before stands.network (sym later.clock)) ∙ chooses nodes all number before at stands.drawing

pub drew : (old new : Generator) → Chose old.drawing new.drawing → new.network ≡ old.network → Drew old new
unfolding event_behind
drew old new chose same number before at stands = record {
  network = rw same stands.network;
  drawing = chose (running_nodes (setting_for number) before) (held (setting_for number) before) number before at stands.drawing;
}

-- ---- what is made

abbrev entry_or : Entry → Result Entry RunError → Entry
entry_or entry (Ok other) = other
entry_or entry (Err error) = entry

pub makes : (old new : Generator) (event : Event) (entry : Entry) → Grows old.network new.network event entry → Enters old.network event entry
    → TookIn old.drawing new.drawing event entry → Makes old new event
makes old new event entry grows enters took number before at stands =
    by (entry_of (setting_for number) before event) refl (enters (setting_for number) before stands.network)
  where
    by : (made : Result Noted RunError) → entry_of (setting_for number) before event ≡ made → entered made ≡ Ok entry
        → (noted : Noted) × (entry_of (setting_for number) before event ≡ Ok noted) × Generates new number (noted ∷ before) at
    by (Err error) is enters = absurd (cc)
    by (Ok noted) is enters = (
      noted,
      is,
      record {
        network = grows (setting_for number) before noted stands.network is;
        drawing = took number before at noted stands.drawing (made_event (setting_for number) before event noted (was_made (setting_for number) before event noted is)) (ap (entry_or entry) enters);
      },
    )

pub refuses : (old : Generator) (event : Event) (error : RunError) → networks.Refuses old.network event error → Refuses old event error
refuses old event error refused number before at stands = refused (setting_for number) before stands.network
