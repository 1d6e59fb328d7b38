-- What comes up next, part by part.
use Rattle.std.proofs.Common.{◌≡◌, ◌∙◌, ℕ, List, sym, ap}
use Rattle.std.specs.Prelude.{Option, Some, None, map}
use Rattle.std.specs.Option.{option_or}
use Rattle.simplex_transcript.specs.declared.event.Event.{Event}
use Rattle.simplex_transcript.specs.declared.node.Node.{Node}
use Rattle.simplex_transcript.specs.declared.setup.Setup.{Setup}
use Rattle.model_run.specs.Life.{Noted, clock_of}
use Rattle.model_run.specs.Setting.{Setting}
use Rattle.simplex_network.specs.declared.network.Network.{Network}
use Rattle.simplex_network.specs.Stands.{StandsFor}
use Rattle.simplex_generator.specs.declared.unanswered.Unanswered.{Unanswered}
use Rattle.simplex_script.specs.declared.planning.OpenRequest.{OpenRequest}
use Rattle.simplex_script.specs.declared.post.Parcel.{Parcel}
use Rattle.simplex_scripts.specs.declared.play.Play.{Play}
use Rattle.simplex_scripts.specs.Coming.{as_open, next, next_delivery, next_step, next_verdict, nodes_of, open_in}
use Rattle.simplex_scripts.specs.Playing.{Scene}
use Rattle.simplex_scripts.specs.Stands.{Plays}
use Rattle.simplex_scripts.proofs.Going.{NextIs}

-- what is answered of steps, of any network
abbrev pub StepIs : Network → List Node → ℕ → List Node → Option Event → Type 0
StepIs network nodes now among event =
    (setting : Setting) (before : List Noted) → StandsFor network setting before → clock_of before ≡ now → nodes ≡ nodes_of setting.setup
    → event ≡ next_step setting before among

-- and of deliveries
abbrev pub DeliveryIs : Network → Setup → List Parcel → List Node → Option Event → Type 0
DeliveryIs network setup waiting among event =
    (setting : Setting) (before : List Noted) → StandsFor network setting before → setup ≡ setting.setup
    → event ≡ next_delivery setting before waiting among

step_at : (play : Play) (among nodes : List Node) (event : Option Event) → nodes ≡ play.nodes.items
    → StepIs play.network nodes play.clock among event
    → (setting : Setting) (scene : Scene) → Plays play setting scene → event ≡ next_step setting scene.before among
step_at play among nodes event are is setting scene plays = is setting scene.before plays.network (sym plays.clock) (are ∙ plays.nodes)

-- the requests of the play are those of the scene
pub open_at : (play : Play) (all : List OpenRequest) → all ≡ map as_open play.requests.«open».items
    → (setting : Setting) (scene : Scene) → Plays play setting scene → all ≡ open_in scene.before
open_at play all is setting scene plays = is ∙ ap (λ (its : List Unanswered). map as_open its) plays.requests.waiting

pub upcoming_step : (play : Play) (among nodes : List Node) (event : Event) → nodes ≡ play.nodes.items
    → StepIs play.network nodes play.clock among (Some event) → NextIs play among (Some event)
unfolding next
upcoming_step play among nodes event are is setting scene plays =
    ap (λ (first : Option Event). option_or first (option_or (next_verdict (open_in scene.before) among) (next_delivery setting scene.before scene.waiting among)))
    (step_at play among nodes (Some event) are is setting scene plays)

pub upcoming_verdict : (play : Play) (among nodes : List Node) (all : List OpenRequest) (event : Event) → nodes ≡ play.nodes.items
    → StepIs play.network nodes play.clock among None → all ≡ map as_open play.requests.«open».items → Some event ≡ next_verdict all among
    → NextIs play among (Some event)
unfolding next
upcoming_verdict play among nodes all event are none opens is setting scene plays =
    ap (λ (second : Option Event). option_or second (next_delivery setting scene.before scene.waiting among))
    (is ∙ ap (λ (its : List OpenRequest). next_verdict its among) (open_at play all opens setting scene plays))
    ∙ ap (λ (first : Option Event). option_or first (option_or (next_verdict (open_in scene.before) among) (next_delivery setting scene.before scene.waiting among)))
    (step_at play among nodes None are none setting scene plays)

pub upcoming_delivery : (play : Play) (among nodes : List Node) (all : List OpenRequest) (waiting : List Parcel) (event : Option Event)
    → nodes ≡ play.nodes.items → StepIs play.network nodes play.clock among None → all ≡ map as_open play.requests.«open».items
    → None ≡ next_verdict all among → waiting ≡ play.post.waiting.items → DeliveryIs play.network play.setup waiting among event
    → NextIs play among event
unfolding next
upcoming_delivery play among nodes all waiting event are none opens no_verdict waits is setting scene plays =
    is setting scene.before plays.network plays.setup
    ∙ ap (λ (its : List Parcel). next_delivery setting scene.before its among) (waits ∙ plays.waiting)
    ∙ ap (λ (second : Option Event). option_or second (next_delivery setting scene.before scene.waiting among))
    (no_verdict ∙ ap (λ (its : List OpenRequest). next_verdict its among) (open_at play all opens setting scene plays))
    ∙ ap (λ (first : Option Event). option_or first (option_or (next_verdict (open_in scene.before) among) (next_delivery setting scene.before scene.waiting among)))
    (step_at play among nodes None are none setting scene plays)
