-- Which scene a play is at.
use Rattle.std.specs.Prelude.{ℕ, ◌≡◌, false, List, [], ◌∷◌, ◌++◌, map, reverse}
use Rattle.simplex_transcript.specs.declared.entry.Entry.{Entry}
use Rattle.simplex_transcript.specs.declared.event.Event.{Event}
use Rattle.simplex_transcript.specs.declared.node.Node.{Node}
use Rattle.simplex_transcript.specs.declared.refusal.RunError.{RunError}
use Rattle.simplex_transcript.specs.declared.setup.Setup.{Setup}
use Rattle.model_run.specs.Life.{Noted, clock_of}
use Rattle.model_run.specs.Requests.{asked_since}
use Rattle.model_run.specs.Setting.{Setting}
use Rattle.simplex_network.specs.Answer.{is_memory}
use Rattle.simplex_network.specs.declared.network.Network.{Network}
use Rattle.simplex_network.specs.Stands.{StandsFor}
use Rattle.simplex_generator.specs.declared.unanswered.Requests.{Requests}
use Rattle.simplex_generator.specs.Drawing.{clock_behind}
use Rattle.simplex_generator.specs.Unanswered.{count_behind, count_in, first_in, unanswered, unanswered_behind}
use Rattle.simplex_script.specs.Post.{delivered_behind, waiting_behind}
use Rattle.simplex_scripts.specs.declared.came.Came.{Came}
use Rattle.simplex_scripts.specs.declared.came.Came.TheVariants as cames
use Rattle.simplex_scripts.specs.declared.play.Play.{Play}
use Rattle.simplex_scripts.specs.Coming.{nodes_of}
use Rattle.simplex_scripts.specs.Playing.{Bad, On, Played, Scene, Stopped}

-- whatever entries the network of this setup made, the answer is the rule's at them
abbrev pub NetworkAnswers : {A : Type 0} → Network → Setup → (Setting → List Noted → A) → A → Type 0
NetworkAnswers network setup rule answer =
    (setting : Setting) (before : List Noted) → StandsFor network setting before → setup ≡ setting.setup
    → answer ≡ rule setting before

-- the requests are those of these entries
pub record Asks (requests : Requests) (before : List Noted) : Type 0 where
  pub waiting : requests.«open».items ≡ unanswered before
  pub counts : (node : Node) → count_in requests.counts.items node ≡ asked_since before node

-- the play, so set, is at the scene
pub record Plays (play : Play) (setting : Setting) (scene : Scene) : Type 0 where
  pub setup : play.setup ≡ setting.setup
  pub network : StandsFor play.network setting scene.before
  pub nodes : play.nodes.items ≡ nodes_of setting.setup
  pub waiting : play.post.waiting.items ≡ scene.waiting
  pub delivered : play.post.delivered.items ≡ scene.delivered
  pub requests : Asks play.requests scene.before
  pub clock : play.clock ≡ clock_of scene.before
  pub events : play.events ≡ reverse (map (λ noted. noted.event) scene.before)
  pub lines : play.lines ≡ reverse scene.lines

-- where it came to this, at the scene
abbrev pub played_of : Came → Scene → Played
played_of cames.On scene = On scene
played_of (cames.Refused line event) scene = Stopped scene line event
played_of (cames.Bad bad) scene = Bad bad

-- the play is at the scene where it came to this
pub record Comes (play : Play) (setting : Setting) (came : Came) (played : Played) : Type 0 where
  pub scene : Scene
  pub plays : Plays play setting scene
  pub is : played ≡ played_of came scene

-- whatever scene the old play is at, the new one is where it came to this
abbrev pub Leads : Play → Play → (Setting → Scene → Played) → Came → Type 0
Leads old new played came =
    (setting : Setting) (scene : Scene) → Plays old setting scene → Comes new setting came (played setting scene)

-- whatever scene the play is at, the answer is the one there
abbrev pub Answers : {A : Type 0} → Play → (Setting → Scene → A) → A → Type 0
Answers play asked answer =
    (setting : Setting) (scene : Scene) → Plays play setting scene → answer ≡ asked setting scene

-- an event of the line is taken in, with its entry
pub record TakesIn (old new : Play) (line : ℕ) (event : Event) (entry : Entry) : Type 0 where
  pub setup : new.setup ≡ old.setup
  pub network : new.network ≡ old.network
  pub nodes : new.nodes ≡ old.nodes
  pub waiting : new.post.waiting.items ≡ waiting_behind event entry old.post.waiting.items
  pub delivered : new.post.delivered.items ≡ delivered_behind event old.post.waiting.items old.post.delivered.items
  pub requests : new.requests.«open».items
      ≡ unanswered_behind event entry (first_in event old.requests.counts.items) old.requests.«open».items
  pub counts : (node : Node) → count_in new.requests.counts.items node
      ≡ count_behind event entry old.requests.counts.items node
  pub clock : new.clock ≡ clock_behind event old.clock
  pub events : new.events ≡ old.events ++ event ∷ []
  pub lines : new.lines ≡ old.lines ++ line ∷ []

-- the event of the line is refused, and not for want of memory
pub record IsRefusal (error : RunError) (line : ℕ) (event : Event) (came : Came) : Type 0 where
  pub refused : is_memory error ≡ false
  pub came_is : came ≡ cames.Refused line event
