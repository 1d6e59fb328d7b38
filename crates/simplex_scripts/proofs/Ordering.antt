-- What commands come to.
use Rattle.std.proofs.Common.{◌≡◌, ◌∙◌, ℕ, Bool, true, false, List, refl, sym, ap}
use Rattle.std.specs.Prelude.{Option, Some, None, Result, Ok, Err, filter, map, not}
use Rattle.simplex_values.specs.declared.plan.Channel.{Channel}
use Rattle.simplex_transcript.specs.declared.event.Event.{Event}
use Rattle.simplex_transcript.specs.declared.node.Node.{Node}
use Rattle.model_run.specs.Setting.{Setting}
use Rattle.simplex_script.specs.declared.command.Command.{Command}
use Rattle.simplex_script.specs.declared.command.Command.TheVariants as commands
use Rattle.simplex_script.specs.declared.fault.Fault.{Fault}
use Rattle.simplex_script.specs.declared.fault.Fault.TheVariants as faults
use Rattle.simplex_script.specs.declared.planning.OpenRequest.{OpenRequest}
use Rattle.simplex_script.specs.declared.post.Parcel.{Parcel}
use Rattle.simplex_script.specs.declared.post.Post.{Post}
use Rattle.simplex_script.specs.Planning.{planned}
use Rattle.simplex_script.specs.Post.{first_on, is_for, is_same_parcel}
use Rattle.simplex_scripts.specs.declared.came.Came.{Came}
use Rattle.simplex_scripts.specs.declared.came.Came.TheVariants as cames
use Rattle.simplex_scripts.specs.declared.play.Play.{Play}
use Rattle.simplex_scripts.specs.Coming.{as_open, open_in}
use Rattle.simplex_scripts.specs.Playing.{On, Played, Scene, all_made, as_planned, lost, obeyed, without}
use Rattle.simplex_scripts.specs.Stands.{Leads, Plays}
use Rattle.simplex_scripts.proofs.Upcoming.{open_at}

-- ---- the events of a plan

-- what a command stands for at a scene
abbrev pub plan_at : Command → Scene → Result (List Event) Fault
plan_at command scene = planned command scene.waiting scene.delivered (open_in scene.before)

abbrev pub of_plan : ℕ → Command → Setting → Scene → Played
of_plan line command setting scene = as_planned setting line scene (plan_at command scene)

plan_is : (play : Play) (command : Command) (all : List OpenRequest) → all ≡ map as_open play.requests.«open».items
    → (setting : Setting) (scene : Scene) → Plays play setting scene
    → plan_at command scene ≡ planned command play.post.waiting.items play.post.delivered.items all
plan_is play command all is setting scene plays =
    sym (ap (λ (its : List Parcel). planned command its play.post.delivered.items all) plays.waiting
    ∙ ap (λ (its : List Parcel). planned command scene.waiting its all) plays.delivered
    ∙ ap (planned command scene.waiting scene.delivered) (open_at play all is setting scene plays))

pub plans_bad : (play : Play) (line : ℕ) (command : Command) (all : List OpenRequest) (fault : Fault) → all ≡ map as_open play.requests.«open».items
    → planned command play.post.waiting.items play.post.delivered.items all ≡ Err fault
    → Leads play play (of_plan line command) (cames.Bad (record { line = line; fault = fault }))
plans_bad play line command all fault opens is setting scene plays = record {
  scene = scene;
  plays = plays;
  is = ap (as_planned setting line scene) (plan_is play command all opens setting scene plays ∙ is);
}

pub plans_made : (old new : Play) (line : ℕ) (command : Command) (all : List OpenRequest) (events : List Event) (came : Came)
    → all ≡ map as_open old.requests.«open».items → planned command old.post.waiting.items old.post.delivered.items all ≡ Ok events
    → Leads old new (λ setting. all_made setting line events) came → Leads old new (of_plan line command) came
plans_made old new line command all events came opens is leads setting scene plays =
    let comes = leads setting scene plays in
    record {
      scene = comes.scene;
      plays = comes.plays;
      is = ap (as_planned setting line scene) (plan_is old command all opens setting scene plays ∙ is) ∙ comes.is;
    }

-- ---- the others

-- whether the command stands for events of its own
abbrev pub is_order : Command → Bool
is_order (commands.Settle nodes) = false
is_order (commands.Lose from to channel) = false
is_order (commands.Miss nodes) = false
is_order _ = true

pub ordered : (setting : Setting) (line : ℕ) (command : Command) (scene : Scene) → is_order command ≡ true
    → obeyed setting line command scene ≡ of_plan line command setting scene
unfolding obeyed
ordered setting line (commands.Start nodes stop) scene is = refl
ordered setting line (commands.Propose node payload) scene is = refl
ordered setting line (commands.Judge question whom good) scene is = refl
ordered setting line (commands.Deliver from to channel) scene is = refl
ordered setting line (commands.Resend from to channel) scene is = refl
ordered setting line (commands.Step node source stop) scene is = refl
ordered setting line (commands.Tick ms) scene is = refl
ordered setting line (commands.Crash nodes) scene is = refl
ordered setting line (commands.Lose from to channel) scene is = absurd (cc)
ordered setting line (commands.Miss nodes) scene is = absurd (cc)
ordered setting line (commands.Settle nodes) scene is = absurd (cc)

-- what is the same at each scene of the old play leads to the same
pub leads_as : (old new : Play) (first second : Setting → Scene → Played) (came : Came)
    → ((setting : Setting) (scene : Scene) → second setting scene ≡ first setting scene) → Leads old new first came → Leads old new second came
leads_as old new first second came same leads setting scene plays =
    let comes = leads setting scene plays in record { scene = comes.scene; plays = comes.plays; is = same setting scene ∙ comes.is }

pub orders : (old new : Play) (line : ℕ) (command : Command) (came : Came) → is_order command ≡ true → Leads old new (of_plan line command) came
    → Leads old new (λ setting. obeyed setting line command) came
orders old new line command came is leads =
    leads_as old new (of_plan line command) (λ setting. obeyed setting line command) came (λ setting scene. ordered setting line command scene is) leads

-- ---- what is lost

-- some of what waits is lost
plays_without : (play : Play) (post : Post) (setting : Setting) (scene : Scene) (is_lost : Parcel → Bool) → Plays play setting scene
    → post.waiting.items ≡ filter (λ it. not (is_lost it)) play.post.waiting.items → post.delivered ≡ play.post.delivered
    → Plays (record play { post = post }) setting (without is_lost scene)
plays_without play post setting scene is_lost plays waiting delivered = record {
  setup = plays.setup;
  network = plays.network;
  nodes = plays.nodes;
  waiting = waiting ∙ ap (λ (its : List Parcel). filter (λ it. not (is_lost it)) its) plays.waiting;
  delivered = ap (λ v. v.items) delivered ∙ plays.delivered;
  requests = plays.requests;
  clock = plays.clock;
  events = plays.events;
  lines = plays.lines;
}

-- what is lost on a way
abbrev pub of_losing : ℕ → Node → Node → Channel → Setting → Scene → Played
of_losing line from to channel setting scene = lost line (faults.NoPacket from to channel) scene (first_on from to channel scene.waiting)

pub loses_none : (play : Play) (line : ℕ) (from to : Node) (channel : Channel) → None ≡ first_on from to channel play.post.waiting.items
    → Leads play play (of_losing line from to channel) (cames.Bad (record { line = line; fault = faults.NoPacket from to channel }))
loses_none play line from to channel none setting scene plays = record {
  scene = scene;
  plays = plays;
  is = sym (ap (λ (it : Option Parcel). lost line (faults.NoPacket from to channel) scene it)
      (none ∙ ap (first_on from to channel) plays.waiting));
}

pub loses_one : (play : Play) (post : Post) (line : ℕ) (from to : Node) (channel : Channel) (parcel : Parcel)
    → Some parcel ≡ first_on from to channel play.post.waiting.items
    → post.waiting.items ≡ filter (λ it. not (is_same_parcel it parcel)) play.post.waiting.items → post.delivered ≡ play.post.delivered
    → Leads play (record play { post = post }) (of_losing line from to channel) cames.On
loses_one play post line from to channel parcel one waiting delivered setting scene plays = record {
  scene = without (λ it. is_same_parcel it parcel) scene;
  plays = plays_without play post setting scene (λ it. is_same_parcel it parcel) plays waiting delivered;
  is = sym (ap (λ (it : Option Parcel). lost line (faults.NoPacket from to channel) scene it)
      (one ∙ ap (first_on from to channel) plays.waiting));
}

pub misses : (play : Play) (post : Post) (nodes : List Node) → post.waiting.items ≡ filter (λ it. not (is_for nodes it)) play.post.waiting.items
    → post.delivered ≡ play.post.delivered
    → Leads play (record play { post = post }) (λ setting scene. On (without (is_for nodes) scene)) cames.On
misses play post nodes waiting delivered setting scene plays = record {
  scene = without (is_for nodes) scene;
  plays = plays_without play post setting scene (is_for nodes) plays waiting delivered;
  is = refl;
}
