-- A play that goes on.
use Rattle.std.proofs.Common.{◌≡◌, ◌<◌, ◌≤◌, ◌-◌, ◌∷◌, [], ℕ, zero, suc, List, drop, get_or, length, take, refl, sym, ap, ◌∙◌, arith}
use Rattle.std.specs.Prelude.{Option, Some, None}
use Rattle.simplex_transcript.specs.declared.event.Event.{Event}
use Rattle.simplex_transcript.specs.declared.node.Node.{Node}
use Rattle.model_run.specs.Setting.{Setting}
use Rattle.simplex_script.specs.declared.command.Placed.{Placed}
use Rattle.simplex_script.specs.declared.fault.Fault.TheVariants as faults
use Rattle.simplex_scripts.specs.declared.came.Came.{Came}
use Rattle.simplex_scripts.specs.declared.came.Came.TheVariants as cames
use Rattle.simplex_scripts.specs.declared.play.Play.{Play}
use Rattle.simplex_scripts.specs.declared.play.TheConstants.{MOST_EVENTS}
use Rattle.simplex_scripts.specs.Coming.{next}
use Rattle.simplex_scripts.specs.Playing.{On, Played, Scene, all_made, all_obeyed, and_then, bad_line, made, obeyed, or_next, settled}
use Rattle.simplex_scripts.specs.Stands.{Answers, Leads, Plays, played_of}

-- at a scene from which what is left comes to the same
pub record Leaves (play : Play) (setting : Setting) (left : Scene → Played) (whole : Played) : Type 0 where
  pub now : Scene
  pub plays : Plays play setting now
  pub same : left now ≡ whole

-- whatever scene the first play was at, this one is on the way
abbrev pub Left : Play → Play → (Setting → Scene → Played) → (Setting → Scene → Played) → Type 0
Left first play left whole = (setting : Setting) (scene : Scene) → Plays first setting scene → Leaves play setting (left setting) (whole setting scene)

-- at a scene of the play what is left is the one, and then more
abbrev Begins : Play → (Setting → Scene → Played) → (Setting → Scene → Played) → (Setting → Scene → Played) → Type 0
Begins play left one more = (setting : Setting) (scene : Scene) → Plays play setting scene → left setting scene ≡ and_then (one setting scene) (more setting)

-- or it is over
abbrev Ends : Play → (Setting → Scene → Played) → Came → Type 0
Ends play left came = (setting : Setting) (scene : Scene) → Plays play setting scene → left setting scene ≡ played_of came scene

pub left_first : (play : Play) (whole : Setting → Scene → Played) → Left play play whole whole
left_first play whole setting scene plays = record { now = scene; plays = plays; same = refl }

left_more : (first old new : Play) (left one more whole : Setting → Scene → Played) → Begins old left one more → Left first old left whole
    → Leads old new one cames.On → Left first new more whole
left_more first old new left one more whole begins lefts leads setting scene plays =
    let was = lefts setting scene plays in
    let comes = leads setting was.now was.plays in
    record {
      now = comes.scene;
      plays = comes.plays;
      same = sym (begins setting was.now was.plays ∙ ap (λ (it : Played). and_then it (more setting)) comes.is) ∙ was.same;
    }

-- what does not go on is the end
stops : (came : Came) (scene : Scene) (more : Scene → Played) → (came ≡ cames.On → ⊥) → and_then (played_of came scene) more ≡ played_of came scene
stops cames.On scene more not_on = absurd (not_on refl)
stops (cames.Refused line event) scene more not_on = refl
stops (cames.Bad bad) scene more not_on = refl

left_stop : (first old new : Play) (left one more whole : Setting → Scene → Played) (came : Came) → Begins old left one more → Left first old left whole
    → Leads old new one came → (came ≡ cames.On → ⊥) → Leads first new whole came
left_stop first old new left one more whole came begins lefts leads not_on setting scene plays =
    let was = lefts setting scene plays in
    let comes = leads setting was.now was.plays in
    record {
      scene = comes.scene;
      plays = comes.plays;
      is = sym was.same ∙ begins setting was.now was.plays ∙ ap (λ (it : Played). and_then it (more setting)) comes.is
          ∙ stops came comes.scene (more setting) not_on;
    }

left_over : (first play : Play) (left whole : Setting → Scene → Played) (came : Came) → Ends play left came → Left first play left whole
    → Leads first play whole came
left_over first play left whole came ends lefts setting scene plays =
    let was = lefts setting scene plays in
    record { scene = was.now; plays = was.plays; is = sym was.same ∙ ends setting was.now was.plays }

-- a list that has an item
pub split_first : {A : Type 0} (items : List A) (item : A) → 1 ≤ length items → item ≡ get_or items 0 item → items ≡ item ∷ drop 1 items
split_first {A} [] item some is = absurd (omega (arith, some))
split_first {A} (one ∷ items) item some is = ap (λ (it : A). it ∷ items) (sym is)

pub split_taken : {A : Type 0} (items : List A) (item : A) → 1 ≤ length items → item ≡ get_or items 0 item
    → items ≡ item ∷ take (length items - 1) (drop 1 items)
split_taken {A} [] item some is = absurd (omega (arith, some))
split_taken {A} (one ∷ items) item some is =
    let count : suc (length items) - 1 ≡ length items = omega arith in
    rw count (ap (λ (it : A). it ∷ items) (sym is) ∙ ap (λ (its : List A). item ∷ its) (sym (whole items)))
  where
    whole : (its : List A) → take (length its) its ≡ its
    whole [] = refl
    whole (it ∷ its) = ap (λ (more : List A). it ∷ more) (whole its)

pub split_copied : {A : Type 0} (items : List A) (other : A) → 1 ≤ length items → items ≡ get_or items 0 other ∷ drop 1 items
split_copied [] other some = absurd (omega (arith, some))
split_copied (one ∷ items) other some = refl

-- ---- events one after another

abbrev pub of_events : ℕ → List Event → Setting → Scene → Played
of_events line events setting = all_made setting line events

begins_event : (play : Play) (line : ℕ) (left more : List Event) (event : Event) → left ≡ event ∷ more
    → Begins play (of_events line left) (λ setting. made setting line event) (of_events line more)
unfolding all_made
begins_event play line left more event is setting scene plays = ap (λ (its : List Event). all_made setting line its scene) is

pub events_more : (first old new : Play) (line : ℕ) (all left more : List Event) (event : Event) → left ≡ event ∷ more
    → Left first old (of_events line left) (of_events line all) → Leads old new (λ setting. made setting line event) cames.On
    → Left first new (of_events line more) (of_events line all)
events_more first old new line all left more event is lefts leads =
    left_more first old new (of_events line left) (λ setting. made setting line event) (of_events line more) (of_events line all)
    (begins_event old line left more event is) lefts leads

pub events_stop : (first old new : Play) (line : ℕ) (all left more : List Event) (event : Event) (came : Came) → left ≡ event ∷ more
    → Left first old (of_events line left) (of_events line all) → Leads old new (λ setting. made setting line event) came → (came ≡ cames.On → ⊥)
    → Leads first new (of_events line all) came
events_stop first old new line all left more event came is lefts leads not_on =
    left_stop first old new (of_events line left) (λ setting. made setting line event) (of_events line more) (of_events line all) came
    (begins_event old line left more event is) lefts leads not_on

pub events_over : (first play : Play) (line : ℕ) (all left : List Event) → left ≡ []
    → Left first play (of_events line left) (of_events line all) → Leads first play (of_events line all) cames.On
unfolding all_made
events_over first play line all left none lefts =
    left_over first play (of_events line left) (of_events line all) cames.On
    (λ setting scene plays. ap (λ (its : List Event). all_made setting line its scene) none) lefts

-- ---- commands one after another

abbrev pub of_commands : List Placed → Setting → Scene → Played
of_commands commands setting = all_obeyed setting commands

begins_command : (play : Play) (left more : List Placed) (it : Placed) → left ≡ it ∷ more
    → Begins play (of_commands left) (λ setting. obeyed setting it.line it.command) (of_commands more)
unfolding all_obeyed
begins_command play left more it is setting scene plays = ap (λ (its : List Placed). all_obeyed setting its scene) is

pub commands_more : (first old new : Play) (all left more : List Placed) (it : Placed) → left ≡ it ∷ more
    → Left first old (of_commands left) (of_commands all) → Leads old new (λ setting. obeyed setting it.line it.command) cames.On
    → Left first new (of_commands more) (of_commands all)
commands_more first old new all left more it is lefts leads =
    left_more first old new (of_commands left) (λ setting. obeyed setting it.line it.command) (of_commands more) (of_commands all)
    (begins_command old left more it is) lefts leads

pub commands_stop : (first old new : Play) (all left more : List Placed) (it : Placed) (came : Came) → left ≡ it ∷ more
    → Left first old (of_commands left) (of_commands all) → Leads old new (λ setting. obeyed setting it.line it.command) came
    → (came ≡ cames.On → ⊥) → Leads first new (of_commands all) came
commands_stop first old new all left more it came is lefts leads not_on =
    left_stop first old new (of_commands left) (λ setting. obeyed setting it.line it.command) (of_commands more) (of_commands all) came
    (begins_command old left more it is) lefts leads not_on

pub commands_over : (first play : Play) (all left : List Placed) → left ≡ [] → Left first play (of_commands left) (of_commands all)
    → Leads first play (of_commands all) cames.On
unfolding all_obeyed
commands_over first play all left none lefts =
    left_over first play (of_commands left) (of_commands all) cames.On
    (λ setting scene plays. ap (λ (its : List Placed). all_obeyed setting its scene) none) lefts

-- ---- what comes up

abbrev pub of_settling : ℕ → List Node → ℕ → Setting → Scene → Played
of_settling line among most setting = settled setting line among most

-- what comes up next at each scene of the play
abbrev pub NextIs : Play → List Node → Option Event → Type 0
NextIs play among event = Answers play (λ setting scene. next setting scene.before scene.waiting among) event

settled_none : (setting : Setting) (line : ℕ) (among : List Node) (most : ℕ) (scene : Scene) → None ≡ next setting scene.before scene.waiting among
    → settled setting line among most scene ≡ On scene
unfolding settled
settled_none setting line among zero scene none =
    sym (ap (λ (it : Option Event). or_next scene it (λ event. bad_line line (faults.Restless MOST_EVENTS))) none)
settled_none setting line among (suc most) scene none =
    sym (ap (λ (it : Option Event). or_next scene it (λ event. and_then (made setting line event scene) (settled setting line among most))) none)

settled_out : (setting : Setting) (line : ℕ) (among : List Node) (most : ℕ) (scene : Scene) (event : Event) → most ≡ 0
    → Some event ≡ next setting scene.before scene.waiting among → settled setting line among most scene ≡ bad_line line (faults.Restless MOST_EVENTS)
unfolding settled
settled_out setting line among zero scene event over is =
    sym (ap (λ (it : Option Event). or_next scene it (λ other. bad_line line (faults.Restless MOST_EVENTS))) is)
settled_out setting line among (suc most) scene event over is = absurd (cc)

settled_one : (setting : Setting) (line : ℕ) (among : List Node) (most : ℕ) (scene : Scene) (event : Event) → 0 < most
    → Some event ≡ next setting scene.before scene.waiting among
    → settled setting line among most scene ≡ and_then (made setting line event scene) (settled setting line among (most - 1))
unfolding settled
settled_one setting line among zero scene event some is = absurd (omega (arith, some))
settled_one setting line among (suc most) scene event some is =
    let less : suc most - 1 ≡ most = omega arith in
    rw less (sym (ap (λ (it : Option Event). or_next scene it (λ other. and_then (made setting line other scene) (settled setting line among most))) is))

pub settles_more : (first old new : Play) (line : ℕ) (among : List Node) (most all : ℕ) (event : Event) → 0 < most → NextIs old among (Some event)
    → Left first old (of_settling line among most) (of_settling line among all) → Leads old new (λ setting. made setting line event) cames.On
    → Left first new (of_settling line among (most - 1)) (of_settling line among all)
settles_more first old new line among most all event some comes lefts leads =
    left_more first old new (of_settling line among most) (λ setting. made setting line event) (of_settling line among (most - 1))
    (of_settling line among all)
    (λ setting scene plays. settled_one setting line among most scene event some (comes setting scene plays)) lefts leads

pub settles_stop : (first old new : Play) (line : ℕ) (among : List Node) (most all : ℕ) (event : Event) (came : Came) → 0 < most
    → NextIs old among (Some event) → Left first old (of_settling line among most) (of_settling line among all)
    → Leads old new (λ setting. made setting line event) came → (came ≡ cames.On → ⊥) → Leads first new (of_settling line among all) came
settles_stop first old new line among most all event came some comes lefts leads not_on =
    left_stop first old new (of_settling line among most) (λ setting. made setting line event) (of_settling line among (most - 1))
    (of_settling line among all) came
    (λ setting scene plays. settled_one setting line among most scene event some (comes setting scene plays)) lefts leads not_on

pub settles_over : (first play : Play) (line : ℕ) (among : List Node) (most all : ℕ) → NextIs play among None
    → Left first play (of_settling line among most) (of_settling line among all) → Leads first play (of_settling line among all) cames.On
settles_over first play line among most all comes lefts =
    left_over first play (of_settling line among most) (of_settling line among all) cames.On
    (λ setting scene plays. settled_none setting line among most scene (comes setting scene plays)) lefts

pub settles_out : (first play : Play) (line : ℕ) (among : List Node) (most all : ℕ) (event : Event) → most ≡ 0 → NextIs play among (Some event)
    → Left first play (of_settling line among most) (of_settling line among all)
    → Leads first play (of_settling line among all) (cames.Bad (record { line = line; fault = faults.Restless MOST_EVENTS }))
settles_out first play line among most all event over comes lefts =
    left_over first play (of_settling line among most) (of_settling line among all) (cames.Bad (record { line = line; fault = faults.Restless MOST_EVENTS }))
    (λ setting scene plays. settled_out setting line among most scene event over (comes setting scene plays)) lefts

pub ruleset settling = (left_first, settles_more, settles_stop, settles_over, settles_out)
