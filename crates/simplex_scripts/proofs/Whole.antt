-- What a whole script comes to.
use Rattle.std.proofs.Common.{◌≡◌, ◌∙◌, ◌++◌, ◌∷◌, ℕ, List, [], false, refl, sym, ap, append-nil}
use Rattle.std.specs.Prelude.{IsNone, Option, Some, None, Result, Ok, Err, map, reverse}
use Rattle.std.specs.Option.{option_map}
use Rattle.simplex_transcript.specs.declared.event.Event.{Event}
use Rattle.simplex_transcript.specs.declared.field.Field.{Field}
use Rattle.simplex_transcript.specs.declared.field.Field.TheVariants as fields
use Rattle.simplex_transcript.specs.declared.refusal.RunError.{RunError}
use Rattle.simplex_transcript.specs.declared.refusal.RunError.TheVariants as errors
use Rattle.simplex_transcript.specs.declared.setup.Setup.{Setup}
use Rattle.model_run.specs.Life.{Noted, clock_of}
use Rattle.model_run.specs.Setting.{Setting, at_epoch_genesis}
use Rattle.model_run.specs.Setups.{first_bad}
use Rattle.simplex_network.specs.Answer.{IsRefused, is_memory, setup_refusal}
use Rattle.simplex_network.specs.Stands.{StandsFor}
use Rattle.simplex_script.specs.declared.fault.BadLine.{BadLine}
use Rattle.simplex_script.specs.declared.script.Script.{Script}
use Rattle.simplex_scripts.specs.declared.came.Came.TheVariants as cames
use Rattle.simplex_scripts.specs.declared.compiling.Compiled.{Compiled}
use Rattle.simplex_scripts.specs.declared.play.Play.{Play}
use Rattle.simplex_scripts.specs.Coming.{nodes_of}
use Rattle.simplex_scripts.specs.Playing.{Played, all_obeyed, compiled, compiled_of, opening, unless_bad}
use Rattle.simplex_scripts.specs.Stands.{Asks, Comes, Plays}

-- ---- the first scene

pub opens : (play : Play) (setup : Setup) → play.setup ≡ setup → StandsFor play.network (at_epoch_genesis setup) []
    → play.nodes.items ≡ nodes_of setup → play.post.waiting.items ≡ [] → play.post.delivered.items ≡ [] → Asks play.requests []
    → play.clock ≡ 0 → play.events ≡ [] → play.lines ≡ [] → Plays play (at_epoch_genesis setup) opening
unfolding clock_of
opens play setup same stands nodes waiting delivered requests clock events lines = record {
  setup = same;
  network = stands;
  nodes = nodes;
  waiting = waiting;
  delivered = delivered;
  requests = requests;
  clock = clock;
  events = events;
  lines = lines;
}

-- ---- the last

abbrev right : Compiled → Result Compiled BadLine
right made = Ok made

compiled_is : (made : Compiled) (events : List Event) (lines : List ℕ) → made.events ≡ events → made.lines ≡ lines
    → ◌≡◌ {A = Compiled} made (record { events = events; lines = lines })
compiled_is made events lines same_events same_lines = rw (sym same_events, sym same_lines) refl

pub whole_on : (play : Play) (made : Compiled) → made.events ≡ play.events → made.lines ≡ play.lines
    → (setting : Setting) (played : Played) → Comes play setting cames.On played → Ok made ≡ compiled_of played
whole_on play made events lines setting played comes =
    ap right
    (compiled_is made (reverse (map (λ (noted : Noted). noted.event) comes.scene.before) ++ []) (reverse comes.scene.lines ++ [])
    (events ∙ comes.plays.events ∙ sym (append-nil (reverse (map (λ (noted : Noted). noted.event) comes.scene.before))))
    (lines ∙ comes.plays.lines ∙ sym (append-nil (reverse comes.scene.lines))))
    ∙ sym (ap compiled_of comes.is)

pub whole_refused : (play : Play) (made : Compiled) (line : ℕ) (event : Event) → made.events ≡ play.events ++ event ∷ []
    → made.lines ≡ play.lines ++ line ∷ [] → (setting : Setting) (played : Played) → Comes play setting (cames.Refused line event) played
    → Ok made ≡ compiled_of played
whole_refused play made line event events lines setting played comes =
    ap right
    (compiled_is made (reverse (map (λ (noted : Noted). noted.event) comes.scene.before) ++ event ∷ []) (reverse comes.scene.lines ++ line ∷ [])
    (events ∙ ap (λ (all : List Event). all ++ event ∷ []) comes.plays.events)
    (lines ∙ ap (λ (all : List ℕ). all ++ line ∷ []) comes.plays.lines))
    ∙ sym (ap compiled_of comes.is)

pub whole_bad : (play : Play) (bad : BadLine) (setting : Setting) (played : Played) → Comes play setting (cames.Bad bad) played
    → Err bad ≡ compiled_of played
whole_bad play bad setting played comes = sym (ap compiled_of comes.is)

-- ---- all of it

pub comes_whole : (script : Script) (play : Play) (answer : Result Compiled BadLine) → Plays play (at_epoch_genesis script.setup) opening
    → answer ≡ compiled_of (all_obeyed (at_epoch_genesis script.setup) script.commands opening) → answer ≡ compiled script
unfolding compiled
comes_whole script play answer plays is = is ∙ by (first_bad script.setup) plays.network.good
  where
    by : (field : Option Field) → IsNone field
        → compiled_of (all_obeyed (at_epoch_genesis script.setup) script.commands opening)
        ≡ compiled_of (unless_bad field (all_obeyed (at_epoch_genesis script.setup) script.commands opening))
    by None good = refl
    by (Some field) good = absurd (cc)

pub not_memory : (error : RunError) → (error ≡ errors.Memory → ⊥) → is_memory error ≡ false
not_memory errors.Memory not_it = absurd (not_it refl)
not_memory _ not_it = refl

pub comes_refused : (script : Script) (made : Compiled) (error : RunError) → IsRefused (setup_refusal script.setup) error → is_memory error ≡ false
    → made.events ≡ [] → made.lines ≡ [] → Ok made ≡ compiled script
unfolding compiled
comes_refused script made error refused not_memory events lines =
    ap right (compiled_is made [] [] events lines) ∙ by (first_bad script.setup) (some error refused not_memory)
  where
    some : (it : RunError) → IsRefused (setup_refusal script.setup) it → is_memory it ≡ false → setup_refusal script.setup ≡ Some it
    some errors.Memory is other = absurd (cc)
    some _ is other = is

    by : (field : Option Field) → option_map errors.BadSetup field ≡ Some error
        → compiled_of (unless_bad (Some fields.Members) (all_obeyed (at_epoch_genesis script.setup) script.commands opening))
        ≡ compiled_of (unless_bad field (all_obeyed (at_epoch_genesis script.setup) script.commands opening))
    by None is = absurd (cc)
    by (Some field) is = refl
