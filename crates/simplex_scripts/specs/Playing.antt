-- What a script comes to.
use Rattle.std.specs.Prelude.{ℕ, Bool, zero, suc, List, [], ◌∷◌, ◌++◌, filter, map, not, reverse, Option, None, Some, Result, Ok, Err}
use Rattle.simplex_transcript.specs.declared.event.Event.{Event}
use Rattle.simplex_transcript.specs.declared.field.Field.{Field}
use Rattle.simplex_transcript.specs.declared.node.Node.{Node}
use Rattle.simplex_transcript.specs.declared.refusal.RunError.{RunError}
use Rattle.model_run.specs.Entries.{entry_of}
use Rattle.model_run.specs.Life.{Noted}
use Rattle.model_run.specs.Setting.{Setting, at_epoch_genesis}
use Rattle.model_run.specs.Setups.{first_bad}
use Rattle.simplex_script.specs.declared.command.Command.{Command}
use Rattle.simplex_script.specs.declared.command.Command.TheVariants as commands
use Rattle.simplex_script.specs.declared.command.Placed.{Placed}
use Rattle.simplex_script.specs.declared.fault.BadLine.{BadLine}
use Rattle.simplex_script.specs.declared.fault.Fault.{Fault}
use Rattle.simplex_script.specs.declared.fault.Fault.TheVariants as faults
use Rattle.simplex_script.specs.declared.post.Parcel.{Parcel}
use Rattle.simplex_script.specs.declared.script.Script.{Script}
use Rattle.simplex_script.specs.Planning.{planned}
use Rattle.simplex_script.specs.Post.{delivered_behind, first_on, is_for, is_same_parcel, waiting_behind}
use Rattle.simplex_scripts.specs.declared.compiling.Compiled.{Compiled}
use Rattle.simplex_scripts.specs.declared.play.TheConstants.{MOST_EVENTS}
use Rattle.simplex_scripts.specs.Coming.{next, open_in}

-- what was made so far, the newest first, of each event the line that it is of, and the packets that wait and that were delivered
pub record Scene : Type 0 where
  pub before : List Noted
  pub lines : List ℕ
  pub waiting : List Parcel
  pub delivered : List Parcel

abbrev pub opening : Scene
opening = record { before = []; lines = []; waiting = []; delivered = [] }

-- an event of a line more
abbrev pub behind : ℕ → Noted → Scene → Scene
behind line noted scene = record {
  before = noted ∷ scene.before;
  lines = line ∷ scene.lines;
  waiting = waiting_behind noted.event noted.entry scene.waiting;
  delivered = delivered_behind noted.event scene.waiting scene.delivered;
}

-- some of what waits is lost
abbrev pub without : (Parcel → Bool) → Scene → Scene
without lost scene = record {
  before = scene.before;
  lines = scene.lines;
  waiting = filter (λ it. not (lost it)) scene.waiting;
  delivered = scene.delivered;
}

-- it goes on; or an event of a line is refused; or a line names what is not there
pub data Played : Type 0 where
  On : Scene → Played
  Stopped : Scene → (line : ℕ) → Event → Played
  Bad : BadLine → Played

abbrev pub and_then : Played → (Scene → Played) → Played
and_then (On scene) more = more scene
and_then (Stopped scene line event) more = Stopped scene line event
and_then (Bad bad) more = Bad bad

abbrev pub bad_line : ℕ → Fault → Played
bad_line line fault = Bad (record { line = line; fault = fault })

-- ---- events

abbrev pub noted_in : ℕ → Event → Scene → Result Noted RunError → Played
noted_in line event scene (Ok noted) = On (behind line noted scene)
noted_in line event scene (Err error) = Stopped scene line event

-- one event is made
unfoldable pub made : Setting → ℕ → Event → Scene → Played
made setting line event scene = noted_in line event scene (entry_of setting scene.before event)

-- some, one after another
unfoldable pub all_made : Setting → ℕ → List Event → Scene → Played
all_made setting line [] scene = On scene
all_made setting line (event ∷ events) scene = and_then (made setting line event scene) (all_made setting line events)

-- ---- commands

-- nothing is left to do; or this event, of which more comes
abbrev pub or_next : Scene → Option Event → (Event → Played) → Played
or_next scene None more = On scene
or_next scene (Some event) more = more event

-- what comes up between the nodes is made, until nothing is left; so many events at most
unfoldable pub settled : Setting → ℕ → List Node → (most : ℕ) → Scene → Played
settled setting line among zero scene =
    or_next scene (next setting scene.before scene.waiting among) (λ event. bad_line line (faults.Restless MOST_EVENTS))
settled setting line among (suc most) scene =
    or_next scene (next setting scene.before scene.waiting among)
    (λ event. and_then (made setting line event scene) (settled setting line among most))

abbrev pub lost : ℕ → Fault → Scene → Option Parcel → Played
lost line fault scene None = bad_line line fault
lost line fault scene (Some parcel) = On (without (λ it. is_same_parcel it parcel) scene)

abbrev pub as_planned : Setting → ℕ → Scene → Result (List Event) Fault → Played
as_planned setting line scene (Ok events) = all_made setting line events scene
as_planned setting line scene (Err fault) = bad_line line fault

-- a command is done
unfoldable pub obeyed : Setting → ℕ → Command → Scene → Played
obeyed setting line (commands.Settle nodes) scene = settled setting line nodes MOST_EVENTS scene
obeyed setting line (commands.Lose from to channel) scene =
    lost line (faults.NoPacket from to channel) scene (first_on from to channel scene.waiting)
obeyed setting line (commands.Miss nodes) scene = On (without (is_for nodes) scene)
obeyed setting line command scene =
    as_planned setting line scene (planned command scene.waiting scene.delivered (open_in scene.before))

-- all of them, one after another
unfoldable pub all_obeyed : Setting → List Placed → Scene → Played
all_obeyed setting [] scene = On scene
all_obeyed setting (it ∷ others) scene = and_then (obeyed setting it.line it.command scene) (all_obeyed setting others)

-- ---- the script

-- the events that were made, with their lines, and one that was refused last
abbrev pub compiled_with : Scene → (refused : List Event) → (line : List ℕ) → Compiled
compiled_with scene refused line =
    record {
      events = reverse (map (λ noted. noted.event) scene.before) ++ refused;
      lines = reverse scene.lines ++ line;
    }

abbrev pub compiled_of : Played → Result Compiled BadLine
compiled_of (On scene) = Ok (compiled_with scene [] [])
compiled_of (Stopped scene line event) = Ok (compiled_with scene (event ∷ []) (line ∷ []))
compiled_of (Bad bad) = Err bad

-- of a setup that is refused there are no events
abbrev pub unless_bad : Option Field → Played → Played
unless_bad None played = played
unless_bad (Some field) played = On opening

-- what a script comes to: its events with their lines, or its first line that names what is not there
unfoldable pub compiled : Script → Result Compiled BadLine
compiled script =
    compiled_of (unless_bad (first_bad script.setup)
    (all_obeyed (at_epoch_genesis script.setup) script.commands opening))
