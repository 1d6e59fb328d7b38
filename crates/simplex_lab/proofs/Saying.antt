-- What the words make of an input, part by part.
use Rattle.std.proofs.Common.{◌≡◌, ◌≤◌, ◌++◌, ◌∙◌, ℕ, Bool, List, [], Ok, Err, Result, true, length, ap, refl}
use Rattle.simplex_transcript.specs.declared.event.Event.{Event}
use Rattle.simplex_transcript.specs.declared.refusal.Refusal.{Refusal}
use Rattle.simplex_transcript.specs.declared.setup.Setup.{Setup}
use Rattle.simplex_form.specs.declared.input.Input.{Input}
use Rattle.simplex_form.specs.Input.{input_of}
use Rattle.simplex_text.specs.Refusals.{refusal_text}
use Rattle.simplex_writer.specs.Inputs.{input_text}
use Rattle.model_run.specs.Setting.{at_epoch_genesis}
use Rattle.model_run.specs.Run.{Run, run}
use Rattle.simplex_run.specs.declared.run.Transcript.{Transcript}
use Rattle.simplex_run.specs.WholeRuns.{WholeRunFrom}
use Rattle.simplex_simulator.specs.Going.{IsRunnable}
use Rattle.simplex_shrinker.specs.Part.{IsPartOf}
use Rattle.simplex_lab.specs.Lines.{makes_as_written, read_makes_line}
use Rattle.simplex_lab.specs.Prefix.{earlier, entries_of}
use Rattle.simplex_lab.specs.Refusals.{reason_line}
use Rattle.simplex_lab.specs.declared.words.Order.{Order}
use Rattle.simplex_lab.specs.Says.{IsMadeFor, IsRefusedBehind, IsShrunk, IsSimulated, IsUnread, simulated_text, unread_line}
use Rattle.simplex_lab.specs.Says.{TellsOpenIf, TellsRefusal, deed_if, lines_if, refused_node}

-- whether what was written and read makes the line
pub as_written : (setup : Setup) (line : List ℕ) (events : List Event) (written : List ℕ) (made : Result Input ℕ) (makes : Bool)
    → written ≡ input_text setup events → made ≡ input_of written → makes ≡ read_makes_line line made → makes ≡ makes_as_written setup line events
unfolding makes_as_written
as_written setup line events written made makes written_is read_is makes_is =
    makes_is ∙ ap (λ (read : Result Input ℕ). read_makes_line line read) (read_is ∙ ap (λ (bytes : List ℕ). input_of bytes) written_is)

-- no event is refused where there is none
pub none_refused : (setup : Setup) (events : List Event) → events ≡ [] → IsRunnable setup events
unfolding run IsRunnable
none_refused setup events none = rw none ([], refl)

pub made_for : (order : Order) (setup : Setup) (events : List Event) (written : List ℕ) → length events ≤ order.plan.steps → IsRunnable setup events
    → written ≡ input_text setup events → IsMadeFor order setup written
made_for order setup events written few runs is = (events, few, runs, is)

pub simulated : (order : Order) (given made : Input) (done : Transcript) (written text : List ℕ) → given.events ≡ []
    → IsMadeFor order given.setup written → input_of written ≡ Ok made
    → WholeRunFrom (at_epoch_genesis made.setup) made.events done → text ≡ simulated_text order written made done → IsSimulated order given done text
simulated order given made done written text none for_setup read whole told =
    record { none_given = none; written = written; made = made; for_setup = for_setup; read = read; whole = whole; told = told }

pub refused_behind : (order : Order) (given made : Input) (refusal : Refusal) (written text : List ℕ) → given.events ≡ []
    → IsMadeFor order given.setup written → input_of written ≡ Ok made
    → Run made.setup made.events ≡ Err refusal → text ≡ refusal_text refusal → IsRefusedBehind order given refusal text
refused_behind order given made refusal written text none for_setup read refused told =
    record { none_given = none; written = written; made = made; for_setup = for_setup; read = read; refused = refused; told = told }

pub unread : (order : Order) (given : Input) (place : ℕ) (written text : List ℕ) → given.events ≡ []
    → IsMadeFor order given.setup written → input_of written ≡ Err place → text ≡ unread_line place → IsUnread order given place text
unread order given place written text none for_setup read told =
    record { none_given = none; written = written; for_setup = for_setup; unread = read; told = told }

pub tells_refusal : (input : Input) (refusal : Refusal) (left text : List ℕ)
    → TellsOpenIf (earlier input refusal) (entries_of input.setup (earlier input refusal)) (refused_node input refusal) left
    → text ≡ (((lines_if (earlier input refusal) (entries_of input.setup (earlier input refusal)) ++ deed_if input.events refusal.event)
    ++ refusal_text refusal) ++ reason_line refusal.error) ++ left → TellsRefusal input refusal text
tells_refusal input refusal left text tells told = record { left = left; tells = tells; told = told }

pub shrunk : (line : List ℕ) (input : Input) (left : List Event) (text : List ℕ) → makes_as_written input.setup line left ≡ true
    → length left ≤ length input.events → IsPartOf left input.events → text ≡ input_text input.setup left → IsShrunk line input left text
shrunk line input left text makes few part told = record { makes = makes; few = few; part = part; told = told }
