-- The lines that `run` writes, and which run makes one.
use Rattle.std.specs.Prelude.{ℕ, Bool, false, ◌||◌, ◌++◌, List, [], ◌∷◌, Result, Ok, Err, codes, nat_eq}
use Rattle.std.specs.List.{starts_with}
use Rattle.simplex_transcript.specs.declared.entry.Entry.{Entry}
use Rattle.simplex_transcript.specs.declared.event.Event.{Event}
use Rattle.simplex_transcript.specs.declared.refusal.Refusal.{Refusal}
use Rattle.simplex_transcript.specs.declared.setup.Setup.{Setup}
use Rattle.simplex_form.specs.declared.input.Input.{Input}
use Rattle.simplex_form.specs.Input.{input_of}
use Rattle.simplex_text.specs.Lines.{PrintedRun}
use Rattle.simplex_text.specs.Refusals.{refusal_text}
use Rattle.simplex_writer.specs.Inputs.{input_text}
use Rattle.model_run.specs.Run.{Run}

-- what `run` writes of a run
abbrev pub text_of_run : List Event → Result (List Entry) Refusal → List ℕ
text_of_run events (Ok entries) = PrintedRun events entries
text_of_run events (Err refusal) = refusal_text refusal

unfoldable pub run_text : Setup → List Event → List ℕ
run_text setup events = text_of_run events (Run setup events)

-- the bytes stand somewhere in the text
abbrev pub occurs : List ℕ → List ℕ → Bool
occurs wanted [] = false
occurs wanted (byte ∷ bytes) = starts_with nat_eq (byte ∷ bytes) wanted || occurs wanted bytes

-- the line stands behind the number of an event, or the text is a refusal that the line says up to the number of its event
abbrev pub says_line : List ℕ → List ℕ → Bool
says_line line text =
    occurs ((codes " " ++ line) ++ codes "\n") text || starts_with nat_eq text (([] ++ line) ++ codes " at ")

-- the run of the input makes the line
abbrev pub makes_line : List ℕ → Input → Bool
makes_line line input = says_line line (run_text input.setup input.events)

-- what was read makes the line
abbrev pub read_makes_line : List ℕ → Result Input ℕ → Bool
read_makes_line line (Ok made) = makes_line line made
read_makes_line line (Err place) = false

-- the setup and the events, as they are written and read, make the line
unfoldable pub makes_as_written : Setup → List ℕ → List Event → Bool
makes_as_written setup line events = read_makes_line line (input_of (input_text setup events))
