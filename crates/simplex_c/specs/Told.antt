-- What is told of an input: a status, and a text.
use Rattle.std.specs.Prelude.{ℕ, nat_lt, if◌then◌else◌, List, [], ◌∷◌, length, Result, Ok, Err, codes, decimal}
use Rattle.simplex_io.specs.declared.read.TheConstants.{LIMIT}
use Rattle.simplex_transcript.specs.declared.event.Event.{Event}
use Rattle.simplex_transcript.specs.declared.entry.Entry.{Entry}
use Rattle.simplex_transcript.specs.declared.refusal.Refusal.{Refusal}
use Rattle.simplex_form.specs.declared.input.Input.{Input}
use Rattle.simplex_form.specs.Input.{input_of}
use Rattle.model_run.specs.Run.{Run}
use Rattle.simplex_text.specs.Lines.{pieces, PrintedRun}
use Rattle.simplex_text.specs.Refusals.{refusal_text}

pub record Told : Type 0 where
  pub status : ℕ
  pub text : List ℕ

-- of a run of these events
abbrev pub told_of_run : List Event → Result (List Entry) Refusal → Told
told_of_run events (Ok entries) = record { status = 0; text = PrintedRun events entries }
told_of_run events (Err refusal) = record { status = 1; text = refusal_text refusal }

-- of what the bytes say, or of the first place at which they are not of the form
abbrev pub told_of_input : Result Input ℕ → Told
told_of_input (Ok input) = told_of_run input.events (Run input.setup input.events)
told_of_input (Err place) = record { status = 3; text = pieces (codes "bad input at " ∷ decimal place ∷ codes "\n" ∷ []) }

-- of an input of these bytes
abbrev pub told_of : List ℕ → Told
told_of bytes = if nat_lt LIMIT (length bytes) then record { status = 4; text = codes "input too long\n" } else told_of_input (input_of bytes)
