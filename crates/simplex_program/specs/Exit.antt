-- What an exit tells, and the status and the text of each.
use Rattle.std.specs.Prelude.{ℕ, List, [], ◌∷◌, codes, decimal}
use Rattle.simplex_transcript.specs.declared.event.Event.{Event}
use Rattle.simplex_transcript.specs.declared.entry.Entry.{Entry}
use Rattle.simplex_transcript.specs.declared.refusal.RunError.{RunError}
use Rattle.simplex_text.specs.Lines.{pieces, PrintedRun}
use Rattle.simplex_text.specs.Refusals.{refused_line, error_name}
use Rattle.simplex_generator.specs.Summary.{summary}
use Rattle.simplex_program.specs.declared.exit.Exit.{Exit}
use Rattle.simplex_program.specs.declared.exit.Exit.TheVariants as exits
use Rattle.simplex_program.specs.declared.text.Telling.{Telling}
use Rattle.simplex_program.specs.declared.text.Telling.TheVariants as tellings

-- how the program ends, as far as it is told: a whole run by its entries alone
pub data Ending : Type 0 where
  -- the run is whole
  Ran : (entries : List Entry) → Ending
  -- the event of this number is refused, 0 being the setup
  Refused : (error : RunError) (event : ℕ) → Ending
  -- the words are none that the program takes
  BadWords : Ending
  -- the input is not of the form
  BadInput : (place : ℕ) → Ending
  -- the input is too long
  TooLong : Ending
  -- the input could not be read
  ReadFault : Ending
  -- the text could not be written
  WriteFault : Ending
  -- want of memory
  Memory : Ending

-- what an exit tells
abbrev pub told : Exit → Ending
told (exits.Done transcript) = Ran transcript.entries
told (exits.Refused error event) = Refused error event
told exits.BadWords = BadWords
told (exits.BadInput place) = BadInput place
told exits.TooLong = TooLong
told exits.ReadFault = ReadFault
told exits.WriteFault = WriteFault
told exits.Memory = Memory

-- the status with which the process ends
abbrev pub status_of : Ending → ℕ
status_of (Ran entries) = 0
status_of (Refused error event) = 1
status_of BadWords = 2
status_of (BadInput place) = 3
status_of TooLong = 4
status_of ReadFault = 5
status_of WriteFault = 6
status_of Memory = 7

-- the line on an input that is not of the form
abbrev pub bad_input_line : ℕ → List ℕ
bad_input_line place = pieces (codes "bad input at " ∷ decimal place ∷ codes "\n" ∷ [])

-- the text of a whole run of these events: its lines, or the line that sums it up
abbrev pub text_of_run : Telling → List Event → List Entry → List ℕ
text_of_run tellings.Lines events entries = PrintedRun events entries
text_of_run tellings.Summary events entries = summary events entries

-- the text of an ending, where these are the events that ran
abbrev pub text_of : Telling → List Event → Ending → List ℕ
text_of telling events (Ran entries) = text_of_run telling events entries
text_of telling events (Refused error event) = refused_line (error_name error) event
text_of telling events BadWords = codes "usage: run | par WORKERS | gen NUMBER STEPS\n"
text_of telling events (BadInput place) = bad_input_line place
text_of telling events TooLong = codes "input too long\n"
text_of telling events ReadFault = []
text_of telling events WriteFault = []
text_of telling events Memory = []
