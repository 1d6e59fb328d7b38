-- Which ending the program comes to, and why.
use Rattle.std.specs.Prelude.{◌≡◌, ◌≤◌, ◌⊎◌, ℕ, nat_lt, if◌then◌else◌, List, [], length, Option, Result, Ok, Err, String}
use Rattle.std.specs.declared.alloc.Global.{Global}
use Rattle.simplex_transcript.specs.declared.event.Event.{Event}
use Rattle.simplex_transcript.specs.declared.entry.Entry.{Entry}
use Rattle.simplex_transcript.specs.declared.refusal.Refusal.{Refusal}
use Rattle.simplex_form.specs.declared.input.Input.{Input}
use Rattle.simplex_form.specs.Input.{input_of}
use Rattle.simplex_io.specs.Io.{TakesAll, TakesOver, TakesWithin, Rose}
use Rattle.model_run.specs.Run.{Run}
use Rattle.simplex_generator.specs.Setup.{setup_of}
use Rattle.simplex_generator.specs.Generated.{generated}
use Rattle.simplex_program.specs.declared.command.Command.TheVariants as commands
use Rattle.simplex_program.specs.declared.text.Telling.{Telling}
use Rattle.simplex_program.specs.declared.text.Telling.TheVariants as tellings
use Rattle.simplex_program.specs.Words.{Says, AreTaken, AsksForRun}
use Rattle.simplex_io.specs.declared.read.TheConstants.{LIMIT}
use Rattle.simplex_program.specs.Exit.{Ending, Ran, Refused, BadWords, BadInput, TooLong, ReadFault, WriteFault, Memory}

-- a run is whole, or refused at an event
abbrev pub ending_of_run : Result (List Entry) Refusal → Ending
ending_of_run (Ok entries) = Ran entries
ending_of_run (Err refusal) = Refused refusal.error refusal.event

-- what is of the form is run
abbrev pub ending_of_input : Result Input ℕ → Ending
ending_of_input (Ok input) = ending_of_run (Run input.setup input.events)
ending_of_input (Err place) = BadInput place

-- the ending that an input leads to
abbrev pub ending_of : List ℕ → Ending
ending_of bytes = ending_of_input (input_of bytes)

-- the same for a source with these bytes
abbrev pub ending_for : List ℕ → Ending
ending_for bytes = if nat_lt LIMIT (length bytes) then TooLong else ending_of bytes

-- the events of an input, and none where it is not of the form
abbrev pub events_in : Result Input ℕ → List Event
events_in (Ok input) = input.events
events_in (Err place) = []

-- the events that the bytes say
abbrev pub events_of : List ℕ → List Event
events_of bytes = events_in (input_of bytes)

-- the whole source was read: it says these events, and leads to this ending
abbrev pub LeadsTo : Option (List ℕ) → Option (List ℕ) → List Event → Ending → Type 0
LeadsTo old new events ending =
    (bytes : List ℕ) × TakesAll old bytes new × (length bytes ≤ LIMIT) × (events_of bytes ≡ events)
    × (ending_of bytes ≡ ending)

-- the words ask for events that a number makes, nothing was read, and the run of these leads to this ending
abbrev pub IsGenerated : List (String Global) → Option (List ℕ) → Option (List ℕ) → List Event → Ending → Type 0
IsGenerated words old new events ending =
    (number steps : ℕ) × Says words (commands.Gen number steps) × (new ≡ old) × (generated number steps ≡ events)
    × (ending_of_run (Run (setup_of number) events) ≡ ending)

-- a run of what the source says is told by its lines, and one of what a number makes is summed up
abbrev pub IsRunOf : List (String Global) → Option (List ℕ) → Option (List ℕ) → Telling → List Event → Ending → Type 0
IsRunOf words old new tellings.Lines events ending = AsksForRun words × LeadsTo old new events ending
IsRunOf words old new tellings.Summary events ending = IsGenerated words old new events ending

-- Why an ending is chosen, before its text is written: by the words, by what is left of the source before and after,
-- and by its count of faults before and after.
abbrev pub Cause : List (String Global) → Option (List ℕ) → Option (List ℕ) → ℕ → ℕ → Telling
    → List Event → Ending → Type 0
Cause words old new before now telling events (Ran entries) = IsRunOf words old new telling events (Ran entries)
Cause words old new before now telling events (Refused error event) =
    IsRunOf words old new telling events (Refused error event)
Cause words old new before now telling events (BadInput place) =
    AsksForRun words × LeadsTo old new events (BadInput place)
Cause words old new before now telling events BadWords = (¬ AreTaken words) × (new ≡ old)
Cause words old new before now telling events TooLong = AsksForRun words × TakesOver LIMIT old new
Cause words old new before now telling events ReadFault = AsksForRun words × Rose before now × TakesWithin LIMIT old new
Cause words old new before now telling events WriteFault = ⊥
Cause words old new before now telling events Memory = AsksForRun words ⊎ (new ≡ old)

-- writing the text or memory failed
abbrev pub IsCut : Ending → Type 0
IsCut ending = (ending ≡ WriteFault) ⊎ (ending ≡ Memory)

-- reading, writing or memory failed
abbrev pub IsFault : Ending → Type 0
IsFault ending = (ending ≡ ReadFault) ⊎ (ending ≡ WriteFault) ⊎ (ending ≡ Memory)
