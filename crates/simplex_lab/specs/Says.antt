-- What the words make of an input.
use Rattle.std.specs.Prelude.{ℕ, ◌≡◌, ◌≢◌, ◌≤◌, ◌==◌, ◌⊎◌, ◌-◌, ◌++◌, Bool, true, false, List, [], ◌∷◌, Option, None, Some, Ok, Err, codes, decimal, length}
use Rattle.std.specs.Prelude.{option_and_then, if◌then◌else◌}
use Rattle.std.specs.Option.{option_map_or}
use Rattle.std.specs.List.{slice_get}
use Rattle.std.specs.Str.{IsUtf8}
use Rattle.simplex_transcript.specs.declared.node.Node.{Node}
use Rattle.simplex_generator.specs.Unanswered.{node_in}
use Rattle.simplex_lab.specs.Opening.{TellsOpen}
use Rattle.simplex_lab.specs.Refusals.{reason_line}
use Rattle.simplex_transcript.specs.declared.entry.Entry.{Entry}
use Rattle.simplex_transcript.specs.declared.event.Event.{Event}
use Rattle.simplex_transcript.specs.declared.refusal.Refusal.{Refusal}
use Rattle.simplex_transcript.specs.declared.refusal.RunError.{RunError}
use Rattle.simplex_transcript.specs.declared.refusal.RunError.TheVariants as errors
use Rattle.simplex_transcript.specs.declared.setup.Setup.{Setup}
use Rattle.simplex_form.specs.declared.input.Input.{Input}
use Rattle.simplex_front.specs.declared.answer.Answer.{Answer}
use Rattle.simplex_front.specs.Answer.{IsAnswer}
use Rattle.simplex_form.specs.Input.{input_of}
use Rattle.simplex_text.specs.Lines.{PrintedRun, pieces}
use Rattle.simplex_text.specs.Refusals.{refusal_text}
use Rattle.simplex_trace.specs.Trace.{deed_line, lines_of}
use Rattle.simplex_writer.specs.Inputs.{input_text}
use Rattle.model_run.specs.Setting.{at_epoch_genesis}
use Rattle.model_run.specs.Run.{Run}
use Rattle.simplex_run.specs.declared.run.Transcript.{Transcript}
use Rattle.simplex_run.specs.WholeRuns.{WholeRunFrom}
use Rattle.simplex_simulator.specs.Going.{IsRunnable}
use Rattle.simplex_shrinker.specs.Part.{IsPartOf}
use Rattle.simplex_script.specs.Scripts.{script_of}
use Rattle.simplex_script.specs.declared.fault.BadLine.{BadLine}
use Rattle.simplex_script.specs.declared.script.Script.{Script}
use Rattle.simplex_scripts.specs.Playing.{compiled}
use Rattle.simplex_scripts.specs.Rewriting.{rewritten}
use Rattle.simplex_scripts.specs.declared.compiling.Compiled.{Compiled}
use Rattle.simplex_lab.specs.Lines.{makes_as_written}
use Rattle.simplex_lab.specs.Prefix.{earlier, entries_of}
use Rattle.simplex_lab.specs.declared.reason.LabReason.{LabReason}
use Rattle.simplex_lab.specs.declared.reason.LabReason.TheVariants as reasons
use Rattle.simplex_lab.specs.declared.told.Told.{Told}
use Rattle.simplex_lab.specs.declared.told.Told.TheVariants as tells
use Rattle.simplex_lab.specs.declared.words.Order.{Order}
use Rattle.simplex_lab.specs.declared.words.Word.{Word}
use Rattle.simplex_lab.specs.declared.words.Word.TheVariants as asks

-- ---- trace

-- the whole run of the input, told line by line
pub record IsTraced (input : Input) (done : Transcript) (text : List ℕ) : Type 0 where
  pub whole : WholeRunFrom (at_epoch_genesis input.setup) input.events done
  pub told : text ≡ lines_of input.events done.entries

-- the lines of a run, if there is one
abbrev pub lines_if : List Event → Option (List Entry) → List ℕ
lines_if events None = []
lines_if events (Some entries) = lines_of events entries

-- the node of the event of this number, which is counted from 1
abbrev pub node_at : List Event → ℕ → Option Node
node_at events number = if number == 0 then None else option_and_then node_in (slice_get events (number - 1))

-- the line on the event of this number, if there is one
abbrev pub deed_if : List Event → ℕ → List ℕ
deed_if events number = if number == 0 then [] else option_map_or (deed_line number) (slice_get events (number - 1)) []

abbrev pub is_no_node : RunError → Bool
is_no_node errors.NoMember = true
is_no_node _ = false

-- the node of the event that is refused, if there is such a node
abbrev pub refused_node : Input → Refusal → Option Node
refused_node input refusal = if is_no_node refusal.error then None else node_at input.events refusal.event

-- the text tells what is left open for the node, if there are both
abbrev pub TellsOpenIf : List Event → Option (List Entry) → Option Node → List ℕ → Type 0
TellsOpenIf events None _ text = text ≡ []
TellsOpenIf events (Some entries) None text = text ≡ []
TellsOpenIf events (Some entries) (Some node) text = TellsOpen events entries node text

-- the text tells the events before the one that is refused, and that one, the refusal and its reason, and what was open then for its node
pub record TellsRefusal (input : Input) (refusal : Refusal) (text : List ℕ) : Type 0 where
  pub left : List ℕ
  pub tells : TellsOpenIf (earlier input refusal) (entries_of input.setup (earlier input refusal))
      (refused_node input refusal) left
  pub told : text ≡ (((lines_if (earlier input refusal) (entries_of input.setup (earlier input refusal))
      ++ deed_if input.events refusal.event)
      ++ refusal_text refusal) ++ reason_line refusal.error) ++ left

-- the run of the input is this refusal, which the text tells
abbrev pub IsRefused : Input → Refusal → List ℕ → Type 0
IsRefused input refusal text = (Run input.setup input.events ≡ Err refusal) × TellsRefusal input refusal text

-- ---- simulate

-- the text is an input of this setup, with no more events than choices were asked for, of which none is refused
abbrev pub IsMadeFor : Order → Setup → List ℕ → Type 0
IsMadeFor order setup written =
    (events : List Event) × (length events ≤ order.plan.steps) × IsRunnable setup events
    × (written ≡ input_text setup events)

-- the input itself, or what its run reports
abbrev pub simulated_text : Order → List ℕ → Input → Transcript → List ℕ
simulated_text order written made done = if order.shows_events then written else PrintedRun made.events done.entries

-- an input without events was given, and one was written for its setup; what is read from that was run, and is told
pub record IsSimulated (order : Order) (given : Input) (done : Transcript) (text : List ℕ) : Type 0 where
  pub none_given : given.events ≡ []
  pub written : List ℕ
  pub made : Input
  pub for_setup : IsMadeFor order given.setup written
  pub read : input_of written ≡ Ok made
  pub whole : WholeRunFrom (at_epoch_genesis made.setup) made.events done
  pub told : text ≡ simulated_text order written made done

-- such an input was written, and the run of what is read from it is refused
pub record IsRefusedBehind (order : Order) (given : Input) (refusal : Refusal) (text : List ℕ) : Type 0 where
  pub none_given : given.events ≡ []
  pub written : List ℕ
  pub made : Input
  pub for_setup : IsMadeFor order given.setup written
  pub read : input_of written ≡ Ok made
  pub refused : Run made.setup made.events ≡ Err refusal
  pub told : text ≡ refusal_text refusal

-- what is said of an input that was written and is not read
abbrev pub unread_line : ℕ → List ℕ
unread_line place = pieces (codes "unread at " ∷ decimal place ∷ codes "\n" ∷ [])

-- such an input was written, and it is not read at this place
pub record IsUnread (order : Order) (given : Input) (place : ℕ) (text : List ℕ) : Type 0 where
  pub none_given : given.events ≡ []
  pub written : List ℕ
  pub for_setup : IsMadeFor order given.setup written
  pub unread : input_of written ≡ Err place
  pub told : text ≡ unread_line place

-- ---- shrink

-- the text is an input of the same setup with some of the events, in their order, and its run makes the line
pub record IsShrunk (line : List ℕ) (input : Input) (left : List Event) (text : List ℕ) : Type 0 where
  pub makes : makes_as_written input.setup line left ≡ true
  pub few : length left ≤ length input.events
  pub part : IsPartOf left input.events
  pub told : text ≡ input_text input.setup left

-- ---- script

-- the bytes are a script, which comes to these events
pub record ComesTo (bytes : List ℕ) (script : Script) (made : Compiled) : Type 0 where
  pub read : script_of bytes ≡ Ok script
  pub comes : compiled script ≡ Ok made

-- the input that has the events, or the script with what came out
abbrev pub scripted_text : Bool → List ℕ → Script → Compiled → List Entry → List ℕ
scripted_text shows bytes script made entries =
    if shows then input_text script.setup made.events else rewritten bytes made.lines made.events entries

-- the whole run of the script's events is told
pub record IsScripted (shows : Bool) (bytes : List ℕ) (done : Transcript) (text : List ℕ) : Type 0 where
  pub script : Script
  pub made : Compiled
  pub comes : ComesTo bytes script made
  pub whole : WholeRunFrom (at_epoch_genesis script.setup) made.events done
  pub told : text ≡ scripted_text shows bytes script made done.entries

-- the line of the event of this number, which is counted from 1
abbrev pub line_at : List ℕ → ℕ → Option ℕ
line_at lines number = if number == 0 then None else slice_get lines (number - 1)

-- which line it is, if there is one
abbrev pub in_line : Option ℕ → List ℕ
in_line None = []
in_line (Some line) = pieces (codes "in line " ∷ decimal line ∷ codes "\n" ∷ [])

-- a refusal, its line, and why
abbrev pub refused_in : List ℕ → Refusal → List ℕ
refused_in lines refusal = (refusal_text refusal ++ in_line (line_at lines refusal.event)) ++ reason_line refusal.error

-- the run of the script's events is this refusal
pub record IsScriptRefused (bytes : List ℕ) (refusal : Refusal) (text : List ℕ) : Type 0 where
  pub script : Script
  pub made : Compiled
  pub comes : ComesTo bytes script made
  pub refused : Run script.setup made.events ≡ Err refusal
  pub told : text ≡ refused_in made.lines refusal

-- the first bad line of a text: one that cannot be read, or else one that names what is not there
abbrev pub IsBadLine : List ℕ → BadLine → Type 0
IsBadLine bytes bad =
    (script_of bytes ≡ Err bad) ⊎ ((script : Script) × (script_of bytes ≡ Ok script) × (compiled script ≡ Err bad))

-- it is the line at this place; or the bytes are no text
abbrev pub IsBadScript : List ℕ → ℕ → Type 0
IsBadScript bytes place =
    ((bad : BadLine) × IsBadLine bytes bad × (place ≡ bad.line)) ⊎ ((¬ IsUtf8 bytes) × (place ≡ 0))

abbrev pub ScriptDone : Bool → List ℕ → Told → List ℕ → Type 0
ScriptDone shows bytes (tells.Run done) text = IsScripted shows bytes done text
ScriptDone shows bytes _ text = ⊥

abbrev pub ScriptRefused : List ℕ → LabReason → List ℕ → Type 0
ScriptRefused bytes (reasons.Refused refusal) text = IsScriptRefused bytes refusal text
ScriptRefused bytes _ text = ⊥

-- ---- each word

-- the whole work of a word on an input, and its text
abbrev pub DoneOn : Word → Input → Told → List ℕ → Type 0
DoneOn asks.Trace input (tells.Run done) text = IsTraced input done text
DoneOn (asks.Simulate order) input (tells.Run done) text = IsSimulated order input done text
DoneOn (asks.Shrink line) input (tells.Shrunk left) text = IsShrunk line input left text
DoneOn _ input _ text = ⊥

-- why it ends before, and its text
abbrev pub RefusedOn : Word → Input → LabReason → List ℕ → Type 0
RefusedOn asks.Trace input (reasons.Refused refusal) text = IsRefused input refusal text
RefusedOn (asks.Simulate order) input (reasons.Refused refusal) text = IsRefusedBehind order input refusal text
RefusedOn (asks.Simulate order) input (reasons.Unread place) text = IsUnread order input place text
RefusedOn (asks.Shrink line) input reasons.NotMade text =
    (makes_as_written input.setup line input.events ≡ false) × (text ≡ codes "not made\n")
RefusedOn _ input _ text = ⊥

-- the input is not what the word takes: a simulation wants no events
abbrev pub MisreadOn : Word → Input → ℕ → Type 0
MisreadOn (asks.Simulate order) input place = (place ≡ 2) × (input.events ≢ [])
MisreadOn _ input place = ⊥

-- what the work of a word on an input comes to
abbrev pub AnswersOn : Word → Input → Answer Told LabReason → Type 0
AnswersOn word input answer = IsAnswer (DoneOn word input) (RefusedOn word input) (MisreadOn word input) answer

-- the bytes say an input of which this is so
abbrev pub OfInput : List ℕ → (Input → Type 0) → Type 0
OfInput bytes P = (input : Input) × (input_of bytes ≡ Ok input) × P input

-- what a word makes of bytes: of a script, or of an input
abbrev pub Does : Word → List ℕ → Told → List ℕ → Type 0
Does (asks.Script shows) bytes done text = ScriptDone shows bytes done text
Does word bytes done text = OfInput bytes (λ input. DoneOn word input done text)

abbrev pub Refuses : Word → List ℕ → LabReason → List ℕ → Type 0
Refuses (asks.Script shows) bytes reason text = ScriptRefused bytes reason text
Refuses word bytes reason text = OfInput bytes (λ input. RefusedOn word input reason text)

-- the bytes are not of the form at this place, or their input is none that the word takes
abbrev pub Misreads : Word → List ℕ → ℕ → Type 0
Misreads (asks.Script shows) bytes place = IsBadScript bytes place
Misreads word bytes place = (input_of bytes ≡ Err place) ⊎ OfInput bytes (λ input. MisreadOn word input place)

-- what the work of a word on bytes comes to
abbrev pub Answers : Word → List ℕ → Answer Told LabReason → Type 0
Answers word bytes answer = IsAnswer (Does word bytes) (Refuses word bytes) (Misreads word bytes) answer
