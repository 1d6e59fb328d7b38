-- A script: what a run is set up with, and what is to be done in it.
use Rattle.std.specs.Prelude.{ℕ, ◌+◌, ◌==◌, List, [], ◌∷◌, ◌++◌, length, Option, Some, None, Result, Ok, Err, if◌then◌else◌}
use Rattle.std.specs.Str.Lines.{lines}
use Rattle.simplex_transcript.specs.declared.setup.MemberKind.{MemberKind}
use Rattle.simplex_transcript.specs.Usual.{usual}
use Rattle.simplex_script.specs.declared.change.Change.{Change}
use Rattle.simplex_script.specs.declared.command.Command.{Command}
use Rattle.simplex_script.specs.declared.fault.BadLine.{BadLine}
use Rattle.simplex_script.specs.declared.fault.Fault.{Fault}
use Rattle.simplex_script.specs.declared.fault.Fault.TheVariants as faults
use Rattle.simplex_script.specs.declared.script.Script.{Script}
use Rattle.simplex_script.specs.declared.statement.Statement.{Statement}
use Rattle.simplex_script.specs.declared.statement.Statement.TheVariants as says
use Rattle.simplex_script.specs.Settings.{changed}
use Rattle.simplex_script.specs.Statements.{statement_of}

-- the usual setup of these members
abbrev pub blank : List MemberKind → Script
blank members = record { setup = usual members; commands = [] }

-- the network is told once
abbrev pub with_network : Option Script → List MemberKind → Result (Option Script) Fault
with_network (Some script) members = Err faults.Late
with_network None members = Ok (Some (blank members))

-- something is otherwise than usual; no command stands before
abbrev pub with_change : Option Script → Change → Result (Option Script) Fault
with_change None change = Err faults.NoNetwork
with_change (Some script) change =
    if length script.commands == 0
    then Ok (Some (record { setup = changed script.setup change; commands = script.commands }))
    else Err faults.Late

-- a command more
abbrev pub with_command : Option Script → ℕ → Command → Result (Option Script) Fault
with_command None line command = Err faults.NoNetwork
with_command (Some script) line command =
    Ok (Some (record {
      setup = script.setup;
      commands = script.commands ++ record { line = line; command = command } ∷ [];
    }))

-- a statement more
abbrev pub with_statement : Option Script → ℕ → Statement → Result (Option Script) Fault
with_statement draft line says.Nothing = Ok draft
with_statement draft line (says.Network members) = with_network draft members
with_statement draft line (says.Set change) = with_change draft change
with_statement draft line (says.Do command) = with_command draft line command

abbrev pub with_said : Option Script → ℕ → Result Statement Fault → Result (Option Script) Fault
with_said draft line (Ok statement) = with_statement draft line statement
with_said draft line (Err fault) = Err fault

-- a line more
abbrev pub with_line : Option Script → ℕ → List ℕ → Result (Option Script) Fault
with_line draft number line = with_said draft number (statement_of line)

-- there is a script, if the last line left one
abbrev pub finished : ℕ → Option Script → Result Script BadLine
finished number (Some script) = Ok script
finished number None = Err (record { line = number; fault = faults.NoNetwork })

-- goes on with what a line left, or ends at it
abbrev pub on_draft : ℕ → (Option Script → Result Script BadLine) → Result (Option Script) Fault → Result Script BadLine
on_draft number go (Ok draft) = go draft
on_draft number go (Err fault) = Err (record { line = number; fault = fault })

-- the lines behind so many others, of which this was read
abbrev pub read_from : Option Script → ℕ → List (List ℕ) → Result Script BadLine
read_from draft number [] = finished number draft
read_from draft number (line ∷ lines_) =
    on_draft (number + 1) (λ later. read_from later (number + 1) lines_) (with_line draft (number + 1) line)

-- what lines tell
abbrev pub read_lines : List (List ℕ) → Result Script BadLine
read_lines lines_ = read_from None 0 lines_

-- what a text tells, or its first line that is refused
unfoldable pub script_of : List ℕ → Result Script BadLine
script_of text = read_lines (lines text)
