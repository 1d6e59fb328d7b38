-- What a line says.
use Rattle.std.specs.Prelude.{ℕ, List, [], ◌∷◌, codes, Option, Some, None, Result, Ok, Err, option_and_then, if◌then◌else◌}
use Rattle.std.specs.Option.{option_map}
use Rattle.std.specs.Str.{bytes_eq}
use Rattle.simplex_script.specs.declared.change.Change.{Change}
use Rattle.simplex_script.specs.declared.command.Command.{Command}
use Rattle.simplex_script.specs.declared.command.Question.TheVariants as questions
use Rattle.simplex_script.specs.declared.fault.Fault.{Fault}
use Rattle.simplex_script.specs.declared.fault.Fault.TheVariants as faults
use Rattle.simplex_script.specs.declared.fault.Form.{Form}
use Rattle.simplex_script.specs.declared.fault.Form.TheVariants as forms
use Rattle.simplex_script.specs.declared.statement.Statement.{Statement}
use Rattle.simplex_script.specs.declared.statement.Statement.TheVariants as says
use Rattle.simplex_script.specs.Kinds.{kinds_of}
use Rattle.simplex_script.specs.Lines.{is_comment, is_told, pair_of, words_of}
use Rattle.simplex_script.specs.Orders.{crash_of, deliver_of, judge_of, lose_of, miss_of, propose_of, resend_of, settle_of, start_of, step_of, tick_of}
use Rattle.simplex_script.specs.Settings.{change_of}

-- what a first word begins
abbrev pub form_of : List ℕ → Option Form
form_of word =
    if bytes_eq word (codes "network") then Some forms.Network else
    if bytes_eq word (codes "set") then Some forms.Set else
    if bytes_eq word (codes "start") then Some forms.Start else
    if bytes_eq word (codes "propose") then Some forms.Propose else
    if bytes_eq word (codes "verify") then Some forms.Verify else
    if bytes_eq word (codes "certify") then Some forms.Certify else
    if bytes_eq word (codes "deliver") then Some forms.Deliver else
    if bytes_eq word (codes "resend") then Some forms.Resend else
    if bytes_eq word (codes "lose") then Some forms.Lose else
    if bytes_eq word (codes "miss") then Some forms.Miss else
    if bytes_eq word (codes "step") then Some forms.Step else
    if bytes_eq word (codes "tick") then Some forms.Tick else
    if bytes_eq word (codes "crash") then Some forms.Crash else
    if bytes_eq word (codes "settle") then Some forms.Settle else
    None

-- NAME VALUE
abbrev pub set_of : List (List ℕ) → Option Change
set_of words = option_and_then (λ pair. change_of pair.0 pair.1) (pair_of words)

abbrev pub set : Option Change → Option Statement
set change = option_map (λ it. says.Set it) change

abbrev pub done : Option Command → Option Statement
done command = option_map (λ it. says.Do it) command

-- what the words behind the first one say
abbrev pub said_by : Form → List (List ℕ) → Option Statement
said_by forms.Network words = option_map (λ it. says.Network it) (kinds_of words)
said_by forms.Set words = set (set_of words)
said_by forms.Start words = done (start_of words)
said_by forms.Propose words = done (propose_of words)
said_by forms.Verify words = done (judge_of questions.Verify words)
said_by forms.Certify words = done (judge_of questions.Certify words)
said_by forms.Deliver words = done (deliver_of words)
said_by forms.Resend words = done (resend_of words)
said_by forms.Lose words = done (lose_of words)
said_by forms.Miss words = done (miss_of words)
said_by forms.Step words = done (step_of words)
said_by forms.Tick words = done (tick_of words)
said_by forms.Crash words = done (crash_of words)
said_by forms.Settle words = done (settle_of words)

abbrev pub unless_none : Form → Option Statement → Result Statement Fault
unless_none form (Some statement) = Ok statement
unless_none form None = Err (faults.Words form)

-- what a command says, if the first word is one
abbrev pub said_as : Option Form → List (List ℕ) → Result Statement Fault
said_as None others = Err faults.NoCommand
said_as (Some form) others = unless_none form (said_by form others)

-- what words say: nothing, if there is none or the first one begins a comment
abbrev pub said_in : List (List ℕ) → Result Statement Fault
said_in [] = Ok says.Nothing
said_in (word ∷ others) = if is_comment word then Ok says.Nothing else said_as (form_of word) others

-- what a line says: nothing, if it tells what came out
unfoldable pub statement_of : List ℕ → Result Statement Fault
statement_of line = if is_told line then Ok says.Nothing else said_in (words_of line)
