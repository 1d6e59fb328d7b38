-- The commands, their options, and what each of them takes.
use Rattle.std.specs.Prelude.{ℕ, ◌^◌, ◌-◌, ◌&&◌, Bool, true, false, nat_le, List, [], ◌∷◌, Option, Some, None, codes, if◌then◌else◌}
use Rattle.std.specs.Str.{bytes_eq}
use Rattle.simplex_names.specs.Numbers.{number_of}
use Rattle.simplex_commands.specs.declared.command.Command.{Command}
use Rattle.simplex_commands.specs.declared.command.Command.TheVariants as commands
use Rattle.simplex_commands.specs.declared.flag.Flag.{Flag}
use Rattle.simplex_commands.specs.declared.flag.Flag.TheVariants as flags
use Rattle.simplex_commands.specs.declared.parameter.Parameter.{Parameter}
use Rattle.simplex_commands.specs.declared.parameter.Parameter.TheVariants as parameters
use Rattle.simplex_commands.specs.declared.parameter.TheConstants.{ALWAYS, MOST_STEPS, MOST_WORKERS}

abbrev pub command_word : Command → List ℕ
command_word commands.Run = codes "run"
command_word commands.Par = codes "par"
command_word commands.Gen = codes "gen"
command_word commands.Trace = codes "trace"
command_word commands.Script = codes "script"
command_word commands.Simulate = codes "simulate"
command_word commands.Shrink = codes "shrink"
command_word commands.Logs = codes "logs"
command_word commands.Balances = codes "balances"
command_word commands.Chain = codes "chain"
command_word commands.Record = codes "record"
command_word commands.Check = codes "check"
command_word commands.View = codes "view"
command_word commands.Help = codes "help"
command_word commands.Version = codes "version"

unfoldable pub command_of : List ℕ → Option Command
command_of word =
    if bytes_eq word (codes "run") then Some commands.Run else
    if bytes_eq word (codes "par") then Some commands.Par else
    if bytes_eq word (codes "gen") then Some commands.Gen else
    if bytes_eq word (codes "trace") then Some commands.Trace else
    if bytes_eq word (codes "script") then Some commands.Script else
    if bytes_eq word (codes "simulate") then Some commands.Simulate else
    if bytes_eq word (codes "shrink") then Some commands.Shrink else
    if bytes_eq word (codes "logs") then Some commands.Logs else
    if bytes_eq word (codes "balances") then Some commands.Balances else
    if bytes_eq word (codes "chain") then Some commands.Chain else
    if bytes_eq word (codes "record") then Some commands.Record else
    if bytes_eq word (codes "check") then Some commands.Check else
    if bytes_eq word (codes "view") then Some commands.View else
    if bytes_eq word (codes "help") then Some commands.Help else
    if bytes_eq word (codes "version") then Some commands.Version else
    None

-- what has to stand behind the command's word
abbrev pub needs_of : Command → List Parameter
needs_of commands.Par = parameters.Workers ∷ []
needs_of commands.Gen = parameters.Seed ∷ parameters.Steps ∷ []
needs_of commands.Simulate = parameters.Seed ∷ parameters.Steps ∷ []
needs_of commands.Shrink = parameters.Line ∷ []
needs_of command = []

-- whether it reads an input
unfoldable pub takes_file : Command → Bool
takes_file commands.Gen = false
takes_file commands.Help = false
takes_file commands.Version = false
takes_file command = true

abbrev pub lies_within : ℕ → ℕ → Option ℕ → Bool
lies_within least most None = false
lies_within least most (Some number) = nat_le least number && nat_le number most

-- a number in digits, from the one up to the other
abbrev pub is_within : ℕ → ℕ → List ℕ → Bool
is_within least most word = lies_within least most (number_of word)

-- whether a word is what it has to be
unfoldable pub fits : Parameter → List ℕ → Bool
fits parameters.Workers word = is_within 1 MOST_WORKERS word
fits parameters.Seed word = is_within 0 (2 ^ 64 - 1) word
fits parameters.Steps word = is_within 0 MOST_STEPS word
fits parameters.Chance word = is_within 0 ALWAYS word
fits parameters.Line word = true
fits parameters.Folder word = true

abbrev pub flag_word : Flag → List ℕ
flag_word flags.Drop = codes "--drop"
flag_word flags.Repeat = codes "--repeat"
flag_word flags.Delay = codes "--delay"
flag_word flags.Crash = codes "--crash"
flag_word flags.Events = codes "--events"
flag_word flags.Page = codes "--page"

unfoldable pub flag_of : List ℕ → Option Flag
flag_of word =
    if bytes_eq word (codes "--drop") then Some flags.Drop else
    if bytes_eq word (codes "--repeat") then Some flags.Repeat else
    if bytes_eq word (codes "--delay") then Some flags.Delay else
    if bytes_eq word (codes "--crash") then Some flags.Crash else
    if bytes_eq word (codes "--events") then Some flags.Events else
    if bytes_eq word (codes "--page") then Some flags.Page else
    None

abbrev pub is_of_simulation : Flag → Bool
is_of_simulation flags.Page = false
is_of_simulation flag = true

abbrev pub is_events : Flag → Bool
is_events flags.Events = true
is_events flag = false

abbrev pub is_page : Flag → Bool
is_page flags.Page = true
is_page flag = false

-- whether the command takes the option
unfoldable pub takes_flag : Command → Flag → Bool
takes_flag commands.Simulate flag = is_of_simulation flag
takes_flag commands.Script flag = is_events flag
takes_flag commands.View flag = is_page flag
takes_flag command flag = false

-- what stands behind the option
unfoldable pub value_of : Flag → Option Parameter
value_of flags.Events = None
value_of flags.Page = Some parameters.Folder
value_of flag = Some parameters.Chance
