-- What words ask for. Places count from 0, which is the command's word.
use Rattle.std.specs.Prelude.{ℕ, suc, ◌==◌, ◌||◌, Bool, false, List, [], ◌∷◌, Option, Some, None, codes, if◌then◌else◌}
use Rattle.std.specs.Str.{bytes_eq}
use Rattle.simplex_commands.specs.Commands.{command_of, fits, flag_of, needs_of, takes_file, takes_flag, value_of}
use Rattle.simplex_commands.specs.declared.command.Command.{Command}
use Rattle.simplex_commands.specs.declared.command.Command.TheVariants as commands
use Rattle.simplex_commands.specs.declared.flag.Flag.{Flag}
use Rattle.simplex_commands.specs.declared.parameter.Parameter.{Parameter}
use Rattle.simplex_commands.specs.declared.request.Request.{Request}
use Rattle.simplex_commands.specs.declared.request.Request.TheVariants as requests
use Rattle.simplex_commands.specs.declared.request.Wrong.TheVariants as wrongs

-- it begins with a dash
abbrev pub is_dashed : List ℕ → Bool
is_dashed [] = false
is_dashed (byte ∷ bytes) = byte == 45

abbrev pub is_help : List ℕ → Bool
is_help word = bytes_eq word (codes "--help") || bytes_eq word (codes "-h")

abbrev pub asks_help : List (List ℕ) → Bool
asks_help [] = false
asks_help (word ∷ after) = is_help word || asks_help after

abbrev pub asks_version : List (List ℕ) → Bool
asks_version [] = false
asks_version (word ∷ after) = bytes_eq word (codes "--version") || asks_version after

-- the one where there is none, else what the other makes of it
abbrev pub either : {A B : Type 0} → B → (A → B) → Option A → B
either none some None = none
either none some (Some it) = some it

-- what is needed is there: options in any order, each before its value, and a file, from this place on
abbrev mutual
  pub rest_of : Command → ℕ → Option ℕ → List (List ℕ) → Request
  rest_of command place file [] = requests.Perform command file
  rest_of command place file (word ∷ after) =
      if is_dashed word then
      either (requests.Wrong (wrongs.UnknownOption command place)) (λ flag.
      if takes_flag command flag then
      either (rest_of command (suc place) file after) (λ wanted. value_at command (suc place) wanted file after) (value_of flag)
      else requests.Wrong (wrongs.UnknownOption command place))
      (flag_of word)
      else
      either (if takes_file command then rest_of command (suc place) (Some place) after
      else requests.Wrong (wrongs.TooMany command place))
      (λ other. requests.Wrong (wrongs.TooMany command place))
      file

  -- the word at this place is the value of an option
  pub value_at : Command → ℕ → Parameter → Option ℕ → List (List ℕ) → Request
  value_at command place wanted file [] = requests.Wrong (wrongs.Missing command wanted)
  value_at command place wanted file (word ∷ after) =
      if fits wanted word then rest_of command (suc place) file after else requests.Wrong (wrongs.Unfit command place wanted)

-- the word at this place is this option, or none
abbrev pub option_of : Command → ℕ → Option Flag → Option ℕ → List (List ℕ) → Request
option_of command place flag file after =
    either (requests.Wrong (wrongs.UnknownOption command place)) (λ one.
    if takes_flag command one then
    either (rest_of command (suc place) file after) (λ wanted. value_at command (suc place) wanted file after) (value_of one)
    else requests.Wrong (wrongs.UnknownOption command place))
    flag

-- the word at this place is a file, or one too many
abbrev pub file_of : Command → ℕ → Option ℕ → List (List ℕ) → Request
file_of command place file after =
    either (if takes_file command then rest_of command (suc place) (Some place) after
    else requests.Wrong (wrongs.TooMany command place))
    (λ other. requests.Wrong (wrongs.TooMany command place))
    file

-- what the command needs, and then the rest, from this place on
abbrev pub needed : Command → ℕ → List Parameter → List (List ℕ) → Request
needed command place [] words = rest_of command place None words
needed command place (wanted ∷ more) [] = requests.Wrong (wrongs.Missing command wanted)
needed command place (wanted ∷ more) (word ∷ after) =
    if fits wanted word then needed command (suc place) more after else requests.Wrong (wrongs.Unfit command place wanted)

abbrev pub topic : Option Command → Request
topic None = requests.Wrong (wrongs.UnknownCommand 1)
topic (Some command) = requests.Help (Some command)

-- the command that help is asked for, if one is named
abbrev pub topic_of : List (List ℕ) → Request
topic_of [] = requests.Help None
topic_of (word ∷ []) = topic (command_of word)
topic_of (word ∷ next ∷ after) = requests.Wrong (wrongs.TooMany commands.Help 2)

abbrev pub version_of : List (List ℕ) → Request
version_of [] = requests.Version
version_of (word ∷ after) = requests.Wrong (wrongs.TooMany commands.Version 1)

-- what a command is asked for by the words behind its own
abbrev pub command_with : Command → List (List ℕ) → Request
command_with commands.Help words = topic_of words
command_with commands.Version words = version_of words
command_with command words = needed command 1 (needs_of command) words

abbrev pub command_by : Option Command → List (List ℕ) → Request
command_by None words = requests.Wrong (wrongs.UnknownCommand 0)
command_by (Some command) words = command_with command words

-- words for help count first, and then those for the version
abbrev pub request_of : List (List ℕ) → Request
request_of [] = requests.Wrong wrongs.NoCommand
request_of (word ∷ after) =
    if asks_help (word ∷ after) then requests.Help (command_of word) else
    if asks_version (word ∷ after) then requests.Version else
    command_by (command_of word) after
