-- Which words the program takes.
use Rattle.std.specs.Prelude.{◌≡◌, ◌<◌, ◌≤◌, ◌^◌, ◌⊎◌, ℕ, List, [], ◌∷◌, map, codes, decimal, String, string_bytes}
use Rattle.std.specs.declared.alloc.Global.{Global}
use Rattle.simplex_program.specs.declared.command.Command.{Command}
use Rattle.simplex_program.specs.declared.command.Command.TheVariants as commands
use Rattle.simplex_program.specs.declared.command.TheConstants.{MOST_STEPS, MOST_WORKERS}

-- `run`; `par` and how many workers; or `gen`, a number below 2^64 and how many events, each number as it is printed
abbrev pub Says : List (String Global) → Command → Type 0
Says words commands.Run = map string_bytes words ≡ codes "run" ∷ []
Says words (commands.Par workers) =
    (map string_bytes words ≡ codes "par" ∷ decimal workers ∷ []) × (1 ≤ workers) × (workers ≤ MOST_WORKERS)
Says words (commands.Gen number steps) =
    (map string_bytes words ≡ codes "gen" ∷ decimal number ∷ decimal steps ∷ []) × (number < 2 ^ 64)
    × (steps ≤ MOST_STEPS)

-- the words ask for something
abbrev pub AreTaken : List (String Global) → Type 0
AreTaken words = (command : Command) × Says words command

-- the words ask for the run of what the source says, by one worker or by more
abbrev pub AsksForRun : List (String Global) → Type 0
AsksForRun words = Says words commands.Run ⊎ ((workers : ℕ) × Says words (commands.Par workers))
