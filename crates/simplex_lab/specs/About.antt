-- What is said on the program itself.
use Rattle.std.specs.Prelude.{◌≡◌, ℕ, List, [], ◌∷◌, Option, None, Some, String, codes, map, string_bytes, if◌then◌else◌}
use Rattle.std.specs.declared.alloc.Global.{Global}
use Rattle.simplex_front.specs.Words.{is_alone}
use Rattle.simplex_front.specs.declared.exit.Exit.{Exit}
use Rattle.simplex_front.specs.declared.exit.Exit.TheVariants as exits
use Rattle.simplex_text.specs.Lines.{pieces}
use Rattle.simplex_lab.specs.declared.reason.LabReason.{LabReason}
use Rattle.simplex_lab.specs.declared.told.Told.{Told}
use Rattle.simplex_lab.specs.declared.told.Told.TheVariants as tells

-- the words and their ranges
abbrev pub help : List ℕ
help = pieces (
    codes "trace                      tells what each event of an input did; of a refused run also why, and what was open then\n" ∷
    codes "simulate SEED STEPS ..     makes events for a setup without events, and tells what they report\n" ∷
    codes "    SEED                   0 to 18446744073709551615: what is drawn is drawn from it\n" ∷
    codes "    STEPS                  0 to 1048576 choices, of which each makes one event or none\n" ∷
    codes "    --drop P               of 100 packets so many are lost: 0 to 100\n" ∷
    codes "    --repeat P             so many are delivered twice: 0 to 100\n" ∷
    codes "    --delay P              so many are delivered behind all that waits: 0 to 100\n" ∷
    codes "    --crash P              of 100 steps so many are crashes, after which the node starts again: 0 to 100\n" ∷
    codes "    --events               writes the input that was made, in place of what it reports\n" ∷
    codes "shrink LINE                leaves events out while the run still makes the line, and writes the input that is left\n" ∷
    codes "    LINE                   what a line of a run says behind its event, as 'node 0.0 stopped crash', or 'refused NoPacket'\n" ∷
    codes "script [--events]          reads a script in place of an input, and writes it with what each line came to below it\n" ∷
    codes "    --events               writes the input that has its events, in place of the script\n" ∷
    codes "--help                     this text\n" ∷
    codes "--version                  the program's version\n" ∷
    codes "An input, or a script, is read from standard input.\n" ∷
    [])

abbrev pub version : List ℕ
version = codes "simplex_lab 1.0.0\n"

-- what is said where the words ask for words on the program alone
abbrev pub said_on : List (String Global) → Option (List ℕ)
said_on words =
    if is_alone (codes "--help") (map string_bytes words) then Some help else
    if is_alone (codes "--version") (map string_bytes words) then Some version else
    None

-- where something is said on the program, the source stays as it is; else this is the cause
abbrev pub SaidOr : Option (List ℕ) → Option (List ℕ) → Option (List ℕ) → Exit Told LabReason → List ℕ → Type 0 → Type 0
SaidOr None old new exit text cause = cause
SaidOr (Some said) old new exit text cause = (exit ≡ exits.Done tells.Words) × (text ≡ said) × (new ≡ old)
