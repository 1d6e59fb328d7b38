-- The status of each exit, and the texts that all programs share.
use Rattle.std.specs.Prelude.{ℕ, List, ◌++◌, codes, decimal}
use Rattle.simplex_front.specs.declared.exit.Exit.{Exit}
use Rattle.simplex_front.specs.declared.exit.Exit.TheVariants as exits

-- the status with which the process ends, where a reason of the program's own has this one
abbrev pub exit_status : {D R : Type 0} → (R → ℕ) → Exit D R → ℕ
exit_status status (exits.Done done) = 0
exit_status status (exits.Refused reason) = status reason
exit_status status exits.BadWords = 2
exit_status status (exits.BadInput place) = 3
exit_status status exits.TooLong = 4
exit_status status exits.ReadFault = 5
exit_status status exits.WriteFault = 6
exit_status status exits.Memory = 7

-- the same exit, of which the work is forgotten
abbrev pub without_work : {D R : Type 0} → Exit D R → Exit (Unit {0}) R
without_work (exits.Done done) = exits.Done tt
without_work (exits.Refused reason) = exits.Refused reason
without_work exits.BadWords = exits.BadWords
without_work (exits.BadInput place) = exits.BadInput place
without_work exits.TooLong = exits.TooLong
without_work exits.ReadFault = exits.ReadFault
without_work exits.WriteFault = exits.WriteFault
without_work exits.Memory = exits.Memory

-- the line on an input that is not of the form
abbrev pub bad_input_line : ℕ → List ℕ
bad_input_line place = codes "bad input at " ++ (decimal place ++ codes "\n")

-- the line on an input that is too long
abbrev pub too_long_line : List ℕ
too_long_line = codes "input too long\n"
