-- The text of a refusal.
use Rattle.std.specs.Prelude.{ℕ, List, [], ◌∷◌, ◌++◌, codes, decimal}
use Rattle.simplex_transcript.specs.Names.{field_name}
use Rattle.simplex_transcript.specs.declared.refusal.RunError.{RunError}
use Rattle.simplex_transcript.specs.declared.refusal.RunError.TheVariants as errors
use Rattle.simplex_transcript.specs.declared.refusal.Refusal.{Refusal}
use Rattle.simplex_text.specs.Lines.{pieces}

-- the name of a cause, with that of the item of the setup, if it is one
abbrev pub error_name : RunError → List ℕ
error_name (errors.BadSetup field) = codes "BadSetup:" ++ field_name field
error_name errors.NoMember = codes "NoMember"
error_name errors.NotRunning = codes "NotRunning"
error_name errors.NotStopped = codes "NotStopped"
error_name errors.NoPacket = codes "NoPacket"
error_name errors.NotPending = codes "NotPending"
error_name errors.NotFaulty = codes "NotFaulty"
error_name errors.ForeignFloor = codes "ForeignFloor"
error_name errors.ClockEnd = codes "ClockEnd"
error_name errors.ViewEnd = codes "ViewEnd"
error_name (errors.Forged member subject) = codes "Forged"
error_name errors.Failed = codes "Failed"
error_name errors.Memory = codes "Memory"

-- the line on a cause and its event
abbrev pub refused_line : List ℕ → ℕ → List ℕ
refused_line name event = pieces (codes "refused " ∷ name ∷ codes " at " ∷ decimal event ∷ codes "\n" ∷ [])

-- the text of a refusal
abbrev pub refusal_text : Refusal → List ℕ
refusal_text refusal = refused_line (error_name refusal.error) refusal.event
