-- Why a program has no chains to write, and how it says so.
use Rattle.std.specs.Prelude.{ℕ, List, [], ◌∷◌, Option, Some, None, codes, decimal}
use Rattle.simplex_transcript.specs.declared.refusal.Refusal.{Refusal}
use Rattle.simplex_text.specs.Lines.{pieces}
use Rattle.simplex_text.specs.Refusals.{error_name}
use Rattle.model_epochs.specs.declared.chain.EpochError.{EpochError}
use Rattle.model_epochs.specs.declared.chain.EpochError.TheVariants as errors
use Rattle.simplex_epochs.specs.declared.reason.ChainReason.{ChainReason}
use Rattle.simplex_epochs.specs.declared.reason.ChainReason.TheVariants as reasons

-- the error that a reason is
abbrev pub error_of : ChainReason → EpochError
error_of (reasons.WrongEpoch place) = errors.WrongEpoch place
error_of (reasons.Run place refusal) = errors.Run place refusal
error_of (reasons.Open place found) = errors.Open place found

-- the reason that an error is, where it is not want of memory
abbrev pub reason_of : EpochError → Option ChainReason
reason_of (errors.WrongEpoch place) = Some (reasons.WrongEpoch place)
reason_of (errors.Run place refusal) = Some (reasons.Run place refusal)
reason_of (errors.Open place found) = Some (reasons.Open place found)
reason_of errors.Memory = None

-- a run was refused for the cause of this name, at this event of the epoch at this place
abbrev pub refused_line : List ℕ → ℕ → ℕ → List ℕ
refused_line name event place = pieces
    (codes "refused " ∷ name ∷ codes " at " ∷ decimal event ∷ codes " in " ∷ decimal place ∷ codes "\n" ∷ [])

-- the line on a reason
abbrev pub reason_text : ChainReason → List ℕ
reason_text (reasons.WrongEpoch place) = pieces (codes "wrong epoch at " ∷ decimal place ∷ codes "\n" ∷ [])
reason_text (reasons.Run place refusal) = refused_line (error_name refusal.error) refusal.event place
reason_text (reasons.Open place found) = pieces (codes "open at " ∷ decimal place ∷ codes "\n" ∷ [])

-- the status with which the process ends
abbrev pub reason_status : ChainReason → ℕ
reason_status (reasons.WrongEpoch place) = 8
reason_status (reasons.Run place refusal) = 9
reason_status (reasons.Open place found) = 10
