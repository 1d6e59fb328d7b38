-- A reporter that may be none.
use Rattle.std.specs.Prelude.{◌≡◌, Result, Ok, Option, Some, None}
use Rattle.std.specs.declared.alloc.AllocError.{AllocError}
use Rattle.simplex_values.specs.declared.feedback.Feedback.{Feedback}
use Rattle.simplex_values.specs.declared.feedback.Feedback.TheVariants as feedback

-- the reporter is told where there is one, and else all is well
abbrev pub if_there : {R A : Type 0} → (R → A → Result Feedback AllocError → R → Type 0) → Option R → A → Result Feedback AllocError → Option R → Type 0
if_there reports None activity answer after = (answer ≡ Ok feedback.Ok) × (after ≡ None)
if_there {R} reports (Some reporter) activity answer after = (left : R) × (after ≡ Some left) × reports reporter activity answer left
