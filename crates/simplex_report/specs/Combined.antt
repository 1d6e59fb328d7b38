-- Two reporters in one.
use Rattle.std.specs.Prelude.{◌≡◌, ◌⊎◌, Result, Ok, Err, Option, Some, None, alloc_error}
use Rattle.std.specs.declared.alloc.AllocError.{AllocError}
use Rattle.simplex_values.specs.declared.feedback.Feedback.{Feedback}
use Rattle.simplex_values.specs.declared.feedback.Feedback.TheVariants as feedback
use Rattle.simplex_types.specs.Reporting.{if_there}

-- the worse of two answers
unfoldable pub worse : Feedback → Feedback → Feedback
worse feedback.Closed b = feedback.Closed
worse a feedback.Closed = feedback.Closed
worse feedback.Backoff b = feedback.Backoff
worse a feedback.Backoff = feedback.Backoff
worse feedback.Ok feedback.Ok = feedback.Ok

-- the answer of both, where the first answered this: want of memory, or the worse
abbrev pub with_worse : Feedback → Result Feedback AllocError → Result Feedback AllocError
with_worse first (Err e) = Err e
with_worse first (Ok second) = Ok (worse first second)

-- how the second is told, behind this answer of the first: not at all where that was want of memory
abbrev pub tells_behind : {R A : Type 0} → (R → A → Result Feedback AllocError → R → Type 0)
    → Result Feedback AllocError → R → A → Result Feedback AllocError → R → Type 0
tells_behind reports (Err e) before activity answer after = (answer ≡ Err e) × (after ≡ before)
tells_behind reports (Ok first) before activity answer after =
    (second : Result Feedback AllocError) × reports before activity second after × (answer ≡ with_worse first second)

-- how two that are there are told of one activity: the first, and then the second; or neither, where memory is wanting
-- for a copy
abbrev pub tells_in_turn : {R1 R2 A : Type 0} → (R1 → A → Result Feedback AllocError → R1 → Type 0)
    → (R2 → A → Result Feedback AllocError → R2 → Type 0)
    → R1 → R2 → A → Result Feedback AllocError → R1 → R2 → Type 0
tells_in_turn reports1 reports2 first second activity answer first' second' =
    ((answer ≡ Err alloc_error) × (first' ≡ first) × (second' ≡ second))
    ⊎ ((told : Result Feedback AllocError) × reports1 first activity told first'
    × tells_behind reports2 told second activity answer second')

-- how two are told that may be missing: one alone as it would be by itself
abbrev pub tells_both : {R1 R2 A : Type 0} → (R1 → A → Result Feedback AllocError → R1 → Type 0)
    → (R2 → A → Result Feedback AllocError → R2 → Type 0)
    → Option R1 → Option R2 → A → Result Feedback AllocError → Option R1 → Option R2 → Type 0
tells_both reports1 reports2 None second activity answer first' second' =
    (first' ≡ None) × if_there reports2 second activity answer second'
tells_both reports1 reports2 (Some first) None activity answer first' second' =
    (second' ≡ None) × if_there reports1 (Some first) activity answer first'
tells_both {R1} {R2} reports1 reports2 (Some first) (Some second) activity answer first' second' =
    (left1 : R1) × (left2 : R2) × (first' ≡ Some left1) × (second' ≡ Some left2)
    × tells_in_turn reports1 reports2 first second activity answer left1 left2
