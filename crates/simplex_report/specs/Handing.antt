-- How a reporter is told of all that an entry reports.
use Rattle.std.specs.Prelude.{◌≡◌, ◌⊎◌, List, [], ◌∷◌, Result, Ok, Err, Option, Some, None, alloc_error}
use Rattle.std.specs.List.{filter_map}
use Rattle.std.specs.declared.alloc.AllocError.{AllocError}
use Rattle.simplex_values.specs.declared.feedback.Feedback.{Feedback}
use Rattle.simplex_types.specs.declared.activity.Activity.{Activity}
use Rattle.simplex_messages.specs.declared.call.Call.{Call}
use Rattle.simplex_messages.specs.declared.call.Call.TheVariants as calls
use Rattle.simplex_transcript.specs.declared.entry.Entry.{Entry}
use Rattle.simplex_report.specs.Combined.{worse}

-- the activity that a call reports
abbrev pub report_of : Call → Option Activity
report_of (calls.Report activity) = Some activity
report_of _ = None

-- what an entry reports, in order
abbrev pub reported_in : Entry → List Activity
reported_in entry = filter_map report_of entry.calls

-- how it goes on behind this answer of the reporter: not at all where that was want of memory, and else with the worse
-- of its answers
abbrev pub goes_on : {R : Type 0} → Feedback → Result Feedback AllocError → R → Result Feedback AllocError → R
    → (Feedback → Type 0) → Type 0
goes_on told (Err e) left answer after behind = (answer ≡ Err e) × (after ≡ left)
goes_on told (Ok next) left answer after behind = behind (worse told next)

-- how a reporter that gave this answer so far is told of activities, in order. Where memory is wanting for a copy, it
-- is not told of that one, nor of those behind it
unfoldable pub tells_all : {R : Type 0} → (R → Activity → Result Feedback AllocError → R → Type 0) → R → Feedback
    → List Activity → Result Feedback AllocError → R → Type 0
tells_all reports before told [] answer after = (answer ≡ Ok told) × (after ≡ before)
tells_all {R} reports before told (activity ∷ activities) answer after =
    ((answer ≡ Err alloc_error) × (after ≡ before))
    ⊎ ((one : Result Feedback AllocError) × (left : R) × reports before activity one left
    × goes_on told one left answer after (λ worst. tells_all reports left worst activities answer after))
