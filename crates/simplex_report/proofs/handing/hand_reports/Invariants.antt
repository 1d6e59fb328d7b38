use Rattle.std.proofs.Common.{length}
use Rattle.std.specs.List.{filter_map}
use Rattle.std.specs.Prelude.{Result}
use Rattle.std.specs.declared.alloc.AllocError.{AllocError}
use Rattle.simplex_values.specs.declared.feedback.Feedback.{Feedback}
use Rattle.simplex_values.specs.declared.feedback.Feedback.TheVariants as feedback
use Rattle.simplex_report.specs.Handing.{report_of, reported_in, tells_all}
use Rattle.simplex_report.proofs.handing.hand_reports.Given as goal

-- however the reports that are left are told, all are told
abbrev pub invariant-loop-rest : goal.invariant-loop-rest
invariant-loop-rest g l =
    (answer : Result Feedback AllocError) (after : g.row.R.Denot)
    → tells_all g.R.Reporter.reports l.reporter l.told (filter_map report_of l.rest) answer after
    → tells_all g.R.Reporter.reports l.initial.reporter feedback.Ok (reported_in l.entry) answer after

abbrev pub decreases-loop-rest : goal.decreases-loop-rest
decreases-loop-rest g l = length l.rest
