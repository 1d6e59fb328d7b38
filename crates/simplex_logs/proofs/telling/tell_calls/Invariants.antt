use Rattle.std.proofs.Common.{Bool, List, take}
use Rattle.std.specs.Prelude.{filter_map}
use Rattle.simplex_types.specs.declared.activity.Activity.{Activity}
use Rattle.simplex_log.specs.Stands.{StandsFor}
use Rattle.law_log.specs.Reports.{report_in}
use Rattle.simplex_logs.specs.Taken.{taken_of}
use Rattle.simplex_logs.proofs.telling.tell_calls.Given as goal

abbrev pub invariant-loop-call : goal.invariant-loop-call
invariant-loop-call g l = (verifies : Activity → Bool) (taken : List Activity) → StandsFor g.S.Scheme.verifies g.S.Scheme.members l.fn.log verifies taken
    → StandsFor g.S.Scheme.verifies g.S.Scheme.members l.log verifies (taken_of verifies taken (filter_map report_in (take l.call-index l.calls)))
