use Rattle.std.proofs.Common.{[], take}
use Rattle.simplex_types.specs.Evidence.{activity_verifies}
use Rattle.simplex_log.specs.Stands.{StandsFor}
use Rattle.law_log.specs.Reports.{reported}
use Rattle.simplex_logs.specs.Taken.{taken_of}
use Rattle.simplex_logs.proofs.telling.log_of_node.Given as goal

abbrev pub invariant-loop-entry : goal.invariant-loop-entry
invariant-loop-entry g l =
    let verifies = activity_verifies (g.S.Scheme.verifies l.fn.scheme) (g.S.Scheme.members l.fn.scheme) in
    StandsFor g.S.Scheme.verifies g.S.Scheme.members l.log verifies (taken_of verifies [] (reported (take l.entry-index l.entries) l.node))
