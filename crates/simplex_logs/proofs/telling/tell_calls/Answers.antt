use Rattle.std.proofs.Common.{List, subst, take}
use Rattle.std.specs.Prelude.{filter_map}
use Rattle.simplex_types.specs.declared.activity.Activity.{Activity}
use Rattle.simplex_log.specs.Stands.{StandsFor}
use Rattle.law_log.specs.Reports.{report_in}
use Rattle.simplex_logs.specs.Taken.{taken_of}
use Rattle.simplex_logs.proofs.Told.{taken_call}
use Rattle.simplex_logs.proofs.telling.tell_calls.Goals as goal

pub loop-call-preserved : goal.loop-call-preserved
loop-call-preserved g c = λ verifies taken stands.
    let calls = c.args.calls.now in
    let i = c.loop-call.call-index in
    let so_far = c.loop-call.invariant verifies taken stands in
    let more = c.in_ok-tell_call.ensures verifies (taken_of verifies taken (filter_map report_in (take i calls))) so_far in
    subst (λ (all : List Activity). StandsFor g.S.Scheme.verifies g.S.Scheme.members c.tell_call.new.log verifies all)
    (taken_call verifies taken calls i c.call-item.result c.loop-call-test.true c.call-item.is) more
