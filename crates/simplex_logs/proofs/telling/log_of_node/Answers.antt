use Rattle.std.proofs.Common.{◌≡◌, List, [], subst, take, take_all, arith, ap, ◌∙◌}
use Rattle.std.proofs.lemmas.Result.{IfOk-weaker}
use Rattle.simplex_types.specs.declared.activity.Activity.{Activity}
use Rattle.simplex_types.specs.Evidence.{activity_verifies}
use Rattle.simplex_transcript.specs.declared.entry.Entry.{Entry}
use Rattle.model_log.specs.Log.{log_of}
use Rattle.simplex_log.specs.Stands.{StandsFor}
use Rattle.law_log.specs.Reports.{reported}
use Rattle.simplex_logs.specs.Taken.{taken_of}
use Rattle.simplex_logs.proofs.Told.{taken_entry}
use Rattle.simplex_logs.proofs.telling.log_of_node.Goals as goal

pub loop-entry-preserved : goal.loop-entry-preserved
loop-entry-preserved g c =
    let entries = c.args.entries.now in
    let node = c.args.node in
    let i = c.loop-entry.entry-index in
    let verifies = activity_verifies (g.S.Scheme.verifies c.args.scheme) (g.S.Scheme.members c.args.scheme) in
    let more = c.in_ok-tell_entry.ensures verifies (taken_of verifies [] (reported (take i entries) node)) c.loop-entry.invariant in
    subst (λ (all : List Activity). StandsFor g.S.Scheme.verifies g.S.Scheme.members c.tell_entry.new.log verifies all)
    (taken_entry verifies [] entries node i c.entry-item.result c.loop-entry-test.true c.entry-item.is) more

pub returns : goal.returns
returns g c =
    let entries = c.args.entries.now in
    let node = c.args.node in
    let i = c.loop-entry.entry-index in
    let verifies = activity_verifies (g.S.Scheme.verifies c.args.scheme) (g.S.Scheme.members c.args.scheme) in
    let known =
    c.entries.ensures verifies (taken_of verifies [] (reported (take i entries) node)) c.loop-entry.invariant
    ∙ ap (λ (es : List Entry). log_of verifies (taken_of verifies [] (reported es node))) (take_all i entries (omega arith)) in
    IfOk-weaker c.from_slice.result (λ v. v.items ≡ c.entries.result.now) (λ v. v.items ≡ log_of verifies (taken_of verifies [] (reported entries node)))
    (λ v e. e ∙ known) c.from_slice.ensures.items
