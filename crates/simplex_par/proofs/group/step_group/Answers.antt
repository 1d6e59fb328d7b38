use Rattle.std.proofs.Common.{ap, ◌∙◌, length}
use Rattle.simplex_par.proofs.Lists.{refilled}
use Rattle.simplex_par.proofs.Entering.{on-ok, if-err, group-shape, group-makes, group-refuses}
use Rattle.simplex_par.proofs.group.step_group.Goals as goal

pub enter_all-requires-clause-shape : goal.enter_all-requires-clause-shape
enter_all-requires-clause-shape g c =
    let steps = rw c.deref_mut.ensures.value at c.step_all.ensures in
    let same = refilled _ _ _ steps.0 c.in-Ok.lanes.ok.0 in
    group-shape _ _ _ _ _ _ same (ap length same ∙ steps.0) c.in-Ok.ensures.shape steps

pub returns-clause-done : goal.returns-clause-done
returns-clause-done g c =
    let steps = rw c.deref_mut.ensures.value at c.step_all.ensures in
    let same = refilled _ _ _ steps.0 c.in-Ok.lanes.ok.0 in
    on-ok c.enter_all.result c.enter_all.ensures.done (λ enters. group-makes _ _ _ _ _ _ _ _ _ _ same (ap length same ∙ steps.0) c.in-Ok.ensures.lends steps enters)

pub returns-clause-refused : goal.returns-clause-refused
returns-clause-refused g c =
    let steps = rw c.deref_mut.ensures.value at c.step_all.ensures in
    let same = refilled _ _ _ steps.0 c.in-Ok.lanes.ok.0 in
    if-err _ _ c.enter_all.result c.enter_all.ensures.refused (λ refusal refuses whole.
    group-refuses _ _ _ _ _ _ _ _ refusal same (ap length same ∙ steps.0) c.in-Ok.ensures.lends steps (refuses whole))
