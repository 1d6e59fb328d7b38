use Rattle.std.proofs.Common.{◌∙◌, ap, refl, Err}
use Rattle.std.proofs.lemmas.List.{take_all, drop_all}
use Rattle.model_steps.specs.Performed.{after_calls}
use Rattle.simplex_voter.proofs.Folding.{drop-item}
use Rattle.simplex_voter.proofs.Over.{made-over, failed-over, ended-over, rose-over}
use Rattle.simplex_voter.proofs.Running.{running-begins, running-made, running-failed, running-ended}
use Rattle.simplex_voter.proofs.performing.make_calls.Goals as goal

pub loop-place-init : goal.loop-place-init
unfolding after_calls
loop-place-init g c = (λ order told. running-begins order _ _ _ told, refl, refl)

pub loop-place-preserved : goal.loop-place-preserved
loop-place-preserved g c =
    let item = drop-item c.args.calls.now c.loop-place.place c.index-calls-place.result c.loop-place-test.true c.index-calls-place.is in (
      λ order told.
          let r = c.loop-place.invariant.0 order told in
          let heeds = rw r.tells.is_told at c.in-Ok.ensures.ordered in
          running-made order _ _ _ _ _ _ _ c.index-calls-place.result item r c.in-Ok.ensures.ok heeds.0 heeds.1,
      made-over c.args.calls.now c.loop-place.place c.index-calls-place.result _ _ _ item c.in-Ok.ensures.ok c.loop-place.invariant.1,
      c.in-Ok.ensures.faults ∙ c.loop-place.invariant.2,
    )

pub returns-in-Err-Failed-clause-told : goal.returns-in-Err-Failed-clause-told
returns-in-Err-Failed-clause-told g c = λ order told.
    let r = c.loop-place.invariant.0 order told in
    let heeds = rw (r.tells.is_told, c.in-Err-Failed.field-0-is) at c.in-Err-Failed.ensures.ordered in
    let part = rw r.tells.is_told at (c.in-Err-Failed.ensures.part (ap Err c.in-Err-Failed.field-0-is)) in
    running-failed order _ _ _ _ _ _ _ c.index-calls-place.result
    (drop-item c.args.calls.now c.loop-place.place c.index-calls-place.result c.loop-place-test.true c.index-calls-place.is) r part heeds.0 heeds.1

pub returns-in-Err-Failed-clause-over : goal.returns-in-Err-Failed-clause-over
returns-in-Err-Failed-clause-over g c =
    let heeds = rw c.in-Err-Failed.field-0-is at c.in-Err-Failed.ensures.ordered in
    failed-over c.args.calls.now c.loop-place.place c.index-calls-place.result _ _ _ _ _
    (drop-item c.args.calls.now c.loop-place.place c.index-calls-place.result c.loop-place-test.true c.index-calls-place.is)
    c.loop-place.invariant.1 (c.in-Err-Failed.ensures.part (ap Err c.in-Err-Failed.field-0-is)) heeds

pub returns-in-Err-Failed-clause-faults : goal.returns-in-Err-Failed-clause-faults
returns-in-Err-Failed-clause-faults g c =
    let rose = rw c.in-Err-Failed.field-0-is at c.in-Err-Failed.ensures.faults in
    rose-over _ _ _ c.loop-place.invariant.2 rose.0 rose.1

pub returns-clause-told : goal.returns-clause-told
returns-clause-told g c = λ order told.
    running-ended order _ _ _ _ _ (drop_all _ _ c.loop-place-test.false) (take_all _ _ c.loop-place-test.false) (c.loop-place.invariant.0 order told)

pub returns-clause-over : goal.returns-clause-over
returns-clause-over g c = ended-over _ _ _ _ (take_all _ _ c.loop-place-test.false) c.loop-place.invariant.1

pub returns-clause-faults : goal.returns-clause-faults
returns-clause-faults g c = c.loop-place.invariant.2
