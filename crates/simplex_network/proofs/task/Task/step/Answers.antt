use Rattle.std.proofs.Common.{sym, ◌∙◌, ap, refl}
use Rattle.simplex_network.proofs.Lending.{step-makes, given-steps, rests-steps}
use Rattle.simplex_network.specs.Stages.{is_done}
use Rattle.simplex_network.proofs.task.Task.step.Goals as goal

pub returns-in-Given-clause-makes : goal.returns-in-Given-clause-makes
returns-in-Given-clause-makes c = step-makes _ _ c.in-Given.given (sym c.replace-stage.ensures.value ∙ c.in-Given.is) c.make-came.ensures.now c.make-came.ensures.came

pub returns-in-Given-clause-steps : goal.returns-in-Given-clause-steps
returns-in-Given-clause-steps c =
    given-steps _ _ c.in-Given.given (sym c.replace-stage.ensures.value ∙ c.in-Given.is) c.make-came.ensures.done
    (step-makes _ _ c.in-Given.given (sym c.replace-stage.ensures.value ∙ c.in-Given.is) c.make-came.ensures.now c.make-came.ensures.came)

pub returns-in-Made-clause-steps : goal.returns-in-Made-clause-steps
returns-in-Made-clause-steps c =
    let was = sym c.replace-stage.ensures.value ∙ c.in-Made.is in
    rests-steps _ _ (ap is_done was) (sym was) refl

pub returns-in-Refused-clause-steps : goal.returns-in-Refused-clause-steps
returns-in-Refused-clause-steps c =
    let was = sym c.replace-stage.ensures.value ∙ c.in-Refused.is in
    rests-steps _ _ (ap is_done was) (sym was) refl
