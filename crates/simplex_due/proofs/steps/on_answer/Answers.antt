use Rattle.simplex_due.proofs.Stepping.{if_ok, steps_reply}
use Rattle.simplex_due.proofs.steps.on_answer.Goals as goal

pub returns : goal.returns
returns g c =
    if_ok c.step.result
    (λ due step. steps_reply _ _ _ _ c.read_answer-reading.result due c.args.asked.now c.args.answer.now c.read_answer-reading.ensures step)
    c.step.ensures
