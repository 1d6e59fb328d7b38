use Rattle.std.proofs.Common.{sym, refl, ◌∙◌}
use Rattle.std.proofs.lemmas.Result.{IfOk-weaker}
use Rattle.model_run.specs.Setting.{at_epoch_genesis}
use Rattle.simplex_judge.proofs.Verdicts.{few-fails, bad-fails, good-judges}
use Rattle.simplex_judge.proofs.verdict.verdict_on.Goals as goal

pub returns-then-not-are_few : goal.returns-then-not-are_few
returns-then-not-are_few c =
    c.fault_at.ensures ∙ few-fails (at_epoch_genesis c.args.setup.now) c.args.events.now c.args.entries.now (sym c.are_few.ensures ∙ c.if-not-are_few.true)

pub returns-in-Some : goal.returns-in-Some
returns-in-Some c =
    c.fault_at-in-Some.ensures ∙ bad-fails (at_epoch_genesis c.args.setup.now) c.args.events.now c.args.entries.now _ (sym c.are_few.ensures ∙ c.if-not-are_few.false)
    (sym c.first_bad.ensures ∙ c.in-Some.is)

pub returns-in-None : goal.returns-in-None
returns-in-None c =
    IfOk-weaker c.judge_all.result _ _
    (λ verdict is. is (at_epoch_genesis c.args.setup.now) refl
    ∙ good-judges (at_epoch_genesis c.args.setup.now) c.args.events.now c.args.entries.now (sym c.are_few.ensures ∙ c.if-not-are_few.false) (sym c.first_bad.ensures ∙ c.in-None.is))
    c.judge_all.ensures
