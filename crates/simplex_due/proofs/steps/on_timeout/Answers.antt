use Rattle.std.proofs.Common.{refl}
use Rattle.simplex_messages.specs.declared.voter.Message.TheVariants as mail
use Rattle.model_audit.specs.Taking.{learned, touched}
use Rattle.simplex_due.proofs.Stepping.{if_ok, steps_mail}
use Rattle.simplex_due.proofs.steps.on_timeout.Goals as goal

pub returns : goal.returns
unfolding learned touched
returns g c =
    if_ok c.step.result
    (λ due step reason. steps_mail _ _ _ _ _ due (mail.Timeout c.args.round.now reason)
    (record { learns = λ made known now k. refl; touches = λ made known k. refl })
    step)
    c.step.ensures
