use Rattle.simplex_messages.specs.declared.voter.Message.TheVariants as mail
use Rattle.simplex_due.proofs.Stepping.{if_ok, steps_mail}
use Rattle.simplex_due.proofs.steps.on_certificate.Goals as goal

pub returns : goal.returns
returns g c =
    if_ok c.step.result
    (λ due step. steps_mail _ _ _ _ c.read_certificate-reading.result due (mail.Verified c.args.certificate.now) c.read_certificate-reading.ensures step)
    c.step.ensures
