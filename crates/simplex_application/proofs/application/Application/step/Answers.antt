use Rattle.std.proofs.Common.{◌∙◌, sym, ap}
use Rattle.std.specs.Option.{option_copied}
use Rattle.simplex_application.proofs.Nothing.{queue_stays}
use Rattle.simplex_application.proofs.application.Application.step.Goals as goal

pub returns-in-None-clause-mailbox : goal.returns-in-None-clause-mailbox
returns-in-None-clause-mailbox g c = sym (queue_stays c.args.mailbox.now (sym c.first.ensures ∙ ap option_copied c.in-None.is))
