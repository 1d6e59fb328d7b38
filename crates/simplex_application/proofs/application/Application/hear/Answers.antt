use Rattle.std.proofs.Common.{◌∙◌, sym, ap}
use Rattle.std.specs.Option.{option_copied}
use Rattle.simplex_application.proofs.Nothing.{relay_stays}
use Rattle.simplex_application.proofs.application.Application.hear.Goals as goal

pub returns-in-None-clause-relay : goal.returns-in-None-clause-relay
returns-in-None-clause-relay g c = sym (relay_stays c.args.relay.now c.args.self.now.inbox (sym c.front.ensures ∙ ap option_copied c.in-None.is))
