use Rattle.simplex_engine.proofs.ResolverMail.{nothing-handled}
use Rattle.simplex_engine.proofs.crew.Crew.take_handler_mail.Goals as goal

pub returns-else-holds_handler-clause-message : goal.returns-else-holds_handler-clause-message
returns-else-holds_handler-clause-message g c =
    λ told parts h. nothing-handled parts.resolver parts.asked _ c.if-holds_handler.false (c.holds_handler.ensures _ _ h.resolver)
