use Rattle.std.proofs.Common.{ap, ◌∙◌}
use Rattle.simplex_wire.specs.Format.{whole}
use Rattle.simplex_wire.specs.ResolverMessage.{resolver_message, FitsResolverMessage}
use Rattle.simplex_wire.proofs.Formats.{whole_again}
use Rattle.simplex_wire.proofs.Resolvers.{resolver_message_is}
use Rattle.simplex_wire.proofs.resolver.ResolverMessage.encode.Goals as goal

pub returns-clause-again : goal.returns-clause-again
returns-clause-again c = λ short. ap (whole resolver_message) (rw c.new-out.ensures.items at c.in_ok-push.ensures.spelled) ∙ whole_again resolver_message FitsResolverMessage resolver_message_is c.args.self.now (c.in_ok-push.ensures.fits.0, (c.in_ok-push.ensures.fits.1, short))
