use Rattle.simplex_wire.specs.ResolverMessage.{resolver_message, FitsResolverMessage}
use Rattle.simplex_wire.proofs.Formats.{alone}
use Rattle.simplex_wire.proofs.Resolvers.{resolver_message_is}
use Rattle.simplex_wire.proofs.codec.no_resolver_message_begins_another.Goals as goal

pub returns : goal.returns
returns c = λ v w more fv fw e. alone resolver_message FitsResolverMessage resolver_message_is v w more fv fw e
