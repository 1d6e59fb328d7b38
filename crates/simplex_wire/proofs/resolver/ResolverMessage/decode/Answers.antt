use Rattle.std.proofs.Common.{ap, subst, ◌∙◌, arith}
use Rattle.simplex_wire.specs.Format.{whole, IsUnlessMemory}
use Rattle.simplex_wire.specs.ResolverMessage.{resolver_message, FitsResolverMessage}
use Rattle.simplex_wire.proofs.Formats.{is_found_unless, whole_again}
use Rattle.simplex_wire.proofs.Resolvers.{resolver_message_is}
use Rattle.simplex_wire.proofs.resolver.ResolverMessage.decode.Goals as goal

pub returns-clause-found : goal.returns-clause-found
returns-clause-found c = is_found_unless resolver_message FitsResolverMessage resolver_message_is c.args.bytes.now c.whole_resolver_message.result (λ i. omega (arith, c.type_inv.bytes i)) c.whole_resolver_message.ensures

pub returns-clause-only : goal.returns-clause-only
returns-clause-only c = λ v fits e. subst (λ read. IsUnlessMemory c.whole_resolver_message.result read) (ap (whole resolver_message) e ∙ whole_again resolver_message FitsResolverMessage resolver_message_is v fits) c.whole_resolver_message.ensures
