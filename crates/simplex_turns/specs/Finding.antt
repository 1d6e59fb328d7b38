-- What an actor finds in a turn.
use Rattle.std.specs.Prelude.{◌≡◌, Option}
use Rattle.simplex_wire.specs.declared.scheme.Scheme as scheme
use Rattle.simplex_messages.specs.declared.resolver.MailboxMessage.{MailboxMessage}
use Rattle.simplex_messages.specs.declared.resolver.ResolverInput.{ResolverInput}
use Rattle.model_resolver.specs.Resolver.{Made}
use Rattle.simplex_turns.specs.declared.resolver.ResolverThread.{ResolverThread}
use Rattle.simplex_turns.specs.Resolving.{ResolverPlace, resolver_step, resolver_turn}
use Rattle.simplex_turns.specs.Threads.{ResolverIsAt}

-- wherever the old resolver is, its turn is a step on this input, made where the new one is
abbrev pub ResolverFinds : {S : Type 0} {s : scheme.Ghosts S} → ResolverThread S s → ResolverThread S s
    → Option MailboxMessage → Option ResolverInput → Type 0
ResolverFinds old new taken input =
    (made : Made) (place : ResolverPlace) → ResolverIsAt old made place
    → (there : ResolverPlace) × (resolver_turn made old.now place taken ≡ resolver_step made old.now there input)
    × ResolverIsAt new made there
