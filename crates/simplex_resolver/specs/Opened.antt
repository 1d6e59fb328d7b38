-- A name for what proofs of this crate unfold together.
use Rattle.std.specs.Prelude.{⊤}
use Rattle.model_resolver.specs.Resolver.{after_taking, handler_message, holds_handled, standing_after}
use Rattle.simplex_resolver.specs.Stands.{StandsFor}

-- what a step takes, and where it leaves the resolver
unfoldable pub takings : ⊤
unfolding StandsFor standing_after after_taking handler_message holds_handled
takings = tt
