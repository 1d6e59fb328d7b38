-- A name for what proofs of this crate unfold together.
use Rattle.std.specs.Prelude.{⊤}
use Rattle.model_steps.specs.Batcher.{at_first, standing_after}
use Rattle.simplex_batcher.specs.Rounds.{found}
use Rattle.simplex_batcher.specs.Stands.{StandsFor, batcher_made}

-- where a batcher stands at first
unfoldable pub beginning : ⊤
unfolding StandsFor batcher_made found standing_after at_first
beginning = tt
