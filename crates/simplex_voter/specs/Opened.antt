-- A name for what proofs of this crate unfold together.
use Rattle.std.specs.Prelude.{⊤}
use Rattle.model_rules.specs.Calls.{known_of}
use Rattle.simplex_state.specs.Stands.{made_of}
use Rattle.simplex_voter.specs.Arrivals.{AllBelow, AllKept}
use Rattle.simplex_voter.specs.Stands.{doing_of}

-- what a plan does, and which calls it makes
unfoldable pub plans : ⊤
unfolding doing_of made_of known_of AllKept AllBelow
plans = tt
