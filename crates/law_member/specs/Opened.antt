-- A name for what proofs of this crate unfold together.
use Rattle.std.specs.Prelude.{⊤}
use Rattle.model_rules.specs.Calls.{adds_finalization, adds_notarization, adds_nullification, facts_of}

-- which certificates a call adds
unfoldable pub added : ⊤
unfolding facts_of adds_notarization adds_nullification adds_finalization
added = tt
