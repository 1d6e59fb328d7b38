-- A name for what proofs of this crate unfold together.
use Rattle.std.specs.Prelude.{⊤}
use Rattle.simplex_values.specs.Terms.{term_index, term_start}

-- where a term begins
unfoldable pub terms : ⊤
unfolding term_start term_index
terms = tt
