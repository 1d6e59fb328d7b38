-- A name for what proofs of this crate unfold together.
use Rattle.std.specs.Prelude.{⊤}
use Rattle.simplex_values.specs.Covers.{covers}
use Rattle.simplex_values.specs.Terms.{next_of, next_term_start, term_end, term_index, term_start}

-- where terms begin and end
unfoldable pub terms : ⊤
unfolding term_index term_start term_end next_term_start next_of covers
terms = tt
