-- A name for what a clause unfolds to compute a sample.
use Rattle.std.specs.Prelude.{⊤}
use Rattle.simplex_generator.specs.Summary.{evidence_in, finalized_in, greatest_in, stops_in, summary}

-- what is told of a run as a whole
unfoldable pub summaries : ⊤
unfolding summary finalized_in greatest_in evidence_in stops_in
summaries = tt
