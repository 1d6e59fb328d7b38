-- A name for what a clause unfolds to compute a sample.
use Rattle.std.specs.Prelude.{⊤}
use Rattle.model_run.specs.Computed.{run}
use Rattle.law_cluster.specs.Samples.{are_histories, goes_on, lives_by, play}
use Rattle.law_cluster.specs.TornSamples.{are_blank, blank_lives}
use Rattle.law_cluster.specs.Signatures.{calls_in, calls_of}

-- what computes what members of a sample did and sent
unfoldable pub samples : ⊤
unfolding run are_blank are_histories blank_lives goes_on lives_by play calls_in calls_of
samples = tt
