-- A name for what a clause unfolds to compute a sample.
use Rattle.std.specs.Prelude.{⊤}
use Rattle.model_rules.specs.Lists.{greatest_of}
use Rattle.model_log.specs.Links.{proposals_of, finals_of}
use Rattle.model_log.specs.Log.{log_of, gap_of}
use Rattle.model_log.specs.Observing.{clash_of}
use Rattle.model_log.specs.Walks.{walk_within}

-- what computes a log
unfoldable pub logs : ⊤
unfolding proposals_of finals_of walk_within log_of gap_of clash_of greatest_of
logs = tt
