use Rattle.std.proofs.Common.{refl, rules}
use Rattle.model_rules.specs.Lists.{greatest_of}
use Rattle.model_log.specs.Walks.{walk_within}
use Rattle.simplex_values.specs.Maps.{found}
use Rattle.simplex_log.specs.Kept.{top_in, log_to}
use Rattle.simplex_log.proofs.finals.Finals.new.Goals as goal

pub returns : goal.returns
unfolding greatest_of walk_within found top_in log_to
returns c = record { tops_are = λ view _. search rules; tip_is = refl; entries_are = c.new.ensures.items }
