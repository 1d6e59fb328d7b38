use Rattle.std.proofs.Common.{refl}
use Rattle.model_rules.specs.Lists.{greatest_of}
use Rattle.model_log.specs.Walks.{walk_within}
use Rattle.simplex_log.proofs.kept.Kept.new.Goals as goal

pub returns : goal.returns
unfolding greatest_of walk_within
returns c = record { links_are = c.new.ensures; finals_are = c.new-2.ensures; last_is = refl; end_is = refl }
