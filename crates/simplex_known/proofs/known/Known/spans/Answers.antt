use Rattle.model_rules.specs.Ancestry.{gap_between, is_covered}
use Rattle.simplex_known.proofs.known.Known.spans.Goals as goal

pub returns : goal.returns
unfolding gap_between
returns c = λ made known k. c.spans.ensures (is_covered made known) k.covers
