use Rattle.law_agreement.proofs.Keeping.{lives_keep}
use Rattle.law_agreement.proofs.lives.lives_keep_the_invariant.Goals as goal

pub returns : goal.returns
returns c = lives_keep
