use Rattle.law_epochs.proofs.Joining.{joined}
use Rattle.law_epochs.proofs.laws.chains_are_fronts.Goals as goal

pub returns : goal.returns
returns c = joined
