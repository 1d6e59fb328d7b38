use Rattle.law_epochs.proofs.Chains.{closed_as}
use Rattle.law_epochs.proofs.laws.epochs_close_as_one.Goals as goal

pub returns : goal.returns
returns c = closed_as
