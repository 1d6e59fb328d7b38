use Rattle.law_epochs.proofs.Linked.{linked}
use Rattle.law_epochs.proofs.laws.epochs_are_linked.Goals as goal

pub returns : goal.returns
returns c = linked
