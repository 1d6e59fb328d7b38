use Rattle.law_epochs.proofs.Joining.{agreed}
use Rattle.law_epochs.proofs.laws.long_logs_agree.Goals as goal

pub returns : goal.returns
returns c = agreed
