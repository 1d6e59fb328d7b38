use Rattle.law_run.proofs.BackingEpochs.{run_names}
use Rattle.law_run.proofs.backing_laws.certificates_name_the_epoch.Goals as goal

pub returns : goal.returns
returns c = run_names
