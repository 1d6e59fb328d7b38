use Rattle.law_run.proofs.Genuine.{run_genuine}
use Rattle.law_run.proofs.backing_laws.certificates_are_genuine.Goals as goal

pub returns : goal.returns
returns c = run_genuine
