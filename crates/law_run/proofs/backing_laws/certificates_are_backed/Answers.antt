use Rattle.law_run.proofs.Owning.{run_backed}
use Rattle.law_run.proofs.backing_laws.certificates_are_backed.Goals as goal

pub returns : goal.returns
returns c = run_backed
