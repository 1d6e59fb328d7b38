use Rattle.law_run.proofs.Worlds.{run_agrees}
use Rattle.law_run.proofs.backing_laws.certificates_agree.Goals as goal

pub returns : goal.returns
returns c = run_agrees
