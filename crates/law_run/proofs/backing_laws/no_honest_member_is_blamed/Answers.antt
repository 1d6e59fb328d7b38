use Rattle.law_run.proofs.Blameless.{run_blameless}
use Rattle.law_run.proofs.backing_laws.no_honest_member_is_blamed.Goals as goal

pub returns : goal.returns
returns c = run_blameless
