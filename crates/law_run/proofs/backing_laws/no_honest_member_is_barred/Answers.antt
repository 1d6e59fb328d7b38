use Rattle.law_run.proofs.Barring.{run_unbarred}
use Rattle.law_run.proofs.backing_laws.no_honest_member_is_barred.Goals as goal

pub returns : goal.returns
returns c = run_unbarred
