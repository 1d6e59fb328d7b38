use Rattle.law_run.proofs.Whole.{run_possible}
use Rattle.law_run.proofs.complete.runs_are_possible.Goals as goal

pub returns : goal.returns
returns c = run_possible
