use Rattle.law_run.proofs.Ran.{runs_safely}
use Rattle.law_run.proofs.safe.runs_are_safe.Goals as goal

pub returns : goal.returns
returns c = runs_safely
