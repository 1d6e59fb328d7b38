use Rattle.law_audit.proofs.Lives.{runs_read}
use Rattle.law_audit.proofs.runs.runs_are_read.Goals as goal

pub returns : goal.returns
returns c = runs_read
