use Rattle.law_audit.proofs.Taken.{taking_read}
use Rattle.law_audit.proofs.runs.takings_are_read.Goals as goal

pub returns : goal.returns
returns c = taking_read
