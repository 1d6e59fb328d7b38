use Rattle.law_audit.proofs.Following.{followed}
use Rattle.law_audit.proofs.records.steps_are_followed.Goals as goal

pub returns : goal.returns
returns c = followed
