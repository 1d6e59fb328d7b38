use Rattle.law_audit.proofs.Allowed.{allowed_read}
use Rattle.law_audit.proofs.Reaching.{ends_read}
use Rattle.law_audit.proofs.runs.events_are_allowed.Goals as goal

pub returns : goal.returns
returns c = λ setting before event noted pos ran floors e. allowed_read setting before event noted ran (ends_read setting before pos ran floors) e
