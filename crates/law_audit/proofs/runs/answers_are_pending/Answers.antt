use Rattle.law_audit.proofs.Pending.{pending_read}
use Rattle.law_audit.proofs.runs.answers_are_pending.Goals as goal

pub returns : goal.returns
returns c = λ setting before node noted w ran good. pending_read setting node good before noted w ran
