use Rattle.law_audit.proofs.Fitted.{fitted}
use Rattle.law_audit.proofs.runs.entries_fit_their_events.Goals as goal

pub returns : goal.returns
returns c = fitted
