use Rattle.law_audit.proofs.Ordered.{votes_stored}
use Rattle.law_audit.proofs.runs.votes_of_runs_are_stored.Goals as goal

pub returns : goal.returns
returns c = votes_stored
