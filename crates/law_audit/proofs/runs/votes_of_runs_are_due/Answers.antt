use Rattle.law_audit.proofs.Voted.{votes_sent}
use Rattle.law_audit.proofs.runs.votes_of_runs_are_due.Goals as goal

pub returns : goal.returns
returns c = votes_sent
