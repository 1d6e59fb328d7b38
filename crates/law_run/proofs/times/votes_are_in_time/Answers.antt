use Rattle.law_run.proofs.InTime.{votes_in_time}
use Rattle.law_run.proofs.times.votes_are_in_time.Goals as goal

pub returns : goal.returns
returns c = votes_in_time
