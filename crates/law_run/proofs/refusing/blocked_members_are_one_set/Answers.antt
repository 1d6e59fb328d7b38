use Rattle.std.proofs.Common.{[]}
use Rattle.law_run.specs.Histories.{IsRun}
use Rattle.law_run.proofs.Ran.{run_is_run}
use Rattle.law_run.proofs.OneSet.{one_set}
use Rattle.law_run.proofs.refusing.blocked_members_are_one_set.Goals as goal

pub returns : goal.returns
unfolding IsRun
returns c setting events before node made past member ran = one_set setting before node made past member (run_is_run setting [] events before tt ran)
