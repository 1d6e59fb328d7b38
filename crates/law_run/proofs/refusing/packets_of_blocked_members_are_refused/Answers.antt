use Rattle.std.proofs.Common.{[]}
use Rattle.law_run.specs.Histories.{IsRun}
use Rattle.law_run.proofs.Ran.{run_is_run}
use Rattle.law_run.proofs.Refusals.{refused_exactly, refused_empty, refused_alone}
use Rattle.law_run.proofs.refusing.packets_of_blocked_members_are_refused.Goals as goal

pub returns-clause-exactly : goal.returns-clause-exactly
unfolding IsRun
returns-clause-exactly c setting events before node at packet noted ran = refused_exactly setting before node at packet noted (run_is_run setting [] events before tt ran)

pub returns-clause-empty : goal.returns-clause-empty
unfolding IsRun
returns-clause-empty c setting events before node at packet noted ran = refused_empty setting before node at packet noted (run_is_run setting [] events before tt ran)

pub returns-clause-alone : goal.returns-clause-alone
returns-clause-alone c = refused_alone
