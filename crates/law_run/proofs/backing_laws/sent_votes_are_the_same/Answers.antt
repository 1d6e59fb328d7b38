use Rattle.law_run.proofs.Sent.{all_same, test_decides}
use Rattle.law_run.proofs.backing_laws.sent_votes_are_the_same.Goals as goal

pub returns-clause-listed : goal.returns-clause-listed
returns-clause-listed c = all_same

pub returns-clause-found : goal.returns-clause-found
returns-clause-found c = test_decides
