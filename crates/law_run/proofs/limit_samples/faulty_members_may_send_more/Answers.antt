use Rattle.law_run.proofs.LimitSampling.{long_one}
use Rattle.law_run.proofs.limit_samples.faulty_members_may_send_more.Goals as goal

pub returns : goal.returns
returns c = long_one
