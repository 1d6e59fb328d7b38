use Rattle.law_run.proofs.BackingSampling.{late_whole, late_refused}
use Rattle.law_run.proofs.backing_samples.late_certificates_do_not_count.Goals as goal

pub returns-clause-whole : goal.returns-clause-whole
returns-clause-whole c = late_whole

pub returns-clause-refused : goal.returns-clause-refused
returns-clause-refused c = late_refused
