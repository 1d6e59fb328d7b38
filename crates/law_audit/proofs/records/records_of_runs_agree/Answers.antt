use Rattle.law_audit.proofs.Telling.{genuine}
use Rattle.law_audit.proofs.Agreeing.{agrees}
use Rattle.law_audit.proofs.records.records_of_runs_agree.Goals as goal

pub returns-clause-genuine : goal.returns-clause-genuine
returns-clause-genuine c = genuine

pub returns-clause-agrees : goal.returns-clause-agrees
returns-clause-agrees c = agrees
