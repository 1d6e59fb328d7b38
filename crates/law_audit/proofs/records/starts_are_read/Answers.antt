use Rattle.law_audit.proofs.Starting.{start_is_read}
use Rattle.law_audit.proofs.records.starts_are_read.Goals as goal

pub returns : goal.returns
returns c = start_is_read
