use Rattle.law_audit.proofs.Journals.{journal_is_read}
use Rattle.law_audit.proofs.records.journals_are_read.Goals as goal

pub returns : goal.returns
returns c = journal_is_read
