use Rattle.law_member.proofs.Histories.{synced-read}
use Rattle.law_member.proofs.journal.appended_and_synced_records_are_read.Goals as goal

pub returns : goal.returns
returns c = synced-read
