use Rattle.law_member.proofs.Histories.{synced-after, read-after}
use Rattle.law_member.proofs.journal.synced_records_stay.Goals as goal

pub returns-clause-synced : goal.returns-clause-synced
returns-clause-synced c = synced-after

pub returns-clause-read : goal.returns-clause-read
returns-clause-read c = read-after
