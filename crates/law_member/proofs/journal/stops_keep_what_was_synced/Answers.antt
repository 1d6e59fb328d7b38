use Rattle.law_member.proofs.JournalSections.{replayed-crashed, kept_stand}
use Rattle.law_member.proofs.journal.stops_keep_what_was_synced.Goals as goal

pub returns-clause-sections : goal.returns-clause-sections
returns-clause-sections c = replayed-crashed

pub returns-clause-order : goal.returns-clause-order
returns-clause-order c = kept_stand
