use Rattle.law_member.specs.Journal.{after}
use Rattle.law_member.proofs.JournalSections.{replayed-sections}
use Rattle.law_member.proofs.Histories.{rising-after}
use Rattle.law_member.proofs.journal.records_are_read_by_section.Goals as goal

pub returns-clause-rising : goal.returns-clause-rising
returns-clause-rising c = rising-after

pub returns-clause-read : goal.returns-clause-read
returns-clause-read c = λ first past h. replayed-sections (after first past) (rising-after first past h)
