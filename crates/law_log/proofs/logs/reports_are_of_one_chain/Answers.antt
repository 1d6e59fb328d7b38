use Rattle.law_log.proofs.Reporting.{reported_is_chain, reported_was}
use Rattle.law_log.proofs.logs.reports_are_of_one_chain.Goals as goal

pub returns-clause-consistent : goal.returns-clause-consistent
returns-clause-consistent c = λ setting noted activities safe all. reported_is_chain setting.setup noted activities safe.agrees all

pub returns-clause-reported : goal.returns-clause-reported
returns-clause-reported c = reported_was
