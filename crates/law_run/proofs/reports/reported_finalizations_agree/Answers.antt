use Rattle.law_run.proofs.OneChain.{reports_agree, reports_on_chains}
use Rattle.law_run.proofs.reports.reported_finalizations_agree.Goals as goal

pub returns-clause-pairs : goal.returns-clause-pairs
returns-clause-pairs c = λ setting noted f g safe. reports_agree setting.setup noted f g safe.genuine safe.agrees

pub returns-clause-chains : goal.returns-clause-chains
returns-clause-chains c = λ setting noted f safe. reports_on_chains setting.setup noted f safe.genuine safe.agrees
