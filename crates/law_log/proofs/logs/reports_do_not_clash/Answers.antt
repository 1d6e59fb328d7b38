use Rattle.law_log.proofs.Reporting.{run_no_clash}
use Rattle.law_log.proofs.logs.reports_do_not_clash.Goals as goal

pub returns : goal.returns
returns c = λ setting noted node taken later activity safe e. run_no_clash setting.setup noted node taken later activity safe.agrees e
