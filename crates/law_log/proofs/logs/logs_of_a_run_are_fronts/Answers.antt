use Rattle.law_log.proofs.Reporting.{run_fronts}
use Rattle.law_log.proofs.logs.logs_of_a_run_are_fronts.Goals as goal

pub returns : goal.returns
returns c = λ setting noted a b i j safe. run_fronts setting.setup noted a b i j safe.agrees
