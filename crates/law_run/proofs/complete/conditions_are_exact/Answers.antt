use Rattle.law_run.proofs.Exact.{exact}
use Rattle.law_run.proofs.complete.conditions_are_exact.Goals as goal

pub returns : goal.returns
returns c = exact
