use Rattle.model_log.proofs.Chaining.{logs_are_fronts}
use Rattle.model_log.proofs.laws.consistent_logs_are_fronts.Goals as goal

pub returns : goal.returns
returns c = logs_are_fronts
