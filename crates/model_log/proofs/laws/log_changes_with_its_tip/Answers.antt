use Rattle.model_log.proofs.Moving.{changes_with_tip}
use Rattle.model_log.proofs.laws.log_changes_with_its_tip.Goals as goal

pub returns : goal.returns
returns c = changes_with_tip
