use Rattle.model_run.proofs.Whole.{groups_same}
use Rattle.model_run.proofs.groups.groups_change_nothing.Goals as goal

pub returns : goal.returns
returns c = groups_same
