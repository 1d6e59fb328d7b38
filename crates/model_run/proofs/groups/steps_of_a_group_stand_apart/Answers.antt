use Rattle.model_run.proofs.Apart.{stands_apart}
use Rattle.model_run.proofs.groups.steps_of_a_group_stand_apart.Goals as goal

pub returns : goal.returns
returns c = stands_apart
