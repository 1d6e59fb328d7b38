use Rattle.law_run.proofs.ForgingSampling.{telling, answers}
use Rattle.law_run.proofs.forging_samples.a_faulty_member_answers.Goals as goal
use Rattle.std.proofs.Common.{[], ◌∷◌}

pub returns : goal.returns
returns c = (telling ∷ [], answers)
