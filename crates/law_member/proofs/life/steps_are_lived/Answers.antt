use Rattle.law_member.proofs.LifeStepping.{step_lived}
use Rattle.law_member.proofs.life.steps_are_lived.Goals as goal

pub returns : goal.returns
returns c = step_lived
