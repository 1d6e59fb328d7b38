use Rattle.law_member.proofs.Wholly.{done_wholly}
use Rattle.law_member.proofs.performed.done_steps_give_all.Goals as goal

pub returns : goal.returns
returns c = done_wholly
