use Rattle.law_member.proofs.VoterStepping.{step_tells}
use Rattle.law_member.proofs.knowledge.proposals_are_taken.Goals as goal

pub returns : goal.returns
returns c = λ made now input standing doing e. let t = step_tells made now input standing doing e in t.learned
