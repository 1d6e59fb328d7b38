use Rattle.law_audit.proofs.Tracked.{tracks}
use Rattle.law_audit.proofs.runs.engines_are_tracked.Goals as goal

pub returns : goal.returns
returns c = λ setting noted node pos ran floors good. tracks setting node pos good noted ran floors
