use Rattle.law_audit.proofs.Conflicting.{tested}
use Rattle.law_audit.proofs.sound.conflicts_are_tested.Goals as goal

pub returns : goal.returns
returns c = tested
