use Rattle.law_member.proofs.Floors.{start_lived}
use Rattle.law_member.proofs.life.starts_are_lived.Goals as goal

pub returns : goal.returns
returns c = start_lived
