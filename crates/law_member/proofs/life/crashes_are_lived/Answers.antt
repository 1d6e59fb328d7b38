use Rattle.law_member.proofs.Floors.{crash_lived}
use Rattle.law_member.proofs.life.crashes_are_lived.Goals as goal

pub returns : goal.returns
returns c = crash_lived
